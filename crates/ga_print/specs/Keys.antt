-- What is counted under each key as CSV (own profile): a header row, and a row for each key, in their order, as `csv` writes it by
-- its defaults.
use Rattle.std.specs.Prelude.{ℕ, List, [], ◌∷◌, ◌++◌, codes, decimal, length}
use Rattle.ga_base.specs.declared.counts.Sums.{Sums}
use Rattle.ga_base.specs.declared.key.Key.{Key}
use Rattle.ga_summary.specs.SummaryRows.{SummaryRow, SummaryValue}
use Rattle.ga_print.specs.Csv.{line}
use Rattle.ga_print.specs.Names.{panel_name}

abbrev pub key_header : List (List ℕ)
key_header =
    codes "panel" ∷ codes "date" ∷ codes "parent" ∷ codes "data" ∷ codes "method" ∷ codes "protocol" ∷ codes "hits" ∷ codes "bytes" ∷ codes "micros"
    ∷ codes "max_micros" ∷ codes "visitors" ∷ []

abbrev pub fields_of : List ℕ → Key → Sums → ℕ → List (List ℕ)
fields_of panel key sums visitors =
    panel ∷ decimal key.date ∷ key.parent ∷ key.label ∷ key.method ∷ key.protocol ∷ decimal sums.hits ∷ decimal sums.bytes ∷ decimal sums.micros
    ∷ decimal sums.max_micros ∷ decimal visitors ∷ []

abbrev pub key_fields : SummaryRow → List (List ℕ)
key_fields row = fields_of (panel_name row.key.panel) row.key row.sums (length row.names)

abbrev pub key_lines : List SummaryRow → List ℕ
key_lines [] = []
key_lines (row ∷ rows) = line (key_fields row) ++ key_lines rows

unfoldable pub keys_text : SummaryValue → List ℕ
keys_text s = line key_header ++ key_lines s.rows
