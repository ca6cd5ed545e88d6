-- What a summary is seen as: its totals, and the row of each key that it has.
use Rattle.std.specs.Prelude.{Bool, ◌==◌, ◌&&◌, List, [], Option, length, map, ◌+◌, max}
use Rattle.std.specs.Option.{option_map_or, option_map}
use Rattle.std.specs.List.{find, list_any, All}
use Rattle.std.specs.List.Sorted.{IsStrictlySortedBy}
use Rattle.ga_base.specs.declared.key.Key.{Key}
use Rattle.ga_base.specs.declared.key.Visitor.{Visitor}
use Rattle.ga_base.specs.declared.counts.Sums.{Sums}
use Rattle.ga_base.specs.declared.counts.Totals.{Totals}
use Rattle.ga_base.specs.declared.counts.Amounts.{Amounts}
use Rattle.ga_base.specs.declared.name.Name.{Name}
use Rattle.ga_base.specs.Orders.{key_cmp, name_cmp, is_same_key, is_same_name, name_of}

-- a key with its sums, and the names of its visitors, whose day is the key's
pub record SummaryRow : Type 0 where
  pub key : Key
  pub sums : Sums
  pub names : List Name

pub record SummaryValue : Type 0 where
  pub totals : Totals
  pub rows : List SummaryRow

-- keys rise along the rows, and names along each row's list, so none comes twice
pub record IsInOrder (rows : List SummaryRow) : Type 0 where
  pub keys : IsStrictlySortedBy key_cmp (map (λ row. row.key) rows)
  pub names : All (λ row. IsStrictlySortedBy name_cmp row.names) rows

-- the row of a key
abbrev pub row_at : List SummaryRow → Key → Option SummaryRow
row_at rows key = find (λ row. is_same_key key row.key) rows

abbrev pub no_sums : Sums
no_sums = record { hits = 0; bytes = 0; micros = 0; max_micros = 0 }

-- a key's sums, which are 0 where it has no row
abbrev pub sums_at : List SummaryRow → Key → Sums
sums_at rows key = option_map_or (λ row. row.sums) (row_at rows key) no_sums

-- the names of a key's visitors
abbrev pub names_at : List SummaryRow → Key → List Name
names_at rows key = option_map_or (λ row. row.names) (row_at rows key) []

abbrev pub has_name : List Name → Name → Bool
has_name names name = list_any (λ n. is_same_name name n) names

-- whether a key has a visitor
abbrev pub has_pair : List SummaryRow → Key → Visitor → Bool
has_pair rows key visitor = (visitor.date == key.date) && has_name (names_at rows key) (name_of visitor)

-- what is told of a key
abbrev pub amounts_of : SummaryRow → Amounts
amounts_of row = record { hits = row.sums.hits; bytes = row.sums.bytes; micros = row.sums.micros; max_micros = row.sums.max_micros; visitors = length row.names }

abbrev pub amounts_at : List SummaryRow → Key → Option Amounts
amounts_at rows key = option_map amounts_of (row_at rows key)

abbrev pub sums_plus : Sums → Sums → Sums
sums_plus a b = record { hits = a.hits + b.hits; bytes = a.bytes + b.bytes; micros = a.micros + b.micros; max_micros = max a.max_micros b.max_micros }
