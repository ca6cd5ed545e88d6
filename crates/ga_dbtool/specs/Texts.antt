-- What the tool says of a database.
use Rattle.std.specs.Prelude.{ℕ, List, ◌++◌, length, codes, decimal}
use Rattle.ga_store.specs.Database.{DbValue}
use Rattle.ga_summary.specs.SummaryRows.{SummaryValue}

-- a line of a name and a number
abbrev pub number_line : List ℕ → ℕ → List ℕ
number_line name n = name ++ decimal n ++ codes "\n"

unfoldable pub facts_text : ℕ → ℕ → SummaryValue → ℕ → List ℕ
facts_text generation records summary entries =
    number_line (codes "generation ") generation ++ number_line (codes "records ") records ++ number_line (codes "lines ") summary.totals.lines
    ++ number_line (codes "failed ") summary.totals.failed ++ number_line (codes "excluded ") summary.totals.excluded
    ++ number_line (codes "keys ") (length summary.rows) ++ number_line (codes "entries ") entries

-- how much is in it: seven numbers, a line each
abbrev pub check_text : DbValue → List ℕ
check_text db = facts_text db.generation db.records db.summary (length db.entries)
