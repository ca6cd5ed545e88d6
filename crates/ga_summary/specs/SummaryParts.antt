-- The parts that a summary is made from: what they are seen as, and where they first break.
use Rattle.std.specs.Prelude.{◌≡◌, ℕ, ◌+◌, ◌<◌, ◌≤◌, ◌⊎◌, List, length, map, take}
use Rattle.ga_summary.specs.declared.summary_parts.PartRow.{PartRow}
use Rattle.ga_summary.specs.declared.summary_parts.SummaryParts.{SummaryParts}
use Rattle.ga_summary.specs.SummaryRows.{SummaryRow, SummaryValue, IsInOrder}
use Rattle.ga_summary.specs.Sound.{RowsAreSound, TotalsAreSound}

-- what parts are seen as
abbrev pub row_of_part : PartRow → SummaryRow
row_of_part part = record { key = part.key; sums = part.sums; names = part.names }

abbrev pub rows_in : List PartRow → List SummaryRow
rows_in parts = map row_of_part parts

abbrev pub value_of : SummaryParts → SummaryValue
value_of parts = record { totals = parts.totals; rows = rows_in parts.rows }

-- rows that a summary may have, whatever its totals
pub record RowsAreGood (rows : List SummaryRow) : Type 0 where
  pub ordered : IsInOrder rows
  pub sound : RowsAreSound rows

-- with the row at a place the rows are no longer good; or the place is their number, and the totals don't go with them
abbrev pub BreaksAt : SummaryValue → ℕ → Type 0
BreaksAt s at = ((at < length s.rows) × ¬ RowsAreGood (take (at + 1) s.rows))
    ⊎ ((at ≡ length s.rows) × ¬ TotalsAreSound s)

-- the first place where a value that is no summary breaks: the rows before it are good
pub record IsFirstBad (s : SummaryValue) (at : ℕ) : Type 0 where
  pub before : (n : ℕ) → n ≤ at → RowsAreGood (take n s.rows)
  pub here : BreaksAt s at
