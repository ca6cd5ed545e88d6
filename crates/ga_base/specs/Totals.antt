-- The totals over all lines: their sum, and the limits that they keep.
use Rattle.std.specs.Prelude.{◌≡◌, ◌≤◌, ◌+◌}
use Rattle.ga_base.specs.declared.counts.TheConstants.{LIMIT}
use Rattle.ga_base.specs.declared.counts.Totals.{Totals}

-- the totals of no lines
abbrev pub no_totals : Totals
no_totals = record { lines = 0; failed = 0; excluded = 0; hits = 0; bytes = 0; micros = 0 }

abbrev pub totals_plus : Totals → Totals → Totals
totals_plus a b = record { lines = a.lines + b.lines; failed = a.failed + b.failed; excluded = a.excluded + b.excluded; hits = a.hits + b.hits; bytes = a.bytes + b.bytes; micros = a.micros + b.micros }

-- no counter is above its limit
pub record TotalsFit (totals : Totals) : Type 0 where
  pub lines : totals.lines ≤ LIMIT
  pub bytes : totals.bytes ≤ LIMIT
  pub micros : totals.micros ≤ LIMIT

-- each line was counted, failed or excluded
abbrev pub LinesAdd : Totals → Type 0
LinesAdd totals = totals.hits + totals.failed + totals.excluded ≡ totals.lines
