-- What rows sum to.
use Rattle.std.specs.Prelude.{◌+◌, ◌≤◌, List, sum_by}
use Rattle.ga_base.specs.declared.counts.Sums.{Sums}
use Rattle.ga_base.specs.declared.counts.TheConstants.{BIG}
use Rattle.ga_base.specs.declared.counts.Totals.{Totals}
use Rattle.ga_summary.specs.declared.load.Load.{Load}
use Rattle.ga_summary.specs.SummaryRows.{SummaryRow}

abbrev pub sums_load : Sums → Load
sums_load sums = record { hits = sums.hits; bytes = sums.bytes; micros = sums.micros }

abbrev pub totals_load : Totals → Load
totals_load totals = record { hits = totals.hits; bytes = totals.bytes; micros = totals.micros }

abbrev pub no_load : Load
no_load = record { hits = 0; bytes = 0; micros = 0 }

abbrev pub load_plus : Load → Load → Load
load_plus a b = record { hits = a.hits + b.hits; bytes = a.bytes + b.bytes; micros = a.micros + b.micros }

abbrev pub load_of : List SummaryRow → Load
load_of rows = record { hits = sum_by (λ row. row.sums.hits) rows; bytes = sum_by (λ row. row.sums.bytes) rows; micros = sum_by (λ row. row.sums.micros) rows }

pub record LoadWithin (load most : Load) : Type 0 where
  pub hits : load.hits ≤ most.hits
  pub bytes : load.bytes ≤ most.bytes
  pub micros : load.micros ≤ most.micros

-- a maximum is a time, and at most the sum of the times
abbrev pub TimeFits : Sums → Type 0
TimeFits sums = (sums.max_micros ≤ BIG) × (sums.max_micros ≤ sums.micros)
