-- The summary of one counted line.
use Rattle.std.specs.Prelude.{ℕ, List, [], ◌∷◌, Option, Some, None, map, unwrap_or}
use Rattle.ga_base.specs.declared.key.Key.{Key}
use Rattle.ga_base.specs.declared.key.Visitor.{Visitor}
use Rattle.ga_base.specs.declared.counts.Sums.{Sums}
use Rattle.ga_base.specs.declared.counts.Totals.{Totals}
use Rattle.ga_base.specs.declared.record.Record.{Record}
use Rattle.ga_base.specs.declared.name.Name.{Name}
use Rattle.ga_base.specs.Orders.{name_of}
use Rattle.ga_summary.specs.Outcomes.{Hit}
use Rattle.ga_summary.specs.SummaryRows.{SummaryRow, SummaryValue}

-- the names of one visitor or none
abbrev pub names_of : Option Visitor → List Name
names_of None = []
names_of (Some visitor) = name_of visitor ∷ []

-- the sums of one line
abbrev pub line_sums : ℕ → ℕ → Sums
line_sums bytes micros = record { hits = 1; bytes = bytes; micros = micros; max_micros = micros }

-- the totals of one counted line
abbrev pub line_totals : ℕ → ℕ → Totals
line_totals bytes micros = record { lines = 1; failed = 0; excluded = 0; hits = 1; bytes = bytes; micros = micros }

-- what a record weighs: its bytes, and its time, 0 where it is absent
abbrev pub record_totals : Record → Totals
record_totals rec = line_totals rec.bytes (unwrap_or rec.micros 0)

abbrev pub record_sums : Record → Sums
record_sums rec = line_sums rec.bytes (unwrap_or rec.micros 0)

abbrev pub line_row : Sums → Option Visitor → Key → SummaryRow
line_row sums visitor key = record { key = key; sums = sums; names = names_of visitor }

abbrev pub line_value : Hit → SummaryValue
line_value hit = record { totals = line_totals hit.bytes hit.micros; rows = map (line_row (line_sums hit.bytes hit.micros) hit.visitor) hit.keys }
