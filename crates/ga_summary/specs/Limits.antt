-- Where a counter would pass its greatest value.
use Rattle.std.specs.Prelude.{ℕ, List, [], ◌∷◌, Option, Some, None, nat_lt, if◌then◌else◌}
use Rattle.ga_base.specs.declared.counts.TheConstants.{LIMIT}
use Rattle.ga_base.specs.declared.counts.Totals.{Totals}
use Rattle.ga_base.specs.declared.counts.Counter.{Counter}
use Rattle.ga_base.specs.declared.counts.Counter.TheVariants.{Lines, Bytes, Micros}
use Rattle.ga_summary.specs.Outcomes.{Outcome, totals_of}
use Rattle.ga_base.specs.Totals.{totals_plus}

-- the first of lines, bytes and micros that is above the limit, with its value
abbrev pub passes : Totals → Option (Counter × ℕ)
passes totals = if nat_lt LIMIT totals.lines then Some (Lines, totals.lines)
    else (if nat_lt LIMIT totals.bytes then Some (Bytes, totals.bytes)
    else (if nat_lt LIMIT totals.micros then Some (Micros, totals.micros) else None))

abbrev pub or_else : {A : Type 0} → Option A → Option A → Option A
or_else None later = later
or_else (Some first) later = Some first

-- the first outcome after which a counter, added to these totals, is above the limit: that counter, with its value
abbrev pub over : Totals → List Outcome → Option (Counter × ℕ)
over totals [] = None
over totals (outcome ∷ outcomes) = let more = totals_plus totals (totals_of (outcome ∷ [])) in or_else (passes more) (over more outcomes)
