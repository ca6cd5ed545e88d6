use Rattle.std.proofs.Common.{Some, refl, arith}
use Rattle.ga_summary.specs.Outcomes as outcomes
use Rattle.ga_workers.proofs.counter_limits.weight_of_said.Goals as goal

pub returns-in-Failed : goal.returns-in-Failed
returns-in-Failed c =
    rw c.in-Failed.is record { outcome = Some outcomes.Failed; is = refl; weight = refl; light = record { lines = omega arith; bytes = omega arith; micros = omega arith } }

pub weight_of_record-requires : goal.weight_of_record-requires
weight_of_record-requires c = rw c.in-Good.is at c.requires
