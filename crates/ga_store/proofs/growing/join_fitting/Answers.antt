use Rattle.std.proofs.Common.{Err, ap, ◌∙◌}
use Rattle.ga_base.specs.Totals.{totals_plus}
use Rattle.ga_summary.specs.Steps.Joined.{merged_value}
use Rattle.ga_summary.proofs.Soundness.{IsMerged-merged_value}
use Rattle.ga_store.proofs.MergedRecords.{none-passes}
use Rattle.ga_store.proofs.growing.join_fitting.Goals as goal

pub returns-in-Ok : goal.returns-in-Ok
returns-in-Ok c =
    let one = c.args.one in
    let more = c.args.more in
    record {
      joined = c.one_merged.ensures one more c.in-Ok.both (merged_value one more) c.in-Ok.ensures.merged
          (IsMerged-merged_value one more c.totals.ensures.sound.ordered c.totals-2.ensures.sound.ordered);
      ordered = (c.totals.ensures.sound.ordered, c.totals-2.ensures.sound.ordered);
    }

pub unreachable-requires : goal.unreachable-requires
unreachable-requires c =
    let e = c.in-Err-CounterFull in
    let full = (c.join.ensures.full e.field-0-0 e.field-0-1).0 (e.is ∙ ap Err e.field-0-is) in
    let none = none-passes (totals_plus c.args.one.totals c.args.more.totals) c.requires.fit in
    cc
