use Rattle.std.proofs.Common.{[]}
use Rattle.ga_codec.specs.declared.entry_shape.EntryShape.{EntryShape}
use Rattle.ga_codec.proofs.Entries.{all_good, more_same, more_good, one_bad}
use Rattle.ga_codec.proofs.snapshot_reading.entries_of.Goals as goal

no_shape : EntryShape
no_shape = record { lead = 0; digest = []; offset = 0 }

pub returns-in-None : goal.returns-in-None
unfolding no_shape
returns-in-None c = one_bad c.args.shapes.now c.loop-shape.shape-index no_shape c.loop-shape-test.true c.in-None.ensures

pub loop-shape-preserved : goal.loop-shape-preserved
unfolding no_shape
loop-shape-preserved c =
    let invariant = c.loop-shape.invariant in
    record {
      same = rw c.in_ok-push-in-Some.ensures.items (more_same c.loop-shape.entries.items c.in-Some.entry c.args.shapes.now c.loop-shape.shape-index no_shape c.loop-shape-test.true invariant.same c.in-Some.ensures.0);
      good = more_good c.args.shapes.now c.loop-shape.shape-index no_shape c.loop-shape-test.true invariant.good c.in-Some.ensures.1;
    }

pub returns : goal.returns
returns c = rw c.from.ensures (all_good _ _ _ c.loop-shape.invariant.same c.loop-shape.invariant.good c.loop-shape-test.false)
