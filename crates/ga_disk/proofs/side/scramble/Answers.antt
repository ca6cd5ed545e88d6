use Rattle.std.proofs.Common.{refl, arith, true, false, sym, ◌∙◌}
use Rattle.std.proofs.lemmas.List.{set-get_or}
use Rattle.ga_disk.proofs.Picked.{come-further, few-below}
use Rattle.ga_disk.proofs.side.scramble.Goals.{then-is_unsure, else-is_unsure}
use Rattle.ga_disk.proofs.side.scramble.Goals as goal

pub overflow_add-next : goal.overflow_add-next
overflow_add-next c = omega (arith, c.loop-at.invariant.counted, few-below c.args.changed.now c.args.synced c.loop-at.at)

pub loop-at-preserved : goal.loop-at-preserved
loop-at-preserved c =
    elim c.if-is_unsure.branch [
      | then-is_unsure w ↦ come-further _ _ _ _ _ _ _ _ c.loop-at.invariant (omega arith) true _ w.picked_byte.result _ (sym c.is_unsure.ensures ∙ w.if-is_unsure.true) w.next-is w.picked_byte.ensures w.bytes-is
      | else-is_unsure w ↦ come-further _ _ _ _ _ _ _ _ c.loop-at.invariant (omega arith) false _ _ _ (sym c.is_unsure.ensures ∙ w.if-is_unsure.false) (w.next-is ∙ omega arith) refl (w.bytes-is ∙ sym (set-get_or c.loop-at.bytes c.loop-at.at 0))
    ]
