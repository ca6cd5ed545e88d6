use Rattle.std.proofs.Common.{◌+◌, ◌<◌, eqb, length, get_or, set, take, arith, sym, ap, ◌∙◌, subst}
use Rattle.std.proofs.lemmas.List.{length-take}
use Rattle.std.proofs.lemmas.Map.Made.{distinct_count-le}
use Rattle.ga_totals.proofs.Visiting.{AreMarked, count-known, count-new, marked-more}
use Rattle.ga_totals.proofs.visits.count_different.Goals as goal
use Rattle.ga_totals.proofs.visits.count_different.Goals.{then-place-mark, else-place-mark}

pub overflow_add-count : goal.overflow_add-count
overflow_add-count c =
    let front = take c.loop-visitor.visitor-index c.args.row.now in
    omega (arith, c.loop-visitor.invariant.count, distinct_count-le eqb front, length-take c.loop-visitor.visitor-index c.args.row.now, c.loop-visitor-test.true)

pub loop-visitor-preserved : goal.loop-visitor-preserved
loop-visitor-preserved c =
    let i = c.loop-visitor.visitor-index in
    let row = c.args.row.now in
    let v = get_or row i 0 in
    let marks = c.loop-visitor.marks in
    let mark = c.args.mark in
    let less = c.loop-visitor-test.true in
    let own : v < length marks = omega (arith, c.requires.within i 0 less, c.loop-visitor.auto.marks) in
    let so_far : AreMarked mark (take i row) marks = record { low = c.loop-visitor.invariant.low; marked = c.loop-visitor.invariant.marked } in
    let more : AreMarked mark (take (i + 1) row) (set marks v mark) = marked-more mark row marks i less own so_far in
    elim c.if-place-mark.branch [
      | then-place-mark w ↦
          let after = subst (AreMarked mark (take (i + 1) row)) (sym w.marks-is) more in
          record {
            count = w.count-is ∙ ap (λ n. n + 1) c.loop-visitor.invariant.count ∙ sym (count-new mark row marks i less own so_far w.if-place-mark.true);
            low = after.low;
            marked = after.marked;
          }
      | else-place-mark w ↦
          let after = subst (AreMarked mark (take (i + 1) row)) (sym (w.marks-is ∙ ap (set marks v) w.if-place-mark.false)) more in
          record {
            count = w.count-is ∙ c.loop-visitor.invariant.count ∙ sym (count-known mark row marks i less own so_far w.if-place-mark.false);
            low = after.low;
            marked = after.marked;
          }
    ]
