use Rattle.std.proofs.Common.{◌+◌, cond, eqb, take, arith, sym, ap, ◌∙◌}
use Rattle.std.proofs.lemmas.List.{length-take}
use Rattle.std.specs.Set.{distinct_count}
use Rattle.std.proofs.lemmas.Map.Made.{distinct_count-le}
use Rattle.ga_totals.proofs.Visiting.{compared}
use Rattle.ga_totals.proofs.visits.count_few.Goals as goal
use Rattle.ga_totals.proofs.visits.count_few.Goals.{then-not-contains, else-not-contains}

pub overflow_add-count : goal.overflow_add-count
overflow_add-count c =
    let front = take c.loop-place.place c.args.row.now in
    omega (arith, c.loop-place.invariant, distinct_count-le eqb front, length-take c.loop-place.place c.args.row.now, c.loop-place-test.true, c.loop-place.auto.place-end)

pub loop-place-preserved : goal.loop-place-preserved
loop-place-preserved c =
    let row = c.args.row.now in
    let place = c.loop-place.place in
    let more = compared row place c.loop-place-test.true in
    let n = distinct_count eqb (take place row) in
    elim c.if-not-contains.branch [
      | then-not-contains w ↦
          let off = sym c.contains.ensures.value ∙ w.if-not-contains.true in
          w.count-is ∙ ap (λ k. k + 1) c.loop-place.invariant ∙ sym (more ∙ ap (λ b. cond b n (n + 1)) off)
      | else-not-contains w ↦
          let there = sym c.contains.ensures.value ∙ w.if-not-contains.false in
          w.count-is ∙ c.loop-place.invariant ∙ sym (more ∙ ap (λ b. cond b n (n + 1)) there)
    ]
