use Rattle.std.proofs.Common.{◌≡◌, ◌≤◌, List, ℕ, ◌∙◌, Some, Vec, length, take, get_or, ap, sym, subst, arith}
use Rattle.std.specs.Prelude.{slice_get}
use Rattle.std.proofs.lemmas.List.{length-take-le, take_more}
use Rattle.ga_base.specs.declared.counts.Sums.{Sums}
use Rattle.ga_tallies.specs.Steps.Adding.{added_at}
use Rattle.ga_tallies.specs.Steps.Absorbing.{rows_added}
use Rattle.ga_tallies.proofs.AddedRows.{rows-past, rows-push}
use Rattle.ga_tallies.proofs.AddedVisits.{lent-there, none-there}
use Rattle.ga_tallies.proofs.absorbing.sums_with.Goals as goal
use Rattle.ga_tallies.proofs.absorbing.sums_with.Goals.{in-Some+in_ok-add_line, in_default}

pub loop-place-preserved : goal.loop-place-preserved
loop-place-preserved c =
    let more = c.args.more.now in
    let old = c.args.rows.items in
    let i = c.loop-place.place in
    let numbers = take i c.args.numbers.now in
    let number = get_or c.args.numbers.now i 0 in
    let long : length numbers ≡ i = length-take-le i c.args.numbers.now (omega arith) in
    subst (λ (l : List ℕ). c.match-get.rows.items ≡ rows_added l more old) (sym (take_more c.args.numbers.now i 0 c.loop-place-test.true))
    (elim c.match-get.branch [
      | in-Some+in_ok-add_line w ↦
          let line = w.in-Some.line.now in
          let has = subst (λ k. slice_get more k ≡ Some line) (sym long) (lent-there more i c.get.result w.in-Some.line c.get.ensures.lookup w.in-Some.is) in
          ap (λ (v : Vec Sums _). v.items) w.rows-is ∙ w.in_ok-add_line.ensures ∙ ap (added_at number line) c.loop-place.invariant ∙ sym (rows-push numbers number more old line has)
      | in_default w ↦
          let past : length more ≤ i = none-there more i c.get.result c.get.ensures.lookup w.in_default.is in
          ap (λ (v : Vec Sums _). v.items) w.rows-is ∙ c.loop-place.invariant ∙ sym (rows-past numbers number more old (omega (arith, past, long)))
    ])
