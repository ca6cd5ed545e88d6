use Rattle.std.proofs.Common.{◌++◌, eqb, [], ◌∷◌, length, length-set, set, suc, take, take-suc-set, arith, sym, ap, ◌∙◌, subst, ◌≡◌, ◌+◌, ◌<◌}
use Rattle.std.specs.Set.{distinct_count}
use Rattle.ga_tallies.specs.Tallies.{lists_in}
use Rattle.ga_totals.specs.Steps.Visits.{AreMarks}
use Rattle.ga_totals.proofs.Parts.{counts-more}
use Rattle.ga_totals.proofs.visits.count_keys.Goals as goal

pub loop-place-preserved : goal.loop-place-preserved
loop-place-preserved c =
    let rows = lists_in c.args.rows.now in
    let place = c.loop-place.place in
    let visits = c.loop-place.visits in
    let own = c.in_ok-visits.field-0 in
    let counted = c.in_ok-visits.ensures.count ∙ ap (distinct_count eqb) c.row_at-row.ensures in
    let less : place < length visits = omega (arith, c.loop-place-test.true, c.loop-place.auto.visits) in
    let one : place + 1 ≡ suc place = omega arith in
    let next : c.args.first + place + 1 + 1 ≡ c.args.first + (place + 1) + 1 = omega arith in
    record {
      numbered = omega (arith, c.loop-place.invariant.numbered, length-set visits place own);
      marks = subst (λ below. AreMarks c.args.visitors below c.count.new.marks.items) next c.in_ok-visits.ensures.marks;
      visits = ap (λ n. take n (set visits place own)) one
          ∙ take-suc-set visits place own less
          ∙ (λ i. c.loop-place.invariant.visits i ++ counted i ∷ [])
          ∙ sym (counts-more rows c.args.first place);
    }
