use Rattle.std.proofs.Common.{◌∷◌, ◌++◌, [], List, ℕ, get_or, take, sym, subst}
use Rattle.std.proofs.lemmas.List.{take_more}
use Rattle.smallvec.specs.SmallVec.{SmallVec}
use Rattle.ga_tallies.specs.Steps.Adding.{AddsOne}
use Rattle.ga_tallies.specs.Steps.Absorbing.{AddsSuch, IsMappedItem}
use Rattle.ga_tallies.proofs.AddedVisits.{lent-there, no-item, none-lent, visitor-more, visitor-unknown}
use Rattle.ga_tallies.proofs.PairLists.{holds-itself, one-added}
use Rattle.ga_tallies.proofs.visiting.add_row.Goals as goal
use Rattle.ga_tallies.proofs.visiting.add_row.Goals.{in-Some+in_ok-push, in_default}

pub loop-visitor-init : goal.loop-visitor-init
loop-visitor-init c =
    subst (AddsSuch (IsMappedItem c.args.visitors.now []) c.args.row.now.items) (sym c.reserve.ensures.items) (no-item c.args.visitors.now c.args.row.now.items)

pub loop-visitor-preserved : goal.loop-visitor-preserved
loop-visitor-preserved c =
    let visitors = c.args.visitors.now in
    let old = c.args.row.now.items in
    let i = c.loop-visitor.visitor-index in
    let some = take i c.args.more.now in
    let visitor = get_or c.args.more.now i 0 in
    let so_far = c.loop-visitor.invariant in
    let now = c.loop-visitor.row.items in
    subst (λ (l : List ℕ). AddsSuch (IsMappedItem visitors l) old c.match-get.row.items) (sym (take_more c.args.more.now i 0 c.loop-visitor-test.true))
    (elim c.match-get.branch [
      | in-Some+in_ok-push w ↦
          let number = w.in-Some.number.now in
          let has = lent-there visitors visitor c.get.result w.in-Some.number c.get.ensures.lookup w.in-Some.is in
          let one = subst (AddsOne number now) (sym w.in_ok-push.ensures.ok) (one-added now now number (holds-itself now)) in
          subst (λ (r : SmallVec ℕ). AddsSuch (IsMappedItem visitors (some ++ visitor ∷ [])) old r.items) (sym w.row-is)
          (visitor-more visitors some visitor number old now w.push.new.self.items has so_far one)
      | in_default w ↦
          let none = none-lent visitors visitor c.get.result c.get.ensures.lookup w.in_default.is in
          subst (λ (r : SmallVec ℕ). AddsSuch (IsMappedItem visitors (some ++ visitor ∷ [])) old r.items) (sym w.row-is)
          (visitor-unknown visitors some visitor old now none so_far)
    ])
