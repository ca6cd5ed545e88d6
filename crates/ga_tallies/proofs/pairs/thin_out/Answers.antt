use Rattle.std.proofs.Common.{rules, ◌≡◌, ◌==◌, ℕ, List, ap, ◌∙◌, subst, sym}
use Rattle.std.specs.List.{dedup}
use Rattle.std.specs.List.Sorted.{IsPermutation}
use Rattle.smallvec.proofs.SmallVecLemmas.{items-with_items}
use Rattle.ga_tallies.specs.Steps.Adding.{HoldTheSame}
use Rattle.ga_tallies.proofs.PairLists.{equals-dropped, holds-itself}
use Rattle.ga_tallies.proofs.pairs.thin_out.Goals as goal

pub returns-then-len-ge-FEW_VISITORS : goal.returns-then-len-ge-FEW_VISITORS
returns-then-len-ge-FEW_VISITORS c =
    let row = c.args.row.now in
    let sorted = c.sort_unstable.new.self in
    let left : c.dedup.new.self.items ≡ dedup (λ a b. a == b) sorted = c.dedup.ensures.items ∙ ap (dedup (λ a b. a == b)) (items-with_items row sorted (search rules)) in
    let remapped = subst (λ (l : List ℕ). IsPermutation l sorted) c.deref_mut.ensures.value c.sort_unstable.ensures.permutation in
    subst (HoldTheSame row.items) (sym left) (equals-dropped row.items sorted remapped)

pub returns-else-len-ge-FEW_VISITORS : goal.returns-else-len-ge-FEW_VISITORS
returns-else-len-ge-FEW_VISITORS c = holds-itself c.args.row.now.items
