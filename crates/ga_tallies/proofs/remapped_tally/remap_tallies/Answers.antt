use Rattle.std.proofs.Common.{◌++◌, List, Vec, Global, ℕ, ap, sym, ◌∙◌, length, map, append-nil, arith}
use Rattle.std.specs.Vec.Iter.{into_iter_items}
use Rattle.ga_tallies.specs.Steps.Absorbing.{counts_in, remapped_seen, remapped_with}
use Rattle.ga_tallies.specs.declared.tally_columns.Counts.{Counts}
use Rattle.ga_numbers.proofs.InTurn.{no-lists}
use Rattle.ga_tallies.proofs.remapped_tally.remap_tallies.Goals as goal

pub returns : goal.returns
returns c =
    let so_far = c.loop-counts.invariant in
    let rest = c.loop-counts.counts-iterator.rest in
    let keys = map (λ (n : Vec ℕ Global). n.items) (into_iter_items c.loop-counts.keys) in
    let visitors = map (λ (n : Vec ℕ Global). n.items) (into_iter_items c.loop-counts.visitors) in
    let none = no-lists rest.items (omega (arith, c.in-None.ensures.steps.0, rest.ok)) in
    let no-keys = no-lists (into_iter_items c.loop-counts.keys) (so_far.keys ∙ ap (λ (l : List Counts). length l) none) in
    let front = map remapped_seen c.loop-counts.remapped_tallies.items in
    sym (append-nil front)
    ∙ (λ i. front ++ remapped_with (map (λ (n : Vec ℕ Global). n.items) (sym no-keys i)) visitors (map counts_in (sym none i)))
    ∙ so_far.remapped_tallies
