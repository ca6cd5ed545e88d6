use Rattle.std.proofs.Common.{rules, ◌≡◌, ◌++◌, ℕ, get_or, ap, sym, take, ◌∙◌}
use Rattle.smallvec.specs.SmallVec.{SmallVec}
use Rattle.ga_tallies.specs.Tallies.{lists_in, pairs_in, row_pairs}
use Rattle.ga_tallies.proofs.PairLists.{next-row}
use Rattle.ga_tallies.proofs.pairs.pairs_of.Goals as goal

pub loop-key-preserved : goal.loop-key-preserved
loop-key-preserved c =
    let next = next-row c.args.rows.now c.loop-key.key c.index-rows-key.result c.loop-key-test.true in
    let key : c.in-Ok.key ≡ c.loop-key.key = search rules in
    let row : c.deref.result.now ≡ (get_or c.args.rows.now c.loop-key.key c.index-rows-key.result).items = c.deref.ensures ∙ ap (λ (r : SmallVec ℕ). r.items) c.index-rows-key.is in
    let same : row_pairs c.in-Ok.key c.deref.result.now ≡ row_pairs c.loop-key.key (get_or c.args.rows.now c.loop-key.key c.index-rows-key.result).items = λ i. row_pairs (key i) (row i) in
    c.in_ok-push_row.ensures ∙ ap (λ pairs. pairs ++ row_pairs c.in-Ok.key c.deref.result.now) c.loop-key.invariant ∙ ap (λ pairs. pairs_in (lists_in (take c.loop-key.key c.args.rows.now)) ++ pairs) same ∙ sym next
