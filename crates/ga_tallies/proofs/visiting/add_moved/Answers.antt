use Rattle.std.proofs.Common.{ℕ, List, OnOk, length, subst}
use Rattle.smallvec.specs.SmallVec.{SmallVec}
use Rattle.ga_tallies.specs.Steps.Absorbing.{AddsSuch, IsAmong, IsMapped, remapped_seen}
use Rattle.ga_tallies.specs.Tallies.{lists_in, pairs_from, pairs_in}
use Rattle.ga_tallies.proofs.visiting.add_moved.Goals as goal

pub returns : goal.returns
returns c =
    let rows = c.args.rows.now in
    let s = c.args.first in
    let remapped = remapped_seen c.args.remapped.now in
    let Adds = λ (keys visitors : List ℕ) (others : List (SmallVec ℕ)).
    OnOk c.add_rows.result (AddsSuch (IsAmong s (length rows) (IsMapped keys visitors (pairs_in (lists_in others)))) (pairs_from s (lists_in rows)) (pairs_from s (lists_in c.add_rows.new.rows))) in
    subst (λ keys. Adds keys remapped.visitors c.args.remapped.now.counts.visits.items) c.deref.ensures.value
    (subst (λ visitors. Adds c.deref.result.now visitors c.args.remapped.now.counts.visits.items) c.deref-2.ensures.value
    (subst (λ others. Adds c.deref.result.now c.deref-2.result.now others) c.deref-3.ensures.value c.add_rows.ensures.added))
