use Rattle.std.proofs.Common.{◌≡◌, ℕ, List, length, subst}
use Rattle.smallvec.specs.SmallVec.{SmallVec}
use Rattle.ga_tallies.specs.Steps.Absorbing.{AddsSuch, IsAmong, IsBrought, remapped_seen}
use Rattle.ga_tallies.specs.Tallies.{lists_in, pairs_from}
use Rattle.ga_tallies.proofs.AllParts.{added-parts}
use Rattle.ga_tallies.proofs.visiting.add_in_parts.Goals as goal

-- what a call says of its rows, of those that were shown to it
at-shown : (P : ℕ × ℕ → Type 0) (s : ℕ) (rows shown left more : List (SmallVec ℕ)) → shown ≡ rows → left ≡ more
    → AddsSuch (IsAmong s (length shown) P) (pairs_from s (lists_in shown)) (pairs_from s (lists_in left)) → AddsSuch (IsAmong s (length rows) P) (pairs_from s (lists_in rows)) (pairs_from s (lists_in more))
at-shown P s rows shown left more shows leaves adds =
    subst (λ (l : List (SmallVec ℕ)). AddsSuch (IsAmong s (length l) P) (pairs_from s (lists_in l)) (pairs_from s (lists_in more))) shows
    (subst (λ (l : List (SmallVec ℕ)). AddsSuch (IsAmong s (length shown) P) (pairs_from s (lists_in shown)) (pairs_from s (lists_in l))) leaves adds)

pub returns-then-rows-lt-FEW_KEYS : goal.returns-then-rows-lt-FEW_KEYS
returns-then-rows-lt-FEW_KEYS g c =
    let P = IsBrought (remapped_seen c.args.remapped.now) in
    added-parts _ _ P (λ s rows more call. at-shown P s rows call.shown.now call.left.now more call.shows call.leaves call.call) 0 c.args.rows.now _ c.change_parts.result c.change_parts.ensures

pub returns : goal.returns
returns g c =
    let P = IsBrought (remapped_seen c.args.remapped.now) in
    added-parts _ _ P (λ s rows more call. at-shown P s rows call.shown.now call.left.now more call.shows call.leaves call.call) 0 c.args.rows.now _ c.change_parts-2.result c.change_parts-2.ensures
