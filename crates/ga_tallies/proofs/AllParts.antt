-- Pairs that came to the rows of some keys and to those of the keys after them.
use Rattle.std.proofs.Common.{◌≡◌, ◌<◌, ℕ, ◌+◌, ⊎_elim, inl, inr, List, ◌++◌, length, Ok, Err, OnOk, refl, sym, ap, ◌∙◌, subst, arith}
use Rattle.std.proofs.lemmas.List.{length-append, length-map, map-append}
use Rattle.std.specs.Prelude.{Result}
use Rattle.std.specs.Borrow.{MutBor}
use Rattle.std.specs.Fn.{Shared}
use Rattle.smallvec.specs.SmallVec.{SmallVec}
use Rattle.ga_base.specs.declared.no_memory.NoMemory.{NoMemory}
use Rattle.ga_base.specs.Parts.{ChangesPart, ChangesParts}
use Rattle.ga_base.proofs.InParts.{whole-parts}
use Rattle.ga_tallies.specs.Steps.Adding.{HoldTheSame}
use Rattle.ga_tallies.specs.Steps.Absorbing.{AddsSuch, IsAmong}
use Rattle.ga_tallies.specs.Tallies.{lists_in, pairs_from}
use Rattle.ga_tallies.proofs.AddedVisits.{among-both}
use Rattle.ga_tallies.proofs.PairLists.{pairs-append}

pairs-both : (s : ℕ) (low high : List (SmallVec ℕ)) → pairs_from s (lists_in (low ++ high)) ≡ pairs_from s (lists_in low) ++ pairs_from (s + length low) (lists_in high)
pairs-both s low high =
    ap (pairs_from s) (map-append (λ (r : SmallVec ℕ). r.items) low high) ∙ pairs-append s (lists_in low) (lists_in high)
    ∙ ap (λ n. pairs_from s (lists_in low) ++ pairs_from (s + n) (lists_in high)) (length-map low (λ (r : SmallVec ℕ). r.items))

-- this many rows are those of the first keys
pub parts-added : (P : ℕ × ℕ → Type 0) (s many : ℕ) (rows low high more others : List (SmallVec ℕ)) → rows ≡ low ++ high → length low ≡ many → length more ≡ length low
    → AddsSuch (IsAmong s (length low) P) (pairs_from s (lists_in low)) (pairs_from s (lists_in more))
    → AddsSuch (IsAmong (s + many) (length high) P) (pairs_from (s + many) (lists_in high)) (pairs_from (s + many) (lists_in others))
    → AddsSuch (IsAmong s (length rows) P) (pairs_from s (lists_in rows)) (pairs_from s (lists_in (more ++ others)))
parts-added P s many rows low high more others apart long same one two =
    let behind = subst (λ n. AddsSuch (IsAmong (s + n) (length high) P) (pairs_from (s + n) (lists_in high)) (pairs_from (s + n) (lists_in others))) (sym long) two in
    let all = among-both P s (length low) (length high) (pairs_from s (lists_in low)) (pairs_from s (lists_in more)) (pairs_from (s + length low) (lists_in high)) (pairs_from (s + length low) (lists_in others)) one behind in
    let new : pairs_from s (lists_in more) ++ pairs_from (s + length low) (lists_in others) ≡ pairs_from s (lists_in (more ++ others)) =
    ap (λ n. pairs_from s (lists_in more) ++ pairs_from (s + n) (lists_in others)) (sym same) ∙ sym (pairs-both s more others) in
    let as-many : length low + length high ≡ length (low ++ high) = sym (length-append low high) in
    subst (λ (l : List (SmallVec ℕ)). AddsSuch (IsAmong s (length l) P) (pairs_from s (lists_in l)) (pairs_from s (lists_in (more ++ others)))) (sym apart)
    (subst (λ n. AddsSuch (IsAmong s n P) (pairs_from s (lists_in (low ++ high))) (pairs_from s (lists_in (more ++ others)))) as-many
    (subst (λ l. AddsSuch (IsAmong s (length low + length high) P) l (pairs_from s (lists_in (more ++ others)))) (sym (pairs-both s low high))
    (subst (λ l. AddsSuch (IsAmong s (length low + length high) P) (pairs_from s (lists_in low) ++ pairs_from (s + length low) (lists_in high)) l) new all)))

-- each part got the pairs that come to its keys
pub added-parts : {F : Type 0} (g : Shared F (ℕ × (MutBor (List (SmallVec ℕ)) × Unit {0})) (Result (Unit {0}) NoMemory × (MutBor (List (SmallVec ℕ)) × Unit {0}))) (f : F) (P : ℕ × ℕ → Type 0)
    → ((s : ℕ) (rows more : List (SmallVec ℕ)) → ChangesPart g f s rows (Ok tt) more → AddsSuch (IsAmong s (length rows) P) (pairs_from s (lists_in rows)) (pairs_from s (lists_in more)))
    → (s : ℕ) (rows more : List (SmallVec ℕ)) (result : Result (Unit {0}) NoMemory) → OnOk result (ChangesParts g f s rows more)
    → OnOk result (AddsSuch (IsAmong s (length rows) P) (pairs_from s (lists_in rows)) (pairs_from s (lists_in more)))
added-parts g f P each s rows more (Ok value) changes =
    whole-parts g f (λ s rows more. AddsSuch (IsAmong s (length rows) P) (pairs_from s (lists_in rows)) (pairs_from s (lists_in more))) each
    (λ s low high more others same one two. parts-added P s (length low) (low ++ high) low high more others refl refl same one two) changes
added-parts g f P each s rows more (Err fault) changes = tt

-- all pairs that come are of these keys
pub among-all : (P : ℕ × ℕ → Type 0) (many : ℕ) (old made new : List (ℕ × ℕ)) → HoldTheSame old made → ((p : ℕ × ℕ) → P p → p.0 < many) → AddsSuch (IsAmong 0 many P) made new → AddsSuch P old new
among-all P many old made new same within adds = record {
  kept = λ p at. adds.kept p (same.kept p at);
  there = λ p is. adds.there p (is, omega arith, omega (arith, within p is));
  only = λ p at. ⊎_elim (λ was. inl (same.only p was)) (λ is. inr is.0) (adds.only p at);
}
