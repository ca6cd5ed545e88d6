-- A tally that took in others is a tally of the outcomes of all.
use Rattle.std.proofs.Common.{◌≡◌, ◌<◌, ℕ, zero, suc, ◌⊎◌, inl, inr, List, [], ◌∷◌, ◌++◌, length, map, Option, Some, None, refl, sym, ap, ◌∙◌, subst, arith, append-nil, append_assoc, ⊎_elim}
use Rattle.std.specs.Prelude.{slice_get}
use Rattle.std.specs.List.{Contains}
use Rattle.std.proofs.lemmas.List.Elements.{Contains-append_left, Contains-append_right, Contains-append_cases}
use Rattle.ga_base.specs.declared.key.Key.{Key}
use Rattle.ga_base.specs.declared.key.Visitor.{Visitor}
use Rattle.ga_base.specs.Orders.{is_same_key, is_same_visitor}
use Rattle.ga_shards.specs.Steps.{all_noted}
use Rattle.ga_summary.specs.Outcomes.{Outcome}
use Rattle.ga_base.specs.Totals.{totals_plus, TotalsFit}
use Rattle.ga_numbers.specs.NotedNumbers.{AreNotedInTurn, all_in_turn, numbers_in_turn, places_of}
use Rattle.ga_tallies.specs.Steps.Adding.{HoldTheSame}
use Rattle.ga_tallies.specs.Steps.Absorbing.{AddsSuch, CountsSeen, IsMapped, IsRemapped, RemappedSeen, counts_seen, remapped_with, rows_added, sums_remapped}
use Rattle.ga_tallies.specs.Tallies.{AbsorbsAll, IsTallyOf, TallySeen, together, totals_from}
use Rattle.ga_tallies.proofs.Absorbed.{TakesParts, absorbed}
use Rattle.ga_numbers.proofs.Same.{same-key}
use Rattle.ga_tallies.proofs.AllTotals.{first-fits}
use Rattle.ga_numbers.proofs.InTurn.{numbered-within}
use Rattle.ga_tallies.proofs.PairRows.{nothing-there}

-- what others have counted, with the numbers that their keys and visitors get among these
abbrev pub remapped_among : List Key → List Visitor → List TallySeen → List RemappedSeen
remapped_among keys visitors others =
    remapped_with (numbers_in_turn is_same_key keys (map (λ t. t.keys) others)) (numbers_in_turn is_same_visitor visitors (map (λ t. t.visitors) others)) (map counts_seen others)

-- so they are, where keys and visitors were noted and have these numbers
pub remapped_tallies-are : (keys : List Key) (visitors : List Visitor) (others : List TallySeen) (more : List (List Key)) (numbers : List (List ℕ)) (new : List Key)
    (comers : List (List Visitor)) (places : List (List ℕ)) (all : List Visitor) (counts : List CountsSeen)
    → more ≡ map (λ t. t.keys) others → AreNotedInTurn is_same_key more numbers keys new
    → comers ≡ map (λ t. t.visitors) others → AreNotedInTurn is_same_visitor comers places visitors all
    → counts ≡ map counts_seen others → remapped_with numbers places counts ≡ remapped_among keys visitors others
remapped_tallies-are keys visitors others more numbers new comers places all counts apart noted away met counted =
    let first : numbers ≡ numbers_in_turn is_same_key keys (map (λ (t : TallySeen). t.keys) others) = noted.places ∙ ap (numbers_in_turn is_same_key keys) apart in
    let second : places ≡ numbers_in_turn is_same_visitor visitors (map (λ (t : TallySeen). t.visitors) others) = met.places ∙ ap (numbers_in_turn is_same_visitor visitors) away in
    λ i. remapped_with (first i) (second i) (counted i)

-- and a pair that comes by one of them is of a key that has a number then
pub remapped-within : (keys : List Key) (visitors : List Visitor) (others : List TallySeen) (p : ℕ × ℕ) → IsRemapped (remapped_among keys visitors others) p
    → p.0 < length (all_in_turn is_same_key keys (map (λ t. t.keys) others))
remapped-within keys visitors [] p none = absurd none
remapped-within keys visitors (other ∷ others) p is = ⊎_elim now (remapped-within (all_noted is_same_key keys other.keys) (all_noted is_same_visitor visitors other.visitors) others p) is
  where
    now : IsMapped (places_of is_same_key keys other.keys) (places_of is_same_visitor visitors other.visitors) other.pairs p
        → p.0 < length (all_in_turn is_same_key (all_noted is_same_key keys other.keys) (map (λ t. t.keys) others))
    now came =
        let key : p.0 ≡ came.2 = ap (λ (q : ℕ × ℕ). q.0) came.7 in
        omega (arith, key, numbered-within is_same_key same-key keys other.keys (map (λ (t : TallySeen). t.keys) others) came.0 came.2 came.5)

-- the parts of the others came to the parts that were there
pub record TakesAll (others : List TallySeen) (old new : TallySeen) : Type 0 where
  pub totals : new.totals ≡ totals_from old.totals others
  pub keys : new.keys ≡ all_in_turn is_same_key old.keys (map (λ t. t.keys) others)
  pub visitors : new.visitors ≡ all_in_turn is_same_visitor old.visitors (map (λ t. t.visitors) others)
  pub sums : new.sums ≡ sums_remapped (remapped_among old.keys old.visitors others) old.sums
  pub pairs : AddsSuch (IsRemapped (remapped_among old.keys old.visitors others)) old.pairs new.pairs

-- ---- pairs that come from a remapped tally, as a list

abbrev both : Option ℕ → Option ℕ → List (ℕ × ℕ)
both (Some key) (Some visitor) = (key, visitor) ∷ []
both (Some key) None = []
both None visitor = []

abbrev came : List ℕ → List ℕ → List (ℕ × ℕ) → List (ℕ × ℕ)
came keys visitors [] = []
came keys visitors (pair ∷ pairs) = both (slice_get keys pair.0) (slice_get visitors pair.1) ++ came keys visitors pairs

cons-cases : {T : Type 0} (x z : T) (xs : List T) → Contains (x ∷ xs) z → (x ≡ z) ⊎ Contains xs z
cons-cases x z xs (zero, lt, e) = inl e
cons-cases x z xs (suc k, lt, e) = inr (k, omega (arith, lt), e)

here : {T : Type 0} (x : T) (xs : List T) → Contains (x ∷ xs) x
here x xs = (0, omega arith, refl)

module _ (keys visitors : List ℕ) where
  came-there : (pairs : List (ℕ × ℕ)) (p : ℕ × ℕ) → IsMapped keys visitors pairs p → Contains (came keys visitors pairs) p
  came-there [] p is = absurd (nothing-there (is.0, is.1) is.4)
  came-there (pair ∷ pairs) p is = ⊎_elim now (λ at. later (came-there pairs p (is.0, is.1, is.2, is.3, at, is.5, is.6, is.7))) (cons-cases pair (is.0, is.1) pairs is.4)
    where
      now : ◌≡◌ {A = ℕ × ℕ} pair (is.0, is.1) → Contains (came keys visitors (pair ∷ pairs)) p
      now same =
          let key : slice_get keys pair.0 ≡ Some is.2 = ap (λ (q : ℕ × ℕ). slice_get keys q.0) same ∙ is.5 in
          let visitor : slice_get visitors pair.1 ≡ Some is.3 = ap (λ (q : ℕ × ℕ). slice_get visitors q.1) same ∙ is.6 in
          let one : both (slice_get keys pair.0) (slice_get visitors pair.1) ≡ p ∷ [] = (λ i. both (key i) (visitor i)) ∙ ap (λ (q : ℕ × ℕ). q ∷ []) (sym is.7) in
          Contains-append_left _ (came keys visitors pairs) p (subst (λ (l : List (ℕ × ℕ)). Contains l p) (sym one) (here p []))

      later : Contains (came keys visitors pairs) p → Contains (came keys visitors (pair ∷ pairs)) p
      later at = Contains-append_right (both (slice_get keys pair.0) (slice_get visitors pair.1)) (came keys visitors pairs) p at

  came-only : (pairs : List (ℕ × ℕ)) (p : ℕ × ℕ) → Contains (came keys visitors pairs) p → IsMapped keys visitors pairs p
  came-only [] p at = absurd (nothing-there p at)
  came-only (pair ∷ pairs) p at = ⊎_elim (now (slice_get keys pair.0) (slice_get visitors pair.1) refl refl) (λ there. later (came-only pairs p there)) (Contains-append_cases (both (slice_get keys pair.0) (slice_get visitors pair.1)) (came keys visitors pairs) p at)
    where
      now : (key visitor : Option ℕ) → slice_get keys pair.0 ≡ key → slice_get visitors pair.1 ≡ visitor → Contains (both key visitor) p → IsMapped keys visitors (pair ∷ pairs) p
      now (Some key) (Some visitor) has sees there =
          let is : ◌≡◌ {A = ℕ × ℕ} (key, visitor) p = ⊎_elim (λ same. same) (λ none. absurd (nothing-there p none)) (cons-cases (key, visitor) p [] there) in
          (pair.0, pair.1, key, visitor, here pair pairs, has, sees, sym is)
      now (Some key) None has sees there = absurd (nothing-there p there)
      now None visitor has sees there = absurd (nothing-there p there)

      later : IsMapped keys visitors pairs p → IsMapped keys visitors (pair ∷ pairs) p
      later is = (is.0, is.1, is.2, is.3, Contains-append_right (pair ∷ []) pairs (is.0, is.1) is.4, is.5, is.6, is.7)

  -- they came, put after those that were there
  came-behind : (pairs old : List (ℕ × ℕ)) → AddsSuch (IsMapped keys visitors pairs) old (old ++ came keys visitors pairs)
  came-behind pairs old = record {
    kept = λ p at. Contains-append_left old (came keys visitors pairs) p at;
    there = λ p is. Contains-append_right old (came keys visitors pairs) p (came-there pairs p is);
    only = λ p at. ⊎_elim (λ was. inl was) (λ new. inr (came-only pairs p new)) (Contains-append_cases old (came keys visitors pairs) p at);
  }

  -- those of one are there, and those of others came then
  came-first : (pairs old new : List (ℕ × ℕ)) (Later : ℕ × ℕ → Type 0) → AddsSuch (λ p. IsMapped keys visitors pairs p ⊎ Later p) old new → AddsSuch Later (old ++ came keys visitors pairs) new
  came-first pairs old new Later adds = record {
    kept = λ p at. ⊎_elim (λ was. adds.kept p was) (λ some. adds.there p (inl (came-only pairs p some))) (Contains-append_cases old (came keys visitors pairs) p at);
    there = λ p is. adds.there p (inr is);
    only = λ p at.
        ⊎_elim
        (λ was. inl (Contains-append_left old (came keys visitors pairs) p was))
        (λ is. ⊎_elim (λ some. inl (Contains-append_right old (came keys visitors pairs) p (came-there pairs p some))) (λ later. inr later) is)
        (adds.only p at);
  }

-- ---- the same pairs in another list

other-pairs : (outcomes : List Outcome) (t : TallySeen) (pairs : List (ℕ × ℕ)) → HoldTheSame t.pairs pairs → IsTallyOf outcomes t → IsTallyOf outcomes (record t { pairs = pairs })
other-pairs outcomes t pairs same was = record {
  totals = was.totals;
  different_keys = was.different_keys;
  different_visitors = was.different_visitors;
  sums = was.sums;
  counted = was.counted;
  pairs = λ k v at. was.pairs k v (same.only (k, v) at);
  visits = λ key visitor has.
      let p = was.visits key visitor has in
      (p.0, p.1, p.2, p.3, p.4, p.5, p.6, p.7, same.kept (p.0, p.1) p.8);
  used = λ v less. let p = was.used v less in (p.0, same.kept (p.0, v) p.1);
}

none-absorbed : (outcomes : List Outcome) (old new : TallySeen) → TakesAll [] old new → IsTallyOf outcomes old → IsTallyOf outcomes new
none-absorbed outcomes old new takes was =
    let same : HoldTheSame old.pairs new.pairs = record { kept = takes.pairs.kept; only = λ p at. ⊎_elim (λ there. there) (λ none. absurd none) (takes.pairs.only p at) } in
    let is : record old { pairs = new.pairs } ≡ new = λ i. record {
      totals = sym takes.totals i;
      keys = sym takes.keys i;
      visitors = sym takes.visitors i;
      sums = sym takes.sums i;
      pairs = new.pairs;
    } in
    subst (IsTallyOf outcomes) is (other-pairs outcomes old new.pairs same was)

-- ---- one after the other

pub absorbed-all : (others : List TallySeen) (old new : TallySeen) → TakesAll others old new → TotalsFit new.totals → AbsorbsAll others old new
absorbed-all [] old new takes fit before [] was are = none-absorbed (before ++ []) old new takes (subst (λ (os : List Outcome). IsTallyOf os old) (sym (append-nil before)) was)
absorbed-all [] old new takes fit before (part ∷ parts) was are = absurd are
absorbed-all (other ∷ others) old new takes fit before [] was are = absurd are
absorbed-all (other ∷ others) old new takes fit before (part ∷ parts) was are =
    subst (λ (os : List Outcome). IsTallyOf os new) (append_assoc before part (together parts)) (absorbed-all others mid new rest fit (before ++ part) parts one are.1)
  where
    keys : List ℕ
    keys = places_of is_same_key old.keys other.keys

    visitors : List ℕ
    visitors = places_of is_same_visitor old.visitors other.visitors

    -- the tally with the first of the others
    mid : TallySeen
    mid = record {
      totals = totals_plus old.totals other.totals;
      keys = all_noted is_same_key old.keys other.keys;
      visitors = all_noted is_same_visitor old.visitors other.visitors;
      sums = rows_added keys other.sums old.sums;
      pairs = old.pairs ++ came keys visitors other.pairs;
    }

    first : TakesParts other old mid
    first = record { totals = refl; keys = refl; visitors = refl; sums = refl; pairs = came-behind keys visitors other.pairs old.pairs }

    one : IsTallyOf (before ++ part) mid
    one = absorbed other old mid first (first-fits mid.totals others (subst TotalsFit takes.totals fit)) before part was are.0

    rest : TakesAll others mid new
    rest = record {
      totals = takes.totals;
      keys = takes.keys;
      visitors = takes.visitors;
      sums = takes.sums;
      pairs = came-first keys visitors other.pairs old.pairs new.pairs (IsRemapped (remapped_among mid.keys mid.visitors others)) takes.pairs;
    }
