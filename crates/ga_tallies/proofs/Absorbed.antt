-- A tally that took in another is a tally of the outcomes of both.
use Rattle.std.proofs.Common.{◌≡◌, ℕ, ◌+◌, ◌<◌, Bool, true, false, cond, ◌||◌, ◌⊎◌, inl, inr, nat_lt, List, ◌++◌, length, map, Some, refl, sym, ap, ◌∙◌, subst, arith, ⊎_elim}
use Rattle.std.specs.Prelude.{slice_get}
use Rattle.std.specs.List.{Contains, IsDistinct, list_any}
use Rattle.std.proofs.lemmas.Bool.{ltb-false}
use Rattle.std.proofs.lemmas.Bool.Decides.{nat_tests}
use Rattle.std.proofs.lemmas.Option.{slice_get_within}
use Rattle.ga_base.specs.declared.counts.Sums.{Sums}
use Rattle.ga_base.specs.declared.key.Key.{Key}
use Rattle.ga_base.specs.declared.key.Visitor.{Visitor}
use Rattle.ga_base.specs.Orders.{is_same_key, is_same_visitor}
use Rattle.ga_shards.specs.Steps.{all_noted}
use Rattle.ga_shards.proofs.Noting.{stays-distinct}
use Rattle.ga_summary.specs.Outcomes.{Outcome, sums_of, has_visit, totals_of}
use Rattle.ga_summary.specs.SummaryRows.{no_sums, sums_plus}
use Rattle.ga_base.specs.Totals.{totals_plus, TotalsFit}
use Rattle.ga_summary.proofs.Appends.{sums_of-append, has_visit-append, totals_of-append}
use Rattle.ga_numbers.specs.NotedNumbers.{places_of}
use Rattle.ga_tallies.specs.Steps.Absorbing.{AddsSuch, IsMapped, rows_added}
use Rattle.ga_tallies.specs.Tallies.{TallySeen, IsTallyOf}
use Rattle.ga_tallies.proofs.AddedRows.{all-added, with_those}
use Rattle.ga_numbers.proofs.AllNoted.{any-all-noted, has-number, keeps-place, number-cases, placed, places-long}
use Rattle.ga_numbers.proofs.Noted.{or-true}
use Rattle.ga_tallies.proofs.OneKey.{sums-none}
use Rattle.ga_tallies.proofs.Rows.{AreWithin, sums-within}
use Rattle.ga_numbers.proofs.Same.{key-laws, same-key, same-visitor, visitor-laws}

-- the parts of the other came to the parts that were there
pub record TakesParts (other old new : TallySeen) : Type 0 where
  pub totals : new.totals ≡ totals_plus old.totals other.totals
  pub keys : new.keys ≡ all_noted is_same_key old.keys other.keys
  pub visitors : new.visitors ≡ all_noted is_same_visitor old.visitors other.visitors
  pub sums : new.sums ≡ rows_added (places_of is_same_key old.keys other.keys) other.sums old.sums
  pub pairs : AddsSuch (IsMapped (places_of is_same_key old.keys other.keys) (places_of is_same_visitor old.visitors other.visitors) other.pairs) old.pairs new.pairs

some_of_sum : (m n : ℕ) → (nat_lt 0 m || nat_lt 0 n) ≡ nat_lt 0 (m + n)
some_of_sum m n = grind (arith, nat_tests)

none-counted : (key : Key) (outcomes : List Outcome) → nat_lt 0 (sums_of key outcomes).hits ≡ false → sums_of key outcomes ≡ no_sums
none-counted key outcomes e = let none : (sums_of key outcomes).hits ≡ 0 = zero-hits _ e in sums-none key outcomes none
  where
    zero-hits : (n : ℕ) → nat_lt 0 n ≡ false → n ≡ 0
    zero-hits n e = omega (arith, ltb-false 0 n e)

module _ (other old new : TallySeen) (takes : TakesParts other old new) (fit : TotalsFit new.totals) (before more : List Outcome) (was : IsTallyOf before old) (its : IsTallyOf more other) where
  abbrev all : List Outcome
  all = before ++ more

  totals : new.totals ≡ totals_of all
  totals = takes.totals ∙ (λ i. totals_plus (was.totals i) (its.totals i)) ∙ sym (totals_of-append before more)

  keeps-key : (k : ℕ) (x : Key) → slice_get old.keys k ≡ Some x → slice_get new.keys k ≡ Some x
  keeps-key k x e = subst (λ (l : List Key). slice_get l k ≡ Some x) (sym takes.keys) (keeps-place is_same_key other.keys old.keys k x e)

  keeps-visitor : (v : ℕ) (x : Visitor) → slice_get old.visitors v ≡ Some x → slice_get new.visitors v ≡ Some x
  keeps-visitor v x e = subst (λ (l : List Visitor). slice_get l v ≡ Some x) (sym takes.visitors) (keeps-place is_same_visitor other.visitors old.visitors v x e)

  abbrev key-numbers : List ℕ
  key-numbers = places_of is_same_key old.keys other.keys

  abbrev visitor-numbers : List ℕ
  visitor-numbers = places_of is_same_visitor old.visitors other.visitors

  -- what has a number in the other is at the number that it got
  key-placed : (k n : ℕ) (x : Key) → slice_get other.keys k ≡ Some x → slice_get key-numbers k ≡ Some n → slice_get new.keys n ≡ Some x
  key-placed k n x e p = subst (λ (l : List Key). slice_get l n ≡ Some x) (sym takes.keys) (placed is_same_key same-key other.keys old.keys k n x e p)

  visitor-placed : (v n : ℕ) (x : Visitor) → slice_get other.visitors v ≡ Some x → slice_get visitor-numbers v ≡ Some n → slice_get new.visitors n ≡ Some x
  visitor-placed v n x e p = subst (λ (l : List Visitor). slice_get l n ≡ Some x) (sym takes.visitors) (placed is_same_visitor same-visitor other.visitors old.visitors v n x e p)

  -- a key's sums are its own before, and those of the other where that has the key
  sums-both : (key : Key) → with_those (λ k. sums_of k more) other.keys (λ k. sums_of k before) key ≡ sums_of key all
  sums-both key = ap (sums_plus (sums_of key before)) (theirs (list_any (is_same_key key) other.keys) refl) ∙ sym (sums_of-append key before more)
    where
      theirs : (b : Bool) → list_any (is_same_key key) other.keys ≡ b → cond b (sums_of key more) no_sums ≡ sums_of key more
      theirs true e = refl
      theirs false e = sym (none-counted key more (sym (its.counted key) ∙ e))

  sums : new.sums ≡ map (λ key. sums_of key all) new.keys
  sums =
      takes.sums ∙ (λ i. rows_added key-numbers (its.sums i) (was.sums i))
      ∙ all-added (λ k. sums_of k more) (totals_of all) (subst TotalsFit totals fit) other.keys old.keys (λ k. sums_of k before) its.different_keys was.different_keys
      (λ k absent. none-counted k before (sym (was.counted k) ∙ absent))
      (λ k. subst (λ (s : Sums). AreWithin s (totals_of all)) (sym (sums-both k)) (sums-within k all))
      ∙ (λ i. map (λ k. sums-both k i) (all_noted is_same_key old.keys other.keys))
      ∙ ap (map (λ (k : Key). sums_of k all)) (sym takes.keys)

  counted : (key : Key) → list_any (is_same_key key) new.keys ≡ nat_lt 0 (sums_of key all).hits
  counted key =
      ap (list_any (is_same_key key)) takes.keys ∙ any-all-noted is_same_key same-key other.keys old.keys key
      ∙ (λ i. was.counted key i || its.counted key i) ∙ some_of_sum (sums_of key before).hits (sums_of key more).hits
      ∙ ap (λ (s : Sums). nat_lt 0 s.hits) (sym (sums_of-append key before more))

  visited-before : (x : Key) (w : Visitor) → has_visit x w before ≡ true → has_visit x w all ≡ true
  visited-before x w h = has_visit-append x w before more ∙ ap (λ b. b || has_visit x w more) h

  visited-there : (x : Key) (w : Visitor) → has_visit x w more ≡ true → has_visit x w all ≡ true
  visited-there x w h = has_visit-append x w before more ∙ ap (λ b. has_visit x w before || b) h ∙ or-true (has_visit x w before)

  visited : (x : Key) (w : Visitor) → has_visit x w all ≡ true → (has_visit x w before ≡ true) ⊎ (has_visit x w more ≡ true)
  visited x w h = go (has_visit x w before) refl (sym (has_visit-append x w before more) ∙ h)
    where
      go : (b : Bool) → has_visit x w before ≡ b → (b || has_visit x w more) ≡ true → (has_visit x w before ≡ true) ⊎ (has_visit x w more ≡ true)
      go true e o = inl e
      go false e o = inr o

  pairs : (k v : ℕ) → Contains new.pairs (k, v) → (key : Key) × (visitor : Visitor)
      × (slice_get new.keys k ≡ Some key) × (slice_get new.visitors v ≡ Some visitor) × (has_visit key visitor all ≡ true)
  pairs k v at =
      ⊎_elim
      (λ there. let p = was.pairs k v there in (p.0, p.1, keeps-key k p.0 p.2, keeps-visitor v p.1 p.3, visited-before p.0 p.1 p.4))
      (λ came.
      let p = its.pairs came.0 came.1 came.4 in
      let key : came.2 ≡ k = ap (λ (q : ℕ × ℕ). q.0) (sym came.7) in
      let visitor : came.3 ≡ v = ap (λ (q : ℕ × ℕ). q.1) (sym came.7) in (
        p.0,
        p.1,
        subst (λ n. slice_get new.keys n ≡ Some p.0) key (key-placed came.0 came.2 p.0 p.2 came.5),
        subst (λ n. slice_get new.visitors n ≡ Some p.1) visitor (visitor-placed came.1 came.3 p.1 p.3 came.6),
        visited-there p.0 p.1 p.4,
      ))
      (takes.pairs.only (k, v) at)

  visits : (key : Key) (visitor : Visitor) → has_visit key visitor all ≡ true → (k : ℕ) × (v : ℕ) × (known : Key) × (seen : Visitor)
      × (slice_get new.keys k ≡ Some known) × (is_same_key key known ≡ true)
      × (slice_get new.visitors v ≡ Some seen) × (is_same_visitor visitor seen ≡ true) × Contains new.pairs (k, v)
  visits key visitor has =
      ⊎_elim
      (λ here.
      let p = was.visits key visitor here in
      (p.0, p.1, p.2, p.3, keeps-key p.0 p.2 p.4, p.5, keeps-visitor p.1 p.3 p.6, p.7, takes.pairs.kept (p.0, p.1) p.8))
      (λ there.
      let p = its.visits key visitor there in
      let k = has-number is_same_key other.keys old.keys p.0 p.2 p.4 in
      let v = has-number is_same_visitor other.visitors old.visitors p.1 p.3 p.6 in (
        k.0,
        v.0,
        p.2,
        p.3,
        key-placed p.0 k.0 p.2 p.4 k.1,
        p.5,
        visitor-placed p.1 v.0 p.3 p.6 v.1,
        p.7,
        takes.pairs.there (k.0, v.0) (p.0, p.1, k.0, v.0, p.8, k.1, v.1, refl),
      ))
      (visited key visitor has)

  used : (v : ℕ) → v < length new.visitors → (k : ℕ) × Contains new.pairs (k, v)
  used v lt =
      ⊎_elim
      (λ less. let p = was.used v less in (p.0, takes.pairs.kept (p.0, v) p.1))
      (λ came.
      let within : came.0 < length other.visitors = omega (arith, slice_get_within visitor-numbers came.0 v came.1, places-long is_same_visitor other.visitors old.visitors) in
      let p = its.used came.0 within in
      let pair = its.pairs p.0 came.0 p.1 in
      let k = has-number is_same_key other.keys old.keys p.0 pair.0 pair.2 in
      (k.0, takes.pairs.there (k.0, v) (p.0, came.0, k.0, v, p.1, k.1, came.1, refl)))
      (number-cases is_same_visitor other.visitors old.visitors v (subst (λ (l : List Visitor). v < length l) takes.visitors lt))

  took-in : IsTallyOf (before ++ more) new
  took-in = record {
    totals = totals;
    different_keys = subst (IsDistinct is_same_key) (sym takes.keys) (stays-distinct is_same_key key-laws other.keys old.keys was.different_keys);
    different_visitors = subst (IsDistinct is_same_visitor) (sym takes.visitors) (stays-distinct is_same_visitor visitor-laws other.visitors old.visitors was.different_visitors);
    sums = sums;
    counted = counted;
    pairs = pairs;
    visits = visits;
    used = used;
  }

pub absorbed : (other old new : TallySeen) → TakesParts other old new → TotalsFit new.totals → (before more : List Outcome) → IsTallyOf before old → IsTallyOf more other
    → IsTallyOf (before ++ more) new
absorbed = took-in
