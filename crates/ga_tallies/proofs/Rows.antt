-- The rows of sums after one key more was noted.
use Rattle.std.proofs.Common.{◌≡◌, ℕ, suc, ◌+◌, ◌<◌, ◌≤◌, Bool, true, false, cond, not, ◌||◌, List, [], ◌∷◌, ◌++◌, length, get_or, set, map, refl, sym, ap, ◌∙◌, subst, arith}
use Rattle.std.specs.Prelude.{sum_by, filter}
use Rattle.std.specs.List.{AllByRecursion, IsDistinct, list_any}
use Rattle.std.proofs.lemmas.Bool.{cond-true, cond-false, false≢true, true≢false, lt-ltb, le-ltb}
use Rattle.std.proofs.lemmas.List.{length-map, map-append, get_or-map}
use Rattle.std.proofs.lemmas.List.Sums.{passes_at_first, sum_by-cons}
use Rattle.std.proofs.lemmas.Map.Keys.{IsDistinct-head, IsDistinct-tail}
use Rattle.ga_base.specs.declared.counts.Sums.{Sums}
use Rattle.ga_base.specs.declared.counts.TheConstants.{LIMIT}
use Rattle.ga_base.specs.declared.counts.Totals.{Totals}
use Rattle.ga_base.specs.declared.key.Key.{Key}
use Rattle.ga_base.specs.Orders.{is_same_key}
use Rattle.ga_shards.specs.Numbers.{noted, place_of}
use Rattle.ga_shards.proofs.Noting.{first-within}
use Rattle.ga_shards.proofs.Room.{filter-short}
use Rattle.ga_summary.specs.Outcomes.{Hit, Outcome, Failed, Excluded, Counted, has_key, hits_of, sums_of, totals_of}
use Rattle.ga_summary.specs.SummaryRows.{no_sums, sums_plus}
use Rattle.ga_base.specs.Totals.{TotalsFit}
use Rattle.ga_summary.proofs.Merging.{same_sums, none-sums_plus, sum_by-filter}
use Rattle.ga_tallies.specs.Steps.Adding.{added_at, stopped, with_line}
use Rattle.ga_numbers.proofs.Noted.{noted-cases, place-absent}
use Rattle.ga_numbers.proofs.Same.{key-itself, same-key}

-- ---- a key's sums are at most the totals

within-all : (f : Hit → ℕ) (p : Hit → Bool) (hits : List Hit) → sum_by f (filter p hits) ≤ sum_by f hits
within-all f p hits = rw (sum_by-filter f p hits) (go hits)
  where
    some : (b : Bool) (n : ℕ) → cond b n 0 ≤ n
    some true n = omega arith
    some false n = omega arith

    go : (hits : List Hit) → sum_by (λ hit. cond (p hit) (f hit) 0) hits ≤ sum_by f hits
    go [] = omega arith
    go (hit ∷ hits) = rw (sum_by-cons (λ (h : Hit). cond (p h) (f h) 0) hit hits, sum_by-cons f hit hits) (omega (arith, go hits, some (p hit) (f hit)))

hits-within : (outcomes : List Outcome) → length (hits_of outcomes) ≤ length outcomes
hits-within [] = omega arith
hits-within (Failed ∷ outcomes) = omega (arith, hits-within outcomes)
hits-within (Excluded ∷ outcomes) = omega (arith, hits-within outcomes)
hits-within (Counted hit ∷ outcomes) = omega (arith, hits-within outcomes)

pub record AreWithin (sums : Sums) (totals : Totals) : Type 0 where
  pub hits : sums.hits ≤ totals.lines
  pub bytes : sums.bytes ≤ totals.bytes
  pub micros : sums.micros ≤ totals.micros

pub sums-within : (key : Key) (outcomes : List Outcome) → AreWithin (sums_of key outcomes) (totals_of outcomes)
sums-within key outcomes = record {
  hits = omega (arith, filter-short (has_key key) (hits_of outcomes), hits-within outcomes);
  bytes = within-all (λ (hit : Hit). hit.bytes) (has_key key) (hits_of outcomes);
  micros = within-all (λ (hit : Hit). hit.micros) (has_key key) (hits_of outcomes);
}

-- so no sum of theirs stops
pub no-stop : (row line : Sums) (totals : Totals) → AreWithin (sums_plus row line) totals → TotalsFit totals → with_line row line ≡ sums_plus row line
no-stop row line totals within fit =
    same_sums _ _ (go row.hits line.hits within.hits fit.lines) (go row.bytes line.bytes within.bytes fit.bytes) (go row.micros line.micros within.micros fit.micros) refl
  where
    go : (a b : ℕ) {most : ℕ} → a + b ≤ most → most ≤ LIMIT → stopped a b ≡ a + b
    go a b low high = omega arith

-- ---- the rows

pub none-alike : {T : Type 0} (eq : T → T → Bool) (x : T) (xs : List T) → AllByRecursion (λ y. eq x y ≡ false) xs → list_any (eq x) xs ≡ false
none-alike eq x [] h = refl
none-alike eq x (y ∷ xs) h = rw (h.0) (none-alike eq x xs h.1)

module _ (f g : Key → Sums) (key : Key) (line : Sums) (is : (k : Key) → g k ≡ cond (is_same_key k key) (sums_plus (f k) line) (f k)) where
  here : g key ≡ sums_plus (f key) line
  here = is key ∙ cond-true _ _ _ (key-itself key)

  other : (k : Key) → is_same_key key k ≡ false → g k ≡ f k
  other k apart = is k ∙ cond-false _ _ _ (turned (is_same_key k key) refl)
    where
      turned : (b : Bool) → is_same_key k key ≡ b → is_same_key k key ≡ false
      turned true e = absurd (true≢false (sym (subst (λ (x : Key). is_same_key key x ≡ true) (sym (same-key k key e)) (key-itself key)) ∙ apart))
      turned false e = e

  -- where the key isn't there, the others' sums stay
  others : (keys : List Key) → list_any (is_same_key key) keys ≡ false → map g keys ≡ map f keys
  others [] absent = refl
  others (k ∷ keys) absent =
      elim (is_same_key key k) as (λ v. is_same_key key k ≡ v → (v || list_any (is_same_key key) keys) ≡ false → map g (k ∷ keys) ≡ map f (k ∷ keys)) [
        | true ↦ λ same off. absurd (true≢false off)
        | false ↦ λ apart off. let rest = others keys off in λ i. other k apart i ∷ rest i
      ] refl absent

  -- where it is, its row is the one that gets the line
  known-row : (keys : List Key) → IsDistinct is_same_key keys → list_any (is_same_key key) keys ≡ true
      → set (map f keys) (place_of is_same_key keys key) (sums_plus (f key) line) ≡ map g keys
  known-row [] distinct there = absurd (false≢true there)
  known-row (k ∷ keys) distinct there =
      let made = sums_plus (f key) line in
      elim (is_same_key key k) as (λ v. is_same_key key k ≡ v → (v || list_any (is_same_key key) keys) ≡ true → set (f k ∷ map f keys) (cond (not v) (1 + place_of is_same_key keys key) 0) made ≡ g k ∷ map g keys) [
        | true ↦ λ same _.
            let one : key ≡ k = same-key key k same in
            let none = none-alike is_same_key k keys (IsDistinct-head is_same_key k keys distinct) in
            let absent : list_any (is_same_key key) keys ≡ false = subst (λ (x : Key). list_any (is_same_key x) keys ≡ false) (sym one) none in
            let row : made ≡ g k = sym here ∙ ap g one in
            let rest : map f keys ≡ map g keys = sym (others keys absent) in
            λ i. row i ∷ rest i
        | false ↦ λ apart more.
            let next : suc (place_of is_same_key keys key) ≡ 1 + place_of is_same_key keys key = omega arith in
            let rest = known-row keys (IsDistinct-tail is_same_key k keys distinct) more in
            let row : f k ≡ g k = sym (other k apart) in
            subst (λ n. set (f k ∷ map f keys) n made ≡ g k ∷ map g keys) next (λ i. row i ∷ rest i)
      ] refl there

  -- the rows after the key was noted are those of all keys
  pub rows-noted : (keys : List Key) → IsDistinct is_same_key keys → with_line (f key) line ≡ sums_plus (f key) line
      → (list_any (is_same_key key) keys ≡ false → f key ≡ no_sums) → added_at (place_of is_same_key keys key) line (map f keys) ≡ map g (noted is_same_key keys key)
  rows-noted keys distinct stops none =
      noted-cases is_same_key (λ l. added_at (place_of is_same_key keys key) line (map f keys) ≡ map g l) keys key known fresh
    where
      at : ℕ
      at = place_of is_same_key keys key

      known : list_any (is_same_key key) keys ≡ true → added_at (place_of is_same_key keys key) line (map f keys) ≡ map g keys
      known there =
          let within : at < length keys = first-within (is_same_key key) keys there in
          let inside : at < length (map f keys) = omega (arith, within, length-map keys f) in
          let item : get_or keys at key ≡ key = sym (same-key key _ (passes_at_first (is_same_key key) keys key within)) in
          let row : get_or (map f keys) at line ≡ f key = get_or-map f keys at key line within ∙ ap f item in
          cond-true _ _ _ (lt-ltb at (length (map f keys)) inside)
          ∙ ap (λ (s : Sums). set (map f keys) at (with_line s line)) row
          ∙ ap (λ (s : Sums). set (map f keys) at s) stops
          ∙ known-row keys distinct there

      fresh : list_any (is_same_key key) keys ≡ false → added_at (place_of is_same_key keys key) line (map f keys) ≡ map g (keys ++ key ∷ [])
      fresh absent =
          let end : at ≡ length keys = place-absent is_same_key keys key absent in
          let past : length (map f keys) ≤ at = omega (arith, end, length-map keys f) in
          let row : line ≡ g key = sym (here ∙ ap (λ (s : Sums). sums_plus s line) (none absent) ∙ none-sums_plus line) in
          cond-false _ _ _ (le-ltb at (length (map f keys)) past)
          ∙ (let rest : map f keys ≡ map g keys = sym (others keys absent) in λ i. rest i ++ row i ∷ [])
          ∙ sym (map-append g keys (key ∷ []))
