-- Rows of sums to which those of other keys were added.
use Rattle.std.proofs.Common.{◌≡◌, ℕ, suc, ◌≤◌, Bool, true, false, cond, ◌||◌, List, [], ◌∷◌, ◌++◌, length, map, Some, None, refl, sym, ap, ◌∙◌, subst, arith}
use Rattle.std.specs.Prelude.{slice_get}
use Rattle.std.specs.List.{IsDistinct, list_any}
use Rattle.std.proofs.lemmas.Bool.{true≢false}
use Rattle.std.proofs.lemmas.Map.Keys.{IsDistinct-head, IsDistinct-tail}
use Rattle.ga_base.specs.declared.counts.Sums.{Sums}
use Rattle.ga_base.specs.declared.counts.Totals.{Totals}
use Rattle.ga_base.specs.declared.key.Key.{Key}
use Rattle.ga_base.specs.Orders.{is_same_key}
use Rattle.ga_shards.specs.Numbers.{noted, place_of}
use Rattle.ga_shards.specs.Steps.{all_noted}
use Rattle.ga_summary.specs.SummaryRows.{no_sums, sums_plus}
use Rattle.ga_base.specs.Totals.{TotalsFit}
use Rattle.ga_summary.proofs.Merging.{sums_plus-none}
use Rattle.ga_tallies.specs.Steps.Adding.{added_at}
use Rattle.ga_numbers.specs.NotedNumbers.{places_of}
use Rattle.ga_tallies.specs.Steps.Absorbing.{rows_added}
use Rattle.ga_numbers.proofs.Noted.{any-noted, noted-distinct}
use Rattle.ga_tallies.proofs.Rows.{AreWithin, no-stop, none-alike, rows-noted}
use Rattle.ga_numbers.proofs.Same.{key-itself, key-laws, same-key}

-- one number more
pub rows-push : (numbers : List ℕ) (number : ℕ) (more rows : List Sums) (line : Sums) → slice_get more (length numbers) ≡ Some line
    → rows_added (numbers ++ number ∷ []) more rows ≡ added_at number line (rows_added numbers more rows)
rows-push numbers number [] rows line e = let off : None ≡ Some line = e in absurd (cc off)
rows-push [] number (first ∷ more) rows line e = let same : first ≡ line = cc in ap (λ (s : Sums). added_at number s rows) same
rows-push (n ∷ numbers) number (first ∷ more) rows line e = rows-push numbers number more (added_at n first rows) line (subst (λ k. slice_get (first ∷ more) k ≡ Some line) next e)
  where
    next : length (n ∷ numbers) ≡ suc (length numbers)
    next = omega arith

-- and one for which there is no row
pub rows-past : (numbers : List ℕ) (number : ℕ) (more rows : List Sums) → length more ≤ length numbers → rows_added (numbers ++ number ∷ []) more rows ≡ rows_added numbers more rows
rows-past [] number [] rows le = refl
rows-past (n ∷ numbers) number [] rows le = refl
rows-past [] number (first ∷ more) rows le = absurd (omega arith)
rows-past (n ∷ numbers) number (first ∷ more) rows le = rows-past numbers number more (added_at n first rows) (omega arith)

-- the sums of each key after those of these keys were added
abbrev pub with_those : (Key → Sums) → List Key → (Key → Sums) → Key → Sums
with_those h items f k = sums_plus (f k) (cond (list_any (is_same_key k) items) (h k) no_sums)

module _ (h : Key → Sums) (most : Totals) (fit : TotalsFit most) where
  abbrev with_one : Key → (Key → Sums) → Key → Sums
  with_one item f k = cond (is_same_key k item) (sums_plus (f k) (h item)) (f k)

  one-first : (item : Key) (items : List Key) (f : Key → Sums) → list_any (is_same_key item) items ≡ false → (k : Key) → with_those h items (with_one item f) k ≡ with_those h (item ∷ items) f k
  one-first item items f apart k = go (is_same_key k item) refl
    where
      go : (b : Bool) → is_same_key k item ≡ b → sums_plus (cond b (sums_plus (f k) (h item)) (f k)) (cond (list_any (is_same_key k) items) (h k) no_sums) ≡ sums_plus (f k) (cond (b || list_any (is_same_key k) items) (h k) no_sums)
      go true e =
          let same : k ≡ item = same-key k item e in
          let off : list_any (is_same_key k) items ≡ false = ap (λ (x : Key). list_any (is_same_key x) items) same ∙ apart in
          ap (λ b. sums_plus (sums_plus (f k) (h item)) (cond b (h k) no_sums)) off ∙ sums_plus-none _ ∙ ap (λ (x : Key). sums_plus (f k) (h x)) (sym same)
      go false e = refl

  -- rows by the numbers of different keys were added to those of different keys
  pub all-added : (items known : List Key) (f : Key → Sums) → IsDistinct is_same_key items → IsDistinct is_same_key known
      → ((k : Key) → list_any (is_same_key k) known ≡ false → f k ≡ no_sums) → ((k : Key) → AreWithin (with_those h items f k) most)
      → rows_added (places_of is_same_key known items) (map h items) (map f known) ≡ map (λ k. with_those h items f k) (all_noted is_same_key known items)
  all-added [] known f apart distinct fresh within = λ i. map (λ k. sym (sums_plus-none (f k)) i) known
  all-added (item ∷ items) known f apart distinct fresh within =
      ap (rows_added (places_of is_same_key (noted is_same_key known item) items) (map h items)) here
      ∙ all-added items (noted is_same_key known item) (with_one item f) (IsDistinct-tail is_same_key item items apart) (noted-distinct is_same_key key-laws known item distinct) fresh-still within-still
      ∙ (λ i. map (λ k. one-first item items f alone k i) (all_noted is_same_key (noted is_same_key known item) items))
    where
      alone : list_any (is_same_key item) items ≡ false
      alone = none-alike is_same_key item items (IsDistinct-head is_same_key item items apart)

      within-still : (k : Key) → AreWithin (with_those h items (with_one item f) k) most
      within-still k = subst (λ (s : Sums). AreWithin s most) (sym (one-first item items f alone k)) (within k)

      row-within : AreWithin (sums_plus (f item) (h item)) most
      row-within = subst (λ b. AreWithin (sums_plus (f item) (cond (b || list_any (is_same_key item) items) (h item) no_sums)) most) (key-itself item) (within item)

      here : added_at (place_of is_same_key known item) (h item) (map f known) ≡ map (with_one item f) (noted is_same_key known item)
      here = rows-noted f (with_one item f) item (h item) (λ k. refl) known distinct (no-stop (f item) (h item) most row-within fit) (fresh item)

      fresh-still : (k : Key) → list_any (is_same_key k) (noted is_same_key known item) ≡ false → with_one item f k ≡ no_sums
      fresh-still k off = go (list_any (is_same_key k) known) (is_same_key k item) refl (sym (any-noted is_same_key same-key known item k) ∙ off)
        where
          go : (a b : Bool) → list_any (is_same_key k) known ≡ a → (a || b) ≡ false → cond b (sums_plus (f k) (h item)) (f k) ≡ no_sums
          go true b e o = absurd (true≢false o)
          go false true e o = absurd (true≢false o)
          go false false e o = fresh k e
