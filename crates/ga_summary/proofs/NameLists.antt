-- Names that rise: what a search finds among them, and a name put in its place.
use Rattle.std.proofs.Common.{◌≡◌, ℕ, zero, suc, ◌<◌, List, [], ◌∷◌, Option, Some, Result, MatchResult, Bool, ◌||◌, true, false, cond, get_or, set, map, length, refl, sym, ap, ◌∙◌, subst, arith, is_some}
use Rattle.std.specs.List.{insert, list_any, find}
use Rattle.std.specs.List.Sorted.{IsStrictlySortedBy, IsSearchInRange, IsBinarySearchResult}
use Rattle.ga_base.specs.declared.name.Name.{Name}
use Rattle.ga_base.specs.Orders.{name_cmp}
use Rattle.ga_summary.specs.SummaryRows.{has_name}
use Rattle.ga_summary.specs.Steps.Joined.{put_name, put_names}
use Rattle.ga_summary.specs.Steps.Places.{Rises, StandsAt, GoesTo}
use Rattle.ga_base.proofs.OrderLemmas.{name_cmp_total}
use Rattle.ga_summary.proofs.Put.{searched, find_stands, find_goes, put_stands, put_goes, rises_put, rises_put_all}

pub map-same : {A : Type 0} (xs : List A) → map (λ x. x) xs ≡ xs
map-same [] = refl
map-same (x ∷ xs) = ap (λ (l : List _). x ∷ l) (map-same xs)

-- what is at a place, put there again
pub set-same : {A : Type 0} (xs : List A) (i : ℕ) (d : A) → i < length xs → set xs i (get_or xs i d) ≡ xs
set-same [] i d lt = refl
set-same (x ∷ xs) zero d lt = refl
set-same (x ∷ xs) (suc i) d lt = ap (λ (l : List _). x ∷ l) (set-same xs i d (omega arith))

-- some item passes a test where one is found
pub any-find : {A : Type 0} (test : A → Bool) (xs : List A) → list_any test xs ≡ is_some (find test xs)
any-find test [] = refl
any-find test (x ∷ xs) = rw (any-find test xs) (split (test x) (find test xs))
  where
    split : (b : Bool) (o : Option _) → b || is_some o ≡ is_some (cond b (Some x) o)
    split true o = refl
    split false o = refl

-- names that rise, as a list of items that are their own keys
pub names_rise : (names : List Name) → IsStrictlySortedBy name_cmp names → Rises name_cmp (λ n. n) names
names_rise names rising = subst (IsStrictlySortedBy name_cmp) (sym (map-same names)) rising

module _ (names : List Name) (rising : IsStrictlySortedBy name_cmp names) where
  rises : Rises name_cmp (λ n. n) names
  rises = names_rise names rising

  pub names_searched : (name : Name) (r : Result ℕ ℕ) → IsSearchInRange r (length names) → IsBinarySearchResult (λ other. name_cmp other name) names r → MatchResult r (StandsAt name_cmp (λ n. n) name names) (GoesTo name_cmp (λ n. n) name names)
  names_searched name r within found = searched name_cmp name_cmp_total (λ n. n) name names r rises within found

  pub has_name_found : (name : Name) (i : ℕ) → StandsAt name_cmp (λ n. n) name names i → has_name names name ≡ true
  has_name_found name i h = rw (any-find _ names, find_stands name_cmp name_cmp_total (λ n. n) name names i name h)

  pub has_name_missing : (name : Name) (i : ℕ) → GoesTo name_cmp (λ n. n) name names i → has_name names name ≡ false
  has_name_missing name i h = rw (any-find _ names, find_goes name_cmp name_cmp_total (λ n. n) name names i rises h)

  pub put_name_found : (name : Name) (i : ℕ) → StandsAt name_cmp (λ n. n) name names i → put_name name names ≡ names
  put_name_found name i h = put_stands name_cmp name_cmp_total (λ n. n) (λ n _. n) name names i name h ∙ set-same names i name h.within

  pub put_name_missing : (name : Name) (i : ℕ) → GoesTo name_cmp (λ n. n) name names i → put_name name names ≡ insert names i name
  put_name_missing name i h = put_goes name_cmp name_cmp_total (λ n. n) (λ n _. n) name names i h

  pub rising_put_name : (name : Name) → IsStrictlySortedBy name_cmp (put_name name names)
  rising_put_name name = subst (IsStrictlySortedBy name_cmp) (map-same _) (rises_put name_cmp name_cmp_total (λ n. n) (λ n _. n) (λ _ _. refl) name names rises)

  pub rising_put_names : (more : List Name) → IsStrictlySortedBy name_cmp (put_names more names)
  rising_put_names more = subst (IsStrictlySortedBy name_cmp) (map-same _) (rises_put_all name_cmp name_cmp_total (λ n. n) (λ n _. n) (λ _ _. refl) more names rises)
