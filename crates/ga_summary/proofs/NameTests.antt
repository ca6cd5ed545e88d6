-- What tests of names that rise answer.
use Rattle.std.proofs.Common.{◌≡◌, ℕ, zero, suc, ◌+◌, ◌<◌, ◌≤◌, Bool, true, false, List, [], ◌∷◌, Less, length, get_or, take, drop, is_lt, take_all, length-drop, inl, inr, ◌-◌, refl, sym, ap, ◌∙◌, subst, add-one, arith}
use Rattle.std.specs.Ordering.{is_eq, ordering_reverse}
use Rattle.std.specs.List.{IsAllAdjacentAnswer}
use Rattle.std.specs.List.Sorted.{IsStrictlySortedBy}
use Rattle.std.proofs.lemmas.Bool.{false≢true}
use Rattle.std.proofs.lemmas.Cmp.{alike_right}
use Rattle.std.proofs.lemmas.List.{get_or_default}
use Rattle.std.proofs.Math.Nat.{eq-or-lt_of_le}
use Rattle.ga_base.specs.declared.name.Name.{Name}
use Rattle.ga_base.specs.Orders.{name_cmp}
use Rattle.ga_base.proofs.OrderLemmas.{name_cmp_total}
use Rattle.ga_summary.specs.SummaryRows.{has_name}
use Rattle.ga_summary.specs.Steps.Passing.{AllAmong, IsBehind}
use Rattle.ga_summary.specs.Steps.Places.{Rises, StandsAt}
use Rattle.ga_summary.proofs.Put.{rises_less, stands_tail}
use Rattle.ga_summary.proofs.NameLists.{map-same, names_rise, has_name_found}
use Rattle.ga_summary.proofs.PartRows.{less_from_is_lt}
use Rattle.ga_summary.proofs.Rising.{rises_from_adjacent, rises_drop}

-- names that rise as their own keys
names_sorted : (names : List Name) → Rises name_cmp (λ n. n) names → IsStrictlySortedBy name_cmp names
names_sorted names rises = subst (IsStrictlySortedBy name_cmp) (map-same names) rises

-- an earlier name is below a later one
pub name_less : (names : List Name) → IsStrictlySortedBy name_cmp names → (i j : ℕ) (d : Name) → i < j → j < length names → name_cmp (get_or names i d) (get_or names j d) ≡ Less
name_less names s i j d less within = rises_less name_cmp name_cmp_total (λ n. n) names i j d (names_rise names s) less within

pub names_told : (names : List Name) (r : Bool) → IsAllAdjacentAnswer (λ x y b. b ≡ is_lt (name_cmp x y)) names r → (r ≡ true → IsStrictlySortedBy name_cmp names) × (IsStrictlySortedBy name_cmp names → r ≡ true)
names_told names true each = (λ _. names_sorted names (rises_from_adjacent name_cmp (λ n. n) name_cmp_total names (λ k d lt. less_from_is_lt _ (rw add-one at (sym (each k d lt))))), λ _. refl)
names_told [] false some = absurd (omega (arith, some.1))
names_told (n ∷ names) false some = (
  λ e. absurd (false≢true e),
  λ s.
      let less = name_less (n ∷ names) s some.0 (some.0 + 1) n (omega arith) some.1 in
      absurd (false≢true (some.2 n ∙ ap is_lt less)),
)

pub names_drop : (n : ℕ) (names : List Name) → IsStrictlySortedBy name_cmp names → IsStrictlySortedBy name_cmp (drop n names)
names_drop n names s = names_sorted (drop n names) (rises_drop name_cmp (λ n. n) n names (names_rise names s))

-- a name above another isn't it
apart : (low high : Name) → name_cmp low high ≡ Less → is_eq (name_cmp high low) ≡ false
apart low high less = ap is_eq (name_cmp_total.antisymm high low ∙ ap ordering_reverse less)

-- a name above the one that is at a place is to be found after it
pub found_behind : (names : List Name) (i : ℕ) (name other : Name) → StandsAt name_cmp (λ n. n) name names i → name_cmp name other ≡ Less → has_name (drop (suc i) names) other ≡ has_name names other
found_behind [] i name other stands less = refl
found_behind (n ∷ names) zero name other stands less =
    let other_than : is_eq (name_cmp other n) ≡ false = ap is_eq (sym (alike_right name_cmp_total name n other (stands.here name))) ∙ apart name other less in
    rw other_than
found_behind (n ∷ names) (suc i) name other stands less =
    let below : name_cmp n name ≡ Less = name_cmp_total.antisymm n name ∙ ap ordering_reverse (stands.before 0 name (omega arith)) in
    rw (apart n other (name_cmp_total.trans n name other below less)) (found_behind names i name other (stands_tail name_cmp name_cmp_total (λ n. n) name n names i stands) less)

-- what follows a name that is found
pub behind_found : (names : List Name) → IsStrictlySortedBy name_cmp names → (name : Name) (i m : ℕ) → StandsAt name_cmp (λ n. n) name names i → length names - (i + 1) ≤ m → IsBehind names name (take m (drop (i + 1) names))
behind_found names s name i m stands enough =
    let rest : take m (drop (suc i) names) ≡ drop (suc i) names = take_all m (drop (suc i) names) (omega (arith, length-drop (suc i) names)) in
    rw (add-one, rest) (record {
      found = has_name_found names s name i stands;
      rising = names_drop (suc i) names s;
      above = λ other less. found_behind names i name other stands less;
    })

module _ (names among : List Name) (s : IsStrictlySortedBy name_cmp names) (i : ℕ) (name : Name) (is : name ≡ get_or names i name) (within : i < length names)
    (left : List Name) (rest : (k : ℕ) (d : Name) → i ≤ k → k < length names → has_name left (get_or names k d) ≡ has_name among (get_or names k d)) where
  here : has_name left name ≡ has_name among name
  here = subst (λ (n : Name). has_name left n ≡ has_name among n) (sym is) (rest i name (omega arith) within)

  pub found_more : has_name left name ≡ true → ((k : ℕ) (d : Name) → k < i → has_name among (get_or names k d) ≡ true) → (k : ℕ) (d : Name) → k < i + 1 → has_name among (get_or names k d) ≡ true
  found_more found before k d lt =
      let past : k ≤ i = omega arith in
      elim (eq-or-lt_of_le past) [
        | inl same ↦ rw (same, get_or_default names i d name within, ← is) (sym here ∙ found)
        | inr less ↦ before k d less
      ]

  pub rest_more : (behind : List Name) → IsBehind left name behind → (k : ℕ) (d : Name) → i + 1 ≤ k → k < length names → has_name behind (get_or names k d) ≡ has_name among (get_or names k d)
  rest_more behind b k d le lt =
      let less : name_cmp name (get_or names k name) ≡ Less = subst (λ (n : Name). name_cmp n (get_or names k name) ≡ Less) (sym is) (name_less names s i k name (omega arith) lt) in
      rw (get_or_default names k d name lt) (b.above (get_or names k name) less ∙ rest k name (omega arith) lt)

  pub not_among : has_name left name ≡ false → AllAmong names among → false ≡ true
  not_among missing all = sym missing ∙ here ∙ subst (λ (n : Name). has_name among n ≡ true) (sym is) (all i name within)
