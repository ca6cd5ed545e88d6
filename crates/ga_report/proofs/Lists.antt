-- Lists: what holds of all elements, sums over those that pass a test, lists that rise, and pairs.
use Rattle.std.proofs.Common.{◌≡◌, ◌⊎◌, ℕ, zero, suc, ◌+◌, ◌<◌, ◌≤◌, Bool, true, false, cond, List, [], ◌∷◌, ◌++◌, inl, inr, refl, sym, ap, ◌∙◌, subst, arith, zero-add, Less, Equal, Greater, length, get_or, map, filter, sum_by, take, Some, append-nil, All}
use Rattle.std.specs.Prelude.{IfSome, Option, slice_get}
use Rattle.std.specs.declared.cmp.Ordering.{Ordering}
use Rattle.std.specs.Ordering.{ordering_reverse}
use Rattle.std.specs.Cmp.{IsTotalOrder}
use Rattle.std.specs.List.{AllByRecursion, Contains}
use Rattle.std.specs.List.Sorted.{IsStrictlySortedBy, IsPermutation}
use Rattle.std.proofs.lemmas.Cmp.{tied_itself}
use Rattle.std.proofs.lemmas.List.Elements.{All-get_or, filter-append}
use Rattle.std.proofs.lemmas.List.Sorted.{Contains-permutation}
use Rattle.std.proofs.lemmas.List.Sums.{sum_by-cons}

-- an item is somewhere in the list
abbrev pub In : {X : Type 0} → X → List X → Type 0
In x [] = ⊥
In x (y ∷ ys) = (x ≡ y) ⊎ In x ys

pub at-all : {X : Type 0} (P : X → Type 0) (x : X) (xs : List X) → AllByRecursion P xs → In x xs → P x
at-all P x [] all h = absurd h
at-all P x (y ∷ ys) all (inl e) = subst P (sym e) all.0
at-all P x (y ∷ ys) all (inr h) = at-all P x ys all.1 h

pub all-in : {X : Type 0} (P : X → Type 0) (xs : List X) → ((x : X) → In x xs → P x) → AllByRecursion P xs
all-in P [] h = tt
all-in P (x ∷ xs) h = (h x (inl refl), all-in P xs (λ y there. h y (inr there)))

pub all-weaker : {X : Type 0} (P Q : X → Type 0) → ((x : X) → P x → Q x) → (xs : List X) → AllByRecursion P xs → AllByRecursion Q xs
all-weaker P Q h [] all = tt
all-weaker P Q h (x ∷ xs) all = (h x all.0, all-weaker P Q h xs all.1)

pub all-both : {X : Type 0} (P Q R : X → Type 0) → ((x : X) → P x → Q x → R x) → (xs : List X) → AllByRecursion P xs → AllByRecursion Q xs → AllByRecursion R xs
all-both P Q R h [] all all' = tt
all-both P Q R h (x ∷ xs) all all' = (h x all.0 all'.0, all-both P Q R h xs all.1 all'.1)

pub all-map : {X Y : Type 0} (f : X → Y) (P : Y → Type 0) (xs : List X) → AllByRecursion (λ x. P (f x)) xs → AllByRecursion P (map f xs)
all-map f P [] all = tt
all-map f P (x ∷ xs) all = (all.0, all-map f P xs all.1)

pub map-all : {X Y : Type 0} (f : X → Y) (P : Y → Type 0) (xs : List X) → AllByRecursion P (map f xs) → AllByRecursion (λ x. P (f x)) xs
map-all f P [] all = tt
map-all f P (x ∷ xs) all = (all.0, map-all f P xs all.1)

-- what holds of each element, and of those that pass a test another thing
pub all-filter : {X : Type 0} (P Q : X → Type 0) (test : X → Bool) → ((x : X) → test x ≡ true → P x → Q x) → (xs : List X) → AllByRecursion P xs → AllByRecursion Q (filter test xs)
all-filter P Q test h [] all = tt
all-filter P Q test h (x ∷ xs) all = elim (test x) as (λ v. test x ≡ v → AllByRecursion Q (cond v (x ∷ filter test xs) (filter test xs))) [
  | true ↦ λ pass. (h x pass all.0, all-filter P Q test h xs all.1)
  | false ↦ λ fail. all-filter P Q test h xs all.1
] refl

either-in : {X : Type 0} (test : X → Bool) (x y : X) (ys fs : List X) → (In x fs → (test x ≡ true) × In x ys) → test y ≡ true → In x (y ∷ fs) → (test x ≡ true) × In x (y ∷ ys)
either-in test x y ys fs rest pass (inl e) = (ap test e ∙ pass, inl e)
either-in test x y ys fs rest pass (inr there) = let r = rest there in (r.0, inr r.1)

pub in-filter : {X : Type 0} (test : X → Bool) (x : X) (xs : List X) → In x (filter test xs) → (test x ≡ true) × In x xs
in-filter test x [] h = absurd h
in-filter test x (y ∷ ys) h = elim (test y) as (λ v. test y ≡ v → In x (cond v (y ∷ filter test ys) (filter test ys)) → (test x ≡ true) × In x (y ∷ ys)) [
  | true ↦ λ pass here. either-in test x y ys (filter test ys) (in-filter test x ys) pass here
  | false ↦ λ fail there. let r = in-filter test x ys there in (r.0, inr r.1)
] refl h

pub filter-in : {X : Type 0} (test : X → Bool) (x : X) (xs : List X) → test x ≡ true → In x xs → In x (filter test xs)
filter-in test x [] pass h = absurd h
filter-in test x (y ∷ ys) pass (inl e) = let own : test y ≡ true = ap test (sym e) ∙ pass in rw own (inl e)
filter-in {X} test x (y ∷ ys) pass (inr there) = elim (test y) as (λ v. In x (cond v (y ∷ filter test ys) (filter test ys))) [
  | true ↦ inr (filter-in test x ys pass there)
  | false ↦ filter-in test x ys pass there
]

contains-in : {X : Type 0} (x : X) (xs : List X) (k : ℕ) → k < length xs → get_or xs k x ≡ x → In x xs
contains-in x [] k below at = absurd (omega arith)
contains-in x (y ∷ ys) zero below at = inl (sym at)
contains-in x (y ∷ ys) (suc k) below at = inr (contains-in x ys k (omega arith) at)

in-contains : {X : Type 0} (x : X) (xs : List X) → In x xs → Contains xs x
in-contains x [] h = absurd h
in-contains x (y ∷ ys) (inl e) = (0, omega arith, sym e)
in-contains x (y ∷ ys) (inr h) = let there = in-contains x ys h in (suc there.0, omega (arith, there.1), there.2)

pub in-permutation : {X : Type 0} (x : X) (xs ys : List X) → IsPermutation xs ys → In x xs → In x ys
in-permutation x xs ys moved h =
    let there = Contains-permutation xs ys x moved (in-contains x xs h) in
    contains-in x ys there.0 there.1 there.2

-- sums over those that pass a test
pub sum_by-filter : {X : Type 0} (f : X → ℕ) (test : X → Bool) (xs : List X) → sum_by f (filter test xs) ≡ sum_by (λ x. cond (test x) (f x) 0) xs
sum_by-filter f test [] = refl
sum_by-filter {X} f test (x ∷ xs) = sym (sum_by-cons (λ y. cond (test y) (f y) 0) x xs ∙ split (test x) (sum_by-filter f test xs))
  where
    split : (b : Bool) → sum_by f (filter test xs) ≡ sum_by (λ y. cond (test y) (f y) 0) xs
        → cond b (f x) 0 + sum_by (λ y. cond (test y) (f y) 0) xs ≡ sum_by f (cond b (x ∷ filter test xs) (filter test xs))
    split true e = rw (sum_by-cons f x (filter test xs), e)
    split false e = rw e (zero-add _)

-- fewer elements sum to less
pub sum-among : {X : Type 0} (f : X → ℕ) (p t : X → Bool) (xs : List X) → sum_by f (filter p (filter t xs)) ≤ sum_by f (filter p xs)
sum-among {X} f p t xs = omega (arith, sum_by-filter f p (filter t xs), sum_by-filter f p xs, within xs)
  where
    w : X → ℕ
    w x = cond (p x) (f x) 0

    within : (ys : List X) → sum_by w (filter t ys) ≤ sum_by w ys
    within [] = omega arith
    within (y ∷ ys) = elim (t y) as (λ b. sum_by w (cond b (y ∷ filter t ys) (filter t ys)) ≤ sum_by w (y ∷ ys)) [
      | true ↦ omega (arith, sum_by-cons w y (filter t ys), sum_by-cons w y ys, within ys)
      | false ↦ omega (arith, sum_by-cons w y ys, within ys)
    ]

-- a list that rises by a key, and the list of its keys
pub strict-map : {X Y : Type 0} (f : X → Y) (R : Y → Y → Ordering) (xs : List X) → IsStrictlySortedBy (λ a b. R (f a) (f b)) xs → IsStrictlySortedBy R (map f xs)
unfolding IsStrictlySortedBy
strict-map f R [] up = tt
strict-map f R (x ∷ xs) up = (all-map f (λ y. R (f x) y ≡ Less) xs up.0, strict-map f R xs up.1)

pub map-strict : {X Y : Type 0} (f : X → Y) (R : Y → Y → Ordering) (xs : List X) → IsStrictlySortedBy R (map f xs) → IsStrictlySortedBy (λ a b. R (f a) (f b)) xs
unfolding IsStrictlySortedBy
map-strict f R [] up = tt
map-strict f R (x ∷ xs) up = (map-all f (λ y. R (f x) y ≡ Less) xs up.0, map-strict f R xs up.1)

less-equal : Less ≡ Equal → ⊥
less-equal e = cc

less-greater : Less ≡ Greater → ⊥
less-greater e = cc

module _ {X : Type 0} (R : X → X → Ordering) (o : IsTotalOrder R) where
  pub not-itself : (x : X) → R x x ≡ Less → ⊥
  not-itself x e = less-equal (sym e ∙ tied_itself o x)

  not-both : (x y : X) → R x y ≡ Less → R y x ≡ Less → ⊥
  not-both x y e f = less-greater (sym e ∙ o.antisymm x y ∙ ap ordering_reverse f)

  one-head : (x y : X) (xs ys : List X) → AllByRecursion (λ z. R x z ≡ Less) xs → AllByRecursion (λ z. R y z ≡ Less) ys → In x (y ∷ ys) → In y (x ∷ xs) → x ≡ y
  one-head x y xs ys above above' (inl e) there' = e
  one-head x y xs ys above above' (inr there) (inl e) = sym e
  one-head x y xs ys above above' (inr there) (inr there') =
      absurd (not-both x y (at-all (λ z. R x z ≡ Less) y xs above there') (at-all (λ z. R y z ≡ Less) x ys above' there))

  in-tail : (x y z : X) (xs ys : List X) → x ≡ y → AllByRecursion (λ w. R x w ≡ Less) xs → In z xs → In z (y ∷ ys) → In z ys
  in-tail x y z xs ys same above there (inr h) = h
  in-tail x y z xs ys same above there (inl e) =
      absurd (not-itself x (at-all (λ w. R x w ≡ Less) x xs above (subst (λ (w : X). In w xs) (e ∙ sym same) there)))

  -- two lists that rise and have the same elements are one
  pub one-list : (xs ys : List X) → IsStrictlySortedBy R xs → IsStrictlySortedBy R ys → ((x : X) → In x xs → In x ys) → ((x : X) → In x ys → In x xs) → xs ≡ ys
  unfolding IsStrictlySortedBy
  one-list [] [] up up' to from = refl
  one-list [] (y ∷ ys) up up' to from = absurd (from y (inl refl))
  one-list (x ∷ xs) [] up up' to from = absurd (to x (inl refl))
  one-list (x ∷ xs) (y ∷ ys) up up' to from =
      let head : x ≡ y = one-head x y xs ys up.0 up'.0 (to x (inl refl)) (from y (inl refl)) in
      let tail : xs ≡ ys = one-list xs ys up.1 up'.1 (λ z there. in-tail x y z xs ys head up.0 there (to z (inr there)))
      (λ z there. in-tail y x z ys xs (sym head) up'.0 there (from z (inr there))) in
      λ i. head i ∷ tail i

-- one element more of those that are read
pub take-more : {X : Type 0} (n : ℕ) (xs : List X) (x : X) → slice_get xs n ≡ Some x → take (n + 1) xs ≡ take n xs ++ x ∷ []
take-more zero [] x e = cc
take-more zero (y ∷ ys) x e = let same : y ≡ x = cc e in λ i. same i ∷ []
take-more (suc n) [] x e = cc
take-more {X} (suc n) (y ∷ ys) x e = let next : suc n + 1 ≡ suc (n + 1) = omega arith in rw next (ap (λ (r : List X). y ∷ r) (take-more n ys x e))

-- what is read with one element more is at most what all have
pub more-part : {X : Type 0} (w : X → ℕ) (xs : List X) (n : ℕ) (x : X) → slice_get xs n ≡ Some x → sum_by w (take n xs) + w x ≤ sum_by w xs
more-part w [] zero x e = cc
more-part w [] (suc n) x e = cc
more-part w (y ∷ ys) zero x e = let same : y ≡ x = cc e in omega (arith, sum_by-cons w y ys, ap w same)
more-part w (y ∷ ys) (suc n) x e = omega (arith, sum_by-cons w y ys, sum_by-cons w y (take n ys), more-part w ys n x e)

pub sum-room : {X : Type 0} (f : X → ℕ) (test : X → Bool) (xs : List X) (n : ℕ) (x : X) → slice_get xs n ≡ Some x → test x ≡ true
    → sum_by f (filter test (take n xs)) + f x ≤ sum_by f (filter test xs)
sum-room f test xs n x at pass =
    let own : cond (test x) (f x) 0 ≡ f x = ap (λ (b : Bool). cond b (f x) 0) pass in
    omega (arith, own, sum_by-filter f test xs, sum_by-filter f test (take n xs), more-part (λ y. cond (test y) (f y) 0) xs n x at)

pub filter-push : {X : Type 0} (p : X → Bool) (xs : List X) (x : X) → p x ≡ true → filter p (xs ++ x ∷ []) ≡ filter p xs ++ x ∷ []
filter-push {X} p xs x e =
    let one : filter p (x ∷ []) ≡ x ∷ [] = rw e refl in
    filter-append p xs (x ∷ []) ∙ ap (λ (ys : List X). filter p xs ++ ys) one

pub filter-pass : {X : Type 0} (p : X → Bool) (xs : List X) (x : X) → p x ≡ false → filter p (xs ++ x ∷ []) ≡ filter p xs
filter-pass {X} p xs x e =
    let none : filter p (x ∷ []) ≡ [] = rw e refl in
    filter-append p xs (x ∷ []) ∙ ap (λ (ys : List X). filter p xs ++ ys) none ∙ append-nil (filter p xs)

pub take-get : {X : Type 0} (n : ℕ) (xs : List X) (d : X) → n < length xs → take (n + 1) xs ≡ take n xs ++ get_or xs n d ∷ []
take-get n [] d below = absurd (omega arith)
take-get zero (x ∷ xs) d below = refl
take-get {X} (suc n) (x ∷ xs) d below = let next : suc n + 1 ≡ suc (n + 1) = omega arith in rw next (ap (λ (r : List X). x ∷ r) (take-get n xs d (omega (arith, below))))

pub get-some : {X : Type 0} (n : ℕ) (xs : List X) → n < length xs → (x : X) × (slice_get xs n ≡ Some x)
get-some n [] below = absurd (omega arith)
get-some zero (x ∷ xs) below = (x, refl)
get-some (suc n) (x ∷ xs) below = get-some n xs (omega (arith, below))

pub at-some : {X : Type 0} (P : X → Type 0) (o : Option X) (x : X) → o ≡ Some x → IfSome o P → P x
at-some {X} P o x at h = subst (λ (v : Option X). IfSome v P) at h

-- what holds of all elements holds of one that is read
pub all-read : {X : Type 0} (P : X → Type 0) (xs : List X) (i : ℕ) (x : X) → i < length xs → x ≡ get_or xs i x → All P xs → P x
all-read P xs i x below at all = subst P (sym at) (All-get_or P xs i x below all)
