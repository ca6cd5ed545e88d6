-- Rising lists of dates: how many of them are later than a date, the last of them, and which are the last of two lists together.
use Rattle.std.proofs.Common.{◌≡◌, ℕ, ◌+◌, ◌<◌, ◌≤◌, ◌⊎◌, inl, inr, Bool, true, false, cond, nat_lt, List, [], ◌∷◌, length, refl, sym, ap, ◌∙◌, subst, arith}
use Rattle.std.specs.Prelude.{◌↔◌}
use Rattle.std.specs.List.{AllByRecursion}
use Rattle.std.proofs.lemmas.Bool.{cases_lt}
use Rattle.std.proofs.lemmas.Bool.Decides.{nat_tests}

abbrev pub In : ℕ → List ℕ → Type 0
In e [] = ⊥
In e (x ∷ xs) = (e ≡ x) ⊎ In e xs

abbrev pub Rises : List ℕ → Type 0
Rises [] = Unit {0}
Rises (x ∷ xs) = AllByRecursion (λ y. x < y) xs × Rises xs

-- how many of the dates are later
abbrev pub later : ℕ → List ℕ → ℕ
later d [] = 0
later d (x ∷ xs) = cond (nat_lt d x) 1 0 + later d xs

above : (x e : ℕ) (xs : List ℕ) → AllByRecursion (λ y. x < y) xs → In e xs → x < e
above x e [] all is = absurd is
above x e (y ∷ xs) all (inl same) = omega (arith, all.0, same)
above x e (y ∷ xs) all (inr is) = above x e xs all.1 is

is-less : (d x : ℕ) → d < x → nat_lt d x ≡ true
is-less d x less = grind (arith, nat_tests)

not-less : (d x : ℕ) → x ≤ d → nat_lt d x ≡ false
not-less d x le = grind (arith, nat_tests)

pub one-later : (d x : ℕ) (xs : List ℕ) → d < x → later d (x ∷ xs) ≡ 1 + later d xs
one-later d x xs less = ap (λ b. cond b 1 0 + later d xs) (is-less d x less)

pub none-later : (d x : ℕ) (xs : List ℕ) → x ≤ d → later d (x ∷ xs) ≡ later d xs
none-later d x xs le = ap (λ b. cond b 1 0 + later d xs) (not-less d x le) ∙ omega arith

one-more : (d x : ℕ) (xs : List ℕ) → later d xs ≤ later d (x ∷ xs)
one-more d x xs = elim (cases_lt d x) [
  | inl less ↦ omega (arith, one-later d x xs less)
  | inr le ↦ omega (arith, none-later d x xs le)
]

-- of a later date fewer are later
pub later-falls : (d e : ℕ) (xs : List ℕ) → d < e → later e xs ≤ later d xs
later-falls d e [] less = omega arith
later-falls d e (x ∷ xs) less = elim (cases_lt e x) [
  | inl more ↦ omega (arith, one-later e x xs more, one-later d x xs (omega (arith, less, more)), later-falls d e xs less)
  | inr le ↦ omega (arith, none-later e x xs le, one-more d x xs, later-falls d e xs less)
]

pub later-length : (d : ℕ) (xs : List ℕ) → later d xs ≤ length xs
later-length d [] = omega arith
later-length d (x ∷ xs) = elim (cases_lt d x) [
  | inl less ↦ omega (arith, one-later d x xs less, later-length d xs)
  | inr le ↦ omega (arith, none-later d x xs le, later-length d xs)
]

pub later-all : (d : ℕ) (xs : List ℕ) → AllByRecursion (λ y. d < y) xs → later d xs ≡ length xs
later-all d [] all = refl
later-all d (x ∷ xs) all = omega (arith, one-later d x xs all.0, later-all d xs all.1)

-- ---- a list that has all later dates of another has no fewer of them

-- what follows a date in a list
record After (d x : ℕ) (ys : List ℕ) : Type 0 where
  rest : List ℕ
  rises : Rises rest
  fewer_there : later d rest + 1 ≤ later d ys
  has : (e : ℕ) → In e ys → x < e → In e rest

after : (d x : ℕ) (ys : List ℕ) → Rises ys → In x ys → d < x → After d x ys
after d x [] up is less = absurd is
after d x (y ∷ ys) up (inl same) less = record {
  rest = ys;
  rises = up.1;
  fewer_there = omega (arith, one-later d y ys (omega (arith, less, same)));
  has = λ e is more. elim is [
    | inl first ↦ absurd (omega (arith, first, same, more))
    | inr there ↦ there
  ];
}
after d x (y ∷ ys) up (inr is) less =
    let r = after d x ys up.1 is less in
    record {
      rest = r.rest;
      rises = r.rises;
      fewer_there = omega (arith, r.fewer_there, one-more d y ys);
      has = λ e at more. elim at [
        | inl first ↦ absurd (omega (arith, first, above y x ys up.0 is, more))
        | inr there ↦ r.has e there more
      ];
    }

pub fewer : (d : ℕ) (xs ys : List ℕ) → Rises xs → Rises ys → ((e : ℕ) → In e xs → d < e → In e ys) → later d xs ≤ later d ys
fewer d [] ys up also among = omega arith
fewer d (x ∷ xs) ys up also among = elim (cases_lt d x) [
  | inl less ↦
      let r = after d x ys also (among x (inl refl) less) less in
      let more = fewer d xs r.rest up.1 r.rises (λ e is later_e. r.has e (among e (inr is) later_e) (above x e xs up.0 is)) in
      omega (arith, one-later d x xs less, more, r.fewer_there)
  | inr le ↦ omega (arith, none-later d x xs le, fewer d xs ys up.1 also (λ e is more. among e (inr is) more))
]

-- ---- the last of them

abbrev pub last_of : ℕ → List ℕ → List ℕ
last_of n [] = []
last_of n (x ∷ xs) = cond (nat_lt (length xs) n) (x ∷ xs) (last_of n xs)

pub last-rises : (n : ℕ) (xs : List ℕ) → Rises xs → Rises (last_of n xs)
last-rises n [] up = tt
last-rises n (x ∷ xs) up = pick (nat_lt (length xs) n) (last-rises n xs up.1)
  where
    pick : (v : Bool) → Rises (last_of n xs) → Rises (cond v (x ∷ xs) (last_of n xs))
    pick true rest = up
    pick false rest = rest

-- the dates that are among the last are those of which fewer than so many are later
pub last-has : (n e : ℕ) (xs : List ℕ) → Rises xs → In e xs → later e xs < n → In e (last_of n xs)
last-has n e [] up is few = absurd is
last-has n e (x ∷ xs) up is few = pick (nat_lt (length xs) n) refl (λ at less. last-has n e xs up.1 at less) is
  where
    pick : (v : Bool) → nat_lt (length xs) n ≡ v → (In e xs → later e xs < n → In e (last_of n xs)) → In e (x ∷ xs) → In e (cond v (x ∷ xs) (last_of n xs))
    pick true short rest at = at
    pick false long rest (inl same) =
        let many : n ≤ length xs = grind (arith, nat_tests) in
        let all : later e xs ≡ length xs = later-all e xs (subst (λ (k : ℕ). AllByRecursion (λ y. k < y) xs) (sym same) up.0) in
        absurd (omega (arith, few, none-later e x xs (omega (arith, same)), all, many))
    pick false long rest (inr at) = rest at (omega (arith, few, none-later e x xs (omega (arith, above x e xs up.0 at))))

pub last-is : (n e : ℕ) (xs : List ℕ) → Rises xs → In e (last_of n xs) → In e xs × (later e xs < n)
last-is n e [] up is = absurd is
last-is n e (x ∷ xs) up is = pick (nat_lt (length xs) n) refl (λ at. last-is n e xs up.1 at) is
  where
    not-first : In e (x ∷ xs) → x ≤ e
    not-first (inl same) = omega (arith, same)
    not-first (inr at) = omega (arith, above x e xs up.0 at)

    pick : (v : Bool) → nat_lt (length xs) n ≡ v → (In e (last_of n xs) → In e xs × (later e xs < n)) → In e (cond v (x ∷ xs) (last_of n xs))
        → In e (x ∷ xs) × (later e (x ∷ xs) < n)
    pick true short rest at =
        let few : length xs < n = grind (arith, nat_tests) in
        (at, omega (arith, none-later e x xs (not-first at), later-length e xs, few))
    pick false long rest at =
        let there = rest at in
        (inr there.0, omega (arith, there.1, none-later e x xs (not-first (inr there.0))))

-- where so many are later, so many of the last are
pub last-later : (n d : ℕ) (xs : List ℕ) → Rises xs → n ≤ later d xs → n ≤ later d (last_of n xs)
last-later n d [] up many = many
last-later n d (x ∷ xs) up many = pick (nat_lt (length xs) n) refl (λ left. last-later n d xs up.1 left)
  where
    rest-later : n ≤ length xs → n ≤ later d xs
    rest-later long = elim (cases_lt d x) [
      | inl less ↦ omega (arith, long, later-all d xs (all-above d x xs less up.0))
      | inr le ↦ omega (arith, many, none-later d x xs le)
    ]
      where
        all-above : (d x : ℕ) (ys : List ℕ) → d < x → AllByRecursion (λ y. x < y) ys → AllByRecursion (λ y. d < y) ys
        all-above d x [] less all = tt
        all-above d x (y ∷ ys) less all = (omega (arith, less, all.0), all-above d x ys less all.1)

    pick : (v : Bool) → nat_lt (length xs) n ≡ v → (n ≤ later d xs → n ≤ later d (last_of n xs)) → n ≤ later d (cond v (x ∷ xs) (last_of n xs))
    pick true short rest = many
    pick false long rest =
        let reaches : n ≤ length xs = grind (arith, nat_tests) in
        rest (rest-later reaches)

-- ---- the last of two lists together

-- all has the dates of both, and fewer has those of the second and the last of the first
module _ (n : ℕ) (first second all fewer_all last : List ℕ) (up : Rises first) (up_all : Rises all) (up_fewer : Rises fewer_all)
    (all_is : (e : ℕ) → In e all ↔ (In e first ⊎ In e second))
    (fewer_is : (e : ℕ) → In e fewer_all ↔ (In e last ⊎ In e second))
    (last_are : (e : ℕ) → In e last ↔ (In e first × (later e first < n))) where
  fewer-among : (e : ℕ) → In e fewer_all → In e all
  fewer-among e is = elim ((fewer_is e).0 is) [
    | inl one ↦ (all_is e).1 (inl ((last_are e).0 one).0)
    | inr two ↦ (all_is e).1 (inr two)
  ]

  first-later : (e : ℕ) → later e first ≤ later e all
  first-later e = fewer e first all up up_all (λ f is more. (all_is f).1 (inl is))

  pub last-of-fewer : (d : ℕ) → In d all → later d all < n → In d fewer_all × (later d fewer_all < n)
  last-of-fewer d is few = (there ((all_is d).0 is), omega (arith, few, fewer d fewer_all all up_fewer up_all (λ e at more. fewer-among e at)))
    where
      there : In d first ⊎ In d second → In d fewer_all
      there (inl one) = (fewer_is d).1 (inl ((last_are d).1 (one, omega (arith, few, first-later d))))
      there (inr two) = (fewer_is d).1 (inr two)

  -- so many later ones of the first leave so many
  still-many : (e : ℕ) → n ≤ later e first → n ≤ later e fewer_all
  still-many e many =
      let left = last-later n e first up many in
      let among = fewer e (last_of n first) fewer_all (last-rises n first up) up_fewer (λ f at more. (fewer_is f).1 (inl ((last_are f).1 (last-is n f first up at)))) in
      omega (arith, left, among)

  pub last-of-all : (d : ℕ) → In d fewer_all → later d fewer_all < n → In d all × (later d all < n)
  last-of-all d is few = (fewer-among d is, omega (arith, few, fewer d all fewer_all up_all up_fewer (λ e at more. there e ((all_is e).0 at) more)))
    where
      there : (e : ℕ) → In e first ⊎ In e second → d < e → In e fewer_all
      there e (inr two) more = (fewer_is e).1 (inr two)
      there e (inl one) more = elim (cases_lt (later e first) n) [
        | inl less ↦ (fewer_is e).1 (inl ((last_are e).1 (one, less)))
        | inr many ↦ absurd (omega (arith, still-many e many, later-falls d e fewer_all more, few))
      ]
