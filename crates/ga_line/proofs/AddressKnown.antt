-- A text is an address or isn't, and an address isn't empty.
use Rattle.std.proofs.Common.{◌≡◌, ℕ, zero, suc, ◌+◌, ◌-◌, ◌*◌, ◌^◌, ◌<◌, Bool, true, false, List, [], ◌∷◌, ◌++◌, length, replicate, refl, sym, ap, ◌∙◌, subst, arith, inl, inr, ⊎_elim, append_assoc, length-append}
use Rattle.std.specs.Prelude.{codes, decimal}
use Rattle.std.specs.Char.{digit_value}
use Rattle.std.specs.Str.Parse.{AllDigits, digits_value}
use Rattle.ga_hosts.specs.Addresses.{number_in, IsDottedQuad, IsGroup, IsRow, IsWritten, IsShortened, Spells, IsAddress}
use Rattle.ga_hosts.specs.declared.address.Address.{Address}
use Rattle.ga_hosts.specs.declared.address.Address.TheVariants.{V4, V6}
use Rattle.ga_line.proofs.Known.{IsKnown, known-both, known-less, known-most, known-same, known-true, known-text, known-below, IsParted, known-parted}

-- four parts joined by dots
abbrev joined : ℕ → ℕ → ℕ → ℕ → List ℕ
joined a b c d = decimal a ++ codes "." ++ decimal b ++ codes "." ++ decimal c ++ codes "." ++ decimal d

known-quad : (text : List ℕ) → IsKnown ((a b c d : ℕ) × IsDottedQuad text a b c d)
known-quad text =
    ⊎_elim
    (λ (a, below_a, (b, below_b, (c, below_c, (d, below_d, is)))). inl (a, b, c, d, record { spelled = is; fit = (below_a, below_b, below_c, below_d) }))
    (λ none. inr (λ (a, b, c, d, is). none (a, is.fit.0, (b, is.fit.1, (c, is.fit.2, (d, is.fit.3, is.spelled))))))
    (known-below A (λ a. known-below (B a) (λ b. known-below (C a b) (λ c. known-below (D a b c) (λ d. known-text text (joined a b c d)) 256) 256) 256) 256)
  where
    D : ℕ → ℕ → ℕ → ℕ → Type 0
    D a b c d = text ≡ joined a b c d

    C : ℕ → ℕ → ℕ → Type 0
    C a b c = (d : ℕ) × (d < 256) × D a b c d

    B : ℕ → ℕ → Type 0
    B a b = (c : ℕ) × (c < 256) × C a b c

    A : ℕ → Type 0
    A a = (b : ℕ) × (b < 256) × B a b

known-numeral : (text : List ℕ) → IsKnown (AllDigits 16 text)
known-numeral [] = inl tt
known-numeral (c ∷ text) = known-both (known-less (digit_value c) 16) (known-numeral text)

abbrev HasGroup : List ℕ → Type 0
HasGroup text = (group : ℕ) × IsGroup text group

known-group : (text : List ℕ) → IsKnown (HasGroup text)
known-group text =
    ⊎_elim
    (λ (some, (all, short)). inl (digits_value 16 text, record { digits = (some, all); short = short; value = refl }))
    (λ none. inr (λ (group, is). none (is.digits.0, (is.digits.1, is.short))))
    (known-both (known-less 0 (length text)) (known-both (known-numeral text) (known-most (length text) 4)))

-- this many groups joined by colons
abbrev HasRow : Bool → ℕ → List ℕ → Type 0
HasRow quad n text = (groups : List ℕ) × (length groups ≡ n) × IsRow quad text groups

abbrev HasColonRow : Bool → ℕ → List ℕ → Type 0
HasColonRow quad n text = (rest : List ℕ) × (text ≡ 58 ∷ rest) × HasRow quad n rest

abbrev HasQuad : Bool → ℕ → List ℕ → Type 0
HasQuad quad n text = (quad ≡ true) × ((n ≡ 0) × ((a b c d : ℕ) × IsDottedQuad text a b c d))

cons-head : (x y : ℕ) (xs ys : List ℕ) → x ∷ xs ≡ y ∷ ys → x ≡ y
cons-head x y xs ys e = cc

cons-tail : (x y : ℕ) (xs ys : List ℕ) → x ∷ xs ≡ y ∷ ys → xs ≡ ys
cons-tail x y xs ys e = cc

no-byte : (b : ℕ) (text : List ℕ) → [] ≡ b ∷ text → ⊥
no-byte b text e = cc

no-groups : (groups : List ℕ) → length groups ≡ 0 → groups ≡ []
no-groups [] long = refl
no-groups (g ∷ groups) long = absurd (omega arith)

known-colon : (quad : Bool) (n : ℕ) → ((rest : List ℕ) → IsKnown (HasRow quad n rest)) → (text : List ℕ) → IsKnown (HasColonRow quad n text)
known-colon quad n known [] = inr (λ (rest, e, row). no-byte 58 rest e)
known-colon quad n known (b ∷ text) =
    ⊎_elim (λ (colon, row). inl (text, ap (λ (x : ℕ). x ∷ text) colon, row))
    (λ none. inr (λ (rest, e, row). none (cons-head _ _ _ _ e, subst (HasRow quad n) (sym (cons-tail _ _ _ _ e)) row)))
    (known-both (known-same b 58) (known text))

known-row : (quad : Bool) (n : ℕ) (text : List ℕ) → IsKnown (HasRow quad n text)
known-row quad zero text = ⊎_elim (λ e. inl ([], refl, e)) (λ none. inr (λ (groups, long, row). none (subst (λ (gs : List ℕ). IsRow quad text gs) (no-groups groups long) row))) (known-text text [])
known-row quad (suc zero) text = ⊎_elim (λ (group, is). inl (group ∷ [], refl, is)) (λ none. inr (λ (groups, long, row). one none groups long row)) (known-group text)
  where
    one : ¬ HasGroup text → (groups : List ℕ) → length groups ≡ 1 → IsRow quad text groups → ⊥
    one none [] long row = omega arith
    one none (g ∷ []) long row = none (g, row)
    one none (g ∷ h ∷ groups) long row = omega arith
known-row quad (suc (suc n)) text =
    from (known-parted (λ first tail. HasGroup first × HasColonRow quad (suc n) tail) (λ first tail. known-both (known-group first) (known-colon quad (suc n) (known-row quad (suc n)) tail)) text)
    (known-both (known-true quad) (known-both (known-same n 0) (known-quad text)))
  where
    Joined : List ℕ → List ℕ → Type 0
    Joined first tail = HasGroup first × HasColonRow quad (suc n) tail

    made : (first tail : List ℕ) → text ≡ first ++ tail → (group : ℕ) → IsGroup first group → (rest : List ℕ) → tail ≡ 58 ∷ rest → (groups : List ℕ) → length groups ≡ suc n → IsRow quad rest groups
        → HasRow quad (suc (suc n)) text
    made first tail split group is rest colon [] long row = absurd (omega arith)
    made first tail split group is rest colon (g ∷ groups) long row =
        (group ∷ g ∷ groups, ap suc long, inl (first, rest, split ∙ ap (λ (t : List ℕ). first ++ t) colon ∙ sym (append_assoc first (58 ∷ []) rest), is, row))

    none-of : ¬ IsParted Joined text → ¬ HasQuad quad n text → (groups : List ℕ) → length groups ≡ suc (suc n) → IsRow quad text groups → ⊥
    none-of no_row no_quad [] long row = omega arith
    none-of no_row no_quad (g ∷ []) long row = omega arith
    none-of no_row no_quad (g ∷ h ∷ groups) long (inl (first, rest, split, is, row)) =
        no_row (first, 58 ∷ rest, split ∙ append_assoc first (58 ∷ []) rest, ((g, is), (rest, refl, (h ∷ groups, omega (arith, long), row))))
    none-of no_row no_quad (g ∷ h ∷ groups) long (inr (on, more, pair)) =
        let l : length groups ≡ 0 = ap length more in
        no_quad (on, (omega (arith, long, l), (pair.a, pair.b, pair.c, pair.d, pair.quad)))

    from : IsKnown (IsParted Joined text) → IsKnown (HasQuad quad n text) → IsKnown (HasRow quad (suc (suc n)) text)
    from (inl (first, tail, split, ((group, is), (rest, colon, (groups, long, row))))) quads = inl (made first tail split group is rest colon groups long row)
    from (inr no_row) (inl (on, (none, (a, b, c, d, is)))) =
        inl ((a * 256 + b) ∷ (c * 256 + d) ∷ [], omega (arith, none), inr (on, refl, record { a = a; b = b; c = c; d = d; quad = is; high_is = refl; low_is = refl }))
    from (inr no_row) (inr no_quad) = inr (λ (groups, long, row). none-of no_row no_quad groups long row)

known-written : (text : List ℕ) → IsKnown ((groups : List ℕ) × IsWritten text groups)
known-written text =
    ⊎_elim (λ (groups, long, row). inl (groups, record { row = row; eight = long })) (λ none. inr (λ (groups, is). none (groups, is.eight, is.row))) (known-row true 8 text)

-- groups before and after `::`
abbrev HasColonsRow : ℕ → List ℕ → Type 0
HasColonsRow n text = (rest : List ℕ) × (text ≡ 58 ∷ 58 ∷ rest) × HasRow true n rest

known-colons : (n : ℕ) (text : List ℕ) → IsKnown (HasColonsRow n text)
known-colons n [] = inr (λ (rest, e, row). no-byte 58 (58 ∷ rest) e)
known-colons n (b ∷ []) = inr (λ (rest, e, row). no-byte 58 rest (cons-tail _ _ _ _ e))
known-colons n (b ∷ c ∷ text) =
    ⊎_elim (λ (first, (second, row)). inl (text, two b c text first second, row))
    (λ none. inr (λ (rest, e, row). none (cons-head _ _ _ _ e, (cons-head _ _ _ _ (cons-tail _ _ _ _ e), subst (HasRow true n) (sym (cons-tail _ _ _ _ (cons-tail _ _ _ _ e))) row))))
    (known-both (known-same b 58) (known-both (known-same c 58) (known-row true n text)))
  where
    two : (b c : ℕ) (text : List ℕ) → b ≡ 58 → c ≡ 58 → b ∷ c ∷ text ≡ 58 ∷ 58 ∷ text
    two b c text e f = cc

abbrev Shortens : ℕ → ℕ → List ℕ → List ℕ → Type 0
Shortens n m left tail = (n + m < 8) × (HasRow false n left × HasColonsRow m tail)

known-shortened : (text : List ℕ) → IsKnown ((groups : List ℕ) × IsShortened text groups)
known-shortened text =
    ⊎_elim
    (λ (left, tail, split, (n, n_below, (m, m_below, (few, ((before, before_long, is_before), (right, colons, (after, after_long, is_after))))))).
    inl (
      before ++ replicate (8 - (n + m)) 0 ++ after,
      record {
        left = left;
        right = right;
        before = before;
        zeros = 8 - (n + m);
        after = after;
        spelled = split ∙ ap (λ (t : List ℕ). left ++ t) colons ∙ sym (append_assoc left (58 ∷ 58 ∷ []) right);
        is_before = is_before;
        is_after = is_after;
        some_zeros = omega (arith, few);
        eight = omega (arith, few, before_long, after_long);
        groups_are = refl;
      },
    ))
    (λ none. inr (λ (groups, is). none (
      is.left,
      58 ∷ 58 ∷ is.right,
      is.spelled ∙ append_assoc is.left (58 ∷ 58 ∷ []) is.right,
      (
        length is.before,
        omega (arith, is.some_zeros, is.eight),
        (
          length is.after,
          omega (arith, is.some_zeros, is.eight),
          (omega (arith, is.some_zeros, is.eight), ((is.before, refl, is.is_before), (is.right, refl, (is.after, refl, is.is_after)))),
        ),
      ),
    )))
    (known-parted (λ left tail. (n : ℕ) × (n < 8) × After left tail n)
    (λ left tail. known-below (After left tail) (λ n. known-below (λ m. Shortens n m left tail) (λ m. known-both (known-less (n + m) 8) (known-both (known-row false n left) (known-colons m tail))) 8) 8) text)
  where
    After : List ℕ → List ℕ → ℕ → Type 0
    After left tail n = (m : ℕ) × (m < 8) × Shortens n m left tail

-- a text is an address, or isn't
pub known-address : (text : List ℕ) → IsKnown (IsAddress text)
known-address text = from (known-quad text) (known-written text) (known-shortened text)
  where
    from : IsKnown ((a b c d : ℕ) × IsDottedQuad text a b c d) → IsKnown ((groups : List ℕ) × IsWritten text groups) → IsKnown ((groups : List ℕ) × IsShortened text groups) → IsKnown (IsAddress text)
    from (inl (a, b, c, d, is)) written shortened = inl (V4 (number_in 256 (a ∷ b ∷ c ∷ d ∷ [])), record { a = a; b = b; c = c; d = d; quad = is; number_is = refl })
    from (inr no_quad) (inl (groups, is)) shortened = inl (V6 (number_in (2 ^ 16) groups), record { groups = groups; form = inl is; number_is = refl })
    from (inr no_quad) (inr no_written) (inl (groups, is)) = inl (V6 (number_in (2 ^ 16) groups), record { groups = groups; form = inr is; number_is = refl })
    from (inr no_quad) (inr no_written) (inr no_shortened) = inr (λ (address, is). none address is)
      where
        none : (address : Address) → ¬ Spells text address
        none (V4 number) is = no_quad (is.a, is.b, is.c, is.d, is.quad)
        none (V6 number) is = ⊎_elim (λ written. no_written (is.groups, written)) (λ shortened. no_shortened (is.groups, shortened)) is.form

-- an address isn't empty
no-middle : (front back : List ℕ) (b : ℕ) → [] ≡ front ++ (b ∷ back) → ⊥
no-middle front back b e = let l : 0 ≡ length front + length (b ∷ back) = ap length e ∙ length-append front (b ∷ back) in omega arith

no-quad : (a b c d : ℕ) → ¬ IsDottedQuad [] a b c d
no-quad a b c d is =
    let front = decimal a ++ codes "." ++ decimal b ++ codes "." ++ decimal c in
    no-middle front (decimal d) 46 (is.spelled ∙ append_assoc front (46 ∷ []) (decimal d))

no-row : (groups : List ℕ) → IsRow true [] groups → length groups ≡ 8 → ⊥
no-row [] row eight = omega arith
no-row (g ∷ []) row eight = omega arith
no-row (g ∷ h ∷ groups) (inl (first, rest, split, is, row)) eight = no-middle first rest 58 (split ∙ append_assoc first (58 ∷ []) rest)
no-row (g ∷ h ∷ groups) (inr (on, none, pair)) eight = no-quad pair.a pair.b pair.c pair.d pair.quad

pub address-some : IsAddress [] → ⊥
address-some (V4 number, is) = no-quad is.a is.b is.c is.d is.quad
address-some (V6 number, is) = ⊎_elim (λ written. no-row is.groups written.row written.eight) (λ shortened. no-middle shortened.left (58 ∷ shortened.right) 58 (shortened.spelled ∙ append_assoc shortened.left (58 ∷ 58 ∷ []) shortened.right)) is.form
