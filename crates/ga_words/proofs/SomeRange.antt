-- A text spells an address or none, and a range or none.
use mathlib.Core.Logic.Dec.{and, of_iff}
use Rattle.std.proofs.Common.{◌≡◌, ℕ, zero, suc, ◌+◌, ◌*◌, ◌-◌, ◌^◌, ◌≤◌, ◌⊎◌, Bool, true, false, IsTrue, List, [], ◌∷◌, ◌++◌, length, replicate, codes, decimal, refl, sym, ap, subst, inl, inr, arith}
use Rattle.std.specs.Char.{digit_value}
use Rattle.std.specs.Str.Parse.{AllDigits, IsNumeral, digits_value}
use Rattle.ga_hosts.specs.declared.address.Address.{Address}
use Rattle.ga_hosts.specs.declared.address.Address.TheVariants.{V4, V6}
use Rattle.ga_hosts.specs.declared.range.Range.{Range}
use Rattle.ga_hosts.specs.Addresses.{IsDottedQuad, IsGroup, IsQuadPair, IsRow, IsWritten, IsShortened, number_in, Spells, IsAddress, IsAtMost}
use Rattle.ga_hosts.specs.Ranges.{SpellsRange}
use Rattle.ga_words.proofs.Decided.{either, all-three, is-true, same-number, same-text, at-most, Below, some-below, CutAt, some-cut_at}

all-digits : (radix : ℕ) (text : List ℕ) → Dec (AllDigits radix text)
all-digits radix [] = yes tt
all-digits radix (c ∷ cs) = and (at-most (suc (digit_value c)) radix) (all-digits radix cs)

pub is-numeral : (radix : ℕ) (text : List ℕ) → Dec (IsNumeral radix text)
is-numeral radix text = and (at-most 1 (length text)) (all-digits radix text)

-- four parts with dots between them
abbrev SomeQuad : List ℕ → Type 0
SomeQuad text = (a b c d : ℕ) × IsDottedQuad text a b c d

abbrev HasParts : List ℕ → Type 0
HasParts text =
    Below 256 (λ a. Below 256 (λ b. Below 256 (λ c. Below 256 (λ d.
    text ≡ decimal a ++ codes "." ++ decimal b ++ codes "." ++ decimal c ++ codes "." ++ decimal d))))

parts-quad : (text : List ℕ) → HasParts text → SomeQuad text
parts-quad text (a, in_a, (b, in_b, (c, in_c, (d, in_d, e)))) = (a, b, c, d, record { spelled = e; fit = (in_a, in_b, in_c, in_d) })

quad-parts : (text : List ℕ) → SomeQuad text → HasParts text
quad-parts text (a, b, c, d, h) = (a, h.fit.0, (b, h.fit.1, (c, h.fit.2, (d, h.fit.3, h.spelled))))

some-quad : (text : List ℕ) → Dec (SomeQuad text)
some-quad text =
    of_iff (parts-quad text, quad-parts text)
    (some-below 256 _ (λ a. some-below 256 _ (λ b. some-below 256 _ (λ c. some-below 256 _ (λ d. same-text text _)))))

abbrev SomePair : List ℕ → Type 0
SomePair text = (high low : ℕ) × IsQuadPair text high low

quad-pair : (text : List ℕ) → SomeQuad text → SomePair text
quad-pair text (a, b, c, d, h) = (a * 256 + b, c * 256 + d, record { a = a; b = b; c = c; d = d; quad = h; high_is = refl; low_is = refl })

some-pair : (text : List ℕ) → Dec (SomePair text)
some-pair text = of_iff (quad-pair text, λ h. (h.2.a, h.2.b, h.2.c, h.2.d, h.2.quad)) (some-quad text)

abbrev SomeGroup : List ℕ → Type 0
SomeGroup text = (group : ℕ) × IsGroup text group

some-group : (text : List ℕ) → Dec (SomeGroup text)
some-group text =
    of_iff
    (λ h. (digits_value 16 text, record { digits = h.0; short = h.1; value = refl }), λ h. (h.1.digits, h.1.short))
    (and (is-numeral 16 text) (at-most (length text) 4))

-- this many groups with colons between them
abbrev SomeRow : ℕ → Bool → List ℕ → Type 0
SomeRow count quad text = (groups : List ℕ) × (length groups ≡ count) × IsRow quad text groups

-- two groups or more: the first and the others, or an IPv4 text for the last two
abbrev RowSplits : ℕ → Bool → List ℕ → Type 0
RowSplits count quad text = CutAt (codes ":") text (λ first rest. SomeGroup first × SomeRow (suc count) quad rest) ⊎ (IsTrue quad × (count ≡ 0) × SomePair text)

no-group : (text groups : List ℕ) (quad : Bool) → length groups ≡ 0 → IsRow quad text groups → text ≡ []
no-group text [] quad none h = h
no-group text (group ∷ groups) quad none h = absurd (omega (arith, none))

one-group : (text groups : List ℕ) (quad : Bool) → length groups ≡ 1 → IsRow quad text groups → SomeGroup text
one-group text [] quad one h = absurd (omega (arith, one))
one-group text (group ∷ []) quad one h = (group, h)
one-group text (group ∷ next ∷ more) quad one h = absurd (omega (arith, one))

row-splits : (count : ℕ) (quad : Bool) (text groups : List ℕ) → length groups ≡ suc (suc count) → IsRow quad text groups → RowSplits count quad text
row-splits count quad text [] two h = absurd (omega (arith, two))
row-splits count quad text (group ∷ []) two h = absurd (omega (arith, two))
row-splits count quad text (group ∷ next ∷ more) two (inl (first, rest, split, is, row)) = inl (first, rest, split, ((group, is), (next ∷ more, omega (arith, two), row)))
row-splits count quad text (group ∷ next ∷ more) two (inr (allowed, none, pair)) =
    inr (allowed, omega (arith, two, ap length none), (group, next, pair))

splits-row : (count : ℕ) (quad : Bool) (text : List ℕ) → RowSplits count quad text → SomeRow (suc (suc count)) quad text
splits-row count quad text (inl (first, rest, split, ((group, is), ([], some, row)))) = absurd (omega (arith, some))
splits-row count quad text (inl (first, rest, split, ((group, is), (next ∷ more, some, row)))) = (group ∷ next ∷ more, ap suc some, inl (first, rest, split, is, row))
splits-row count quad text (inr (allowed, none, (high, low, pair))) = (high ∷ low ∷ [], ap (λ (n : ℕ). suc (suc n)) (sym none), inr (allowed, refl, pair))

some-row : (count : ℕ) (quad : Bool) (text : List ℕ) → Dec (SomeRow count quad text)
some-row zero quad text = of_iff (λ e. ([], refl, e), λ h. no-group text h.0 quad h.1 h.2) (same-text text [])
some-row (suc zero) quad text = of_iff (λ h. (h.0 ∷ [], refl, h.1), λ h. one-group text h.0 quad h.1 h.2) (some-group text)
some-row (suc (suc count)) quad text =
    of_iff (splits-row count quad text, λ h. row-splits count quad text h.0 h.1 h.2)
    (either
    (some-cut_at (codes ":") text _ (λ first rest. and (some-group first) (some-row (suc count) quad rest)))
    (all-three (is-true quad) (same-number count 0) (some-pair text)))

-- a text with `::`, where a group at least is left out
abbrev IsOpen : ℕ → ℕ → List ℕ → List ℕ → Type 0
IsOpen before after left right = (before + after ≤ 7) × SomeRow before false left × SomeRow after true right

abbrev Opens : List ℕ → List ℕ → Type 0
Opens left right = Below 8 (λ before. Below 8 (λ after. IsOpen before after left right))

some-open : (left right : List ℕ) → Dec (Opens left right)
some-open left right =
    some-below 8 _ (λ before. some-below 8 _ (λ after.
    all-three (at-most (before + after) 7) (some-row before false left) (some-row after true right)))

abbrev SomeForm : List ℕ → Type 0
SomeForm text = (groups : List ℕ) × (IsWritten text groups ⊎ IsShortened text groups)

abbrev Forms : List ℕ → Type 0
Forms text = SomeRow 8 true text ⊎ CutAt (codes "::") text Opens

forms-form : (text : List ℕ) → Forms text → SomeForm text
forms-form text (inl (groups, eight, row)) = (groups, inl record { row = row; eight = eight })
forms-form text (inr (left, right, split, (before, in_before, (after, in_after, (room, (front, front_count, front_row), (back, back_count, back_row)))))) =
    let zeros = 8 - before - after in (
      front ++ replicate zeros 0 ++ back,
      inr record {
        left = left;
        right = right;
        before = front;
        zeros = zeros;
        after = back;
        spelled = split;
        is_before = front_row;
        is_after = back_row;
        some_zeros = omega arith;
        eight = omega (arith, front_count, back_count);
        groups_are = refl;
      },
    )

form-forms : (text : List ℕ) → SomeForm text → Forms text
form-forms text (groups, inl h) = inl (groups, h.eight, h.row)
form-forms text (groups, inr h) =
    let room = h.eight in
    let some = h.some_zeros in
    inr (
      h.left,
      h.right,
      h.spelled,
      (
        length h.before,
        omega arith,
        (
          length h.after,
          omega arith,
          (omega arith, (h.before, refl, h.is_before), (h.after, refl, h.is_after)),
        ),
      ),
    )

some-form : (text : List ℕ) → Dec (SomeForm text)
some-form text = of_iff (forms-form text, form-forms text) (either (some-row 8 true text) (some-cut_at (codes "::") text Opens some-open))

forms-address : (text : List ℕ) → SomeQuad text ⊎ SomeForm text → IsAddress text
forms-address text (inl (a, b, c, d, h)) = (V4 (number_in 256 (a ∷ b ∷ c ∷ d ∷ [])), record { a = a; b = b; c = c; d = d; quad = h; number_is = refl })
forms-address text (inr (groups, h)) = (V6 (number_in (2 ^ 16) groups), record { groups = groups; form = h; number_is = refl })

address-forms : (text : List ℕ) → IsAddress text → SomeQuad text ⊎ SomeForm text
address-forms text (V4 number, h) = inl (h.a, h.b, h.c, h.d, h.quad)
address-forms text (V6 number, h) = inr (h.groups, h.form)

some-address : (text : List ℕ) → Dec (IsAddress text)
some-address text = of_iff (forms-address text, address-forms text) (either (some-quad text) (some-form text))

is-at_most : (low high : Address) → Dec (IsAtMost low high)
is-at_most (V4 a) (V4 b) = at-most a b
is-at_most (V6 a) (V6 b) = at-most a b
is-at_most (V4 a) (V6 b) = no (λ h. h)
is-at_most (V6 a) (V4 b) = no (λ h. h)

-- two addresses, the first not above the second
abbrev Ordered : List ℕ → List ℕ → Type 0
Ordered first second = (low high : Address) × Spells first low × Spells second high × IsAtMost low high

-- a text spells one address at most
abbrev pub OneAddress : Type 0
OneAddress = (text : List ℕ) (address other : Address) → Spells text address → Spells text other → address ≡ other

module _ (one_address : OneAddress) where
  ordered-by : (first second : List ℕ) (low high : Address) → Spells first low → Spells second high → Ordered first second → IsAtMost low high
  ordered-by first second low high is_low is_high (l, h, spells_l, spells_h, ordered) =
      subst (λ (a : Address). IsAtMost a high) (one_address first l low spells_l is_low)
      (subst (IsAtMost l) (one_address second h high spells_h is_high) ordered)

  some-ordered : (first second : List ℕ) → Dec (Ordered first second)
  some-ordered first second = given (some-address first) (some-address second)
    where
      given : Dec (IsAddress first) → Dec (IsAddress second) → Dec (Ordered first second)
      given (no none) high = no (λ h. none (h.0, h.2))
      given (yes low) (no none) = no (λ h. none (h.1, h.3))
      given (yes (low, is_low)) (yes (high, is_high)) =
          of_iff (λ ordered. (low, high, is_low, is_high, ordered), ordered-by first second low high is_low is_high) (is-at_most low high)

  abbrev SomeRange : List ℕ → Type 0
  SomeRange text = (range : Range) × SpellsRange text range

  addresses-range : (text : List ℕ) → IsAddress text ⊎ CutAt (codes "-") text Ordered → SomeRange text
  addresses-range text (inl (address, is)) = (record { low = address; high = address }, inl record { low = is; high = refl })
  addresses-range text (inr (first, second, split, (low, high, is_low, is_high, ordered))) =
      (record { low = low; high = high }, inr record { first = first; second = second; spelled = split; low = is_low; high = is_high; ordered = ordered })

  range-addresses : (text : List ℕ) → SomeRange text → IsAddress text ⊎ CutAt (codes "-") text Ordered
  range-addresses text (range, inl h) = inl (range.low, h.low)
  range-addresses text (range, inr h) = inr (h.first, h.second, h.spelled, (range.low, range.high, h.low, h.high, h.ordered))

  pub some-range : (text : List ℕ) → Dec ((range : Range) × SpellsRange text range)
  some-range text = of_iff (addresses-range text, range-addresses text) (either (some-address text) (some-cut_at (codes "-") text Ordered some-ordered))
