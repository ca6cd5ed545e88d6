-- What pieces of a text spell.
use Rattle.std.proofs.Common.{◌≡◌, ◌+◌, ◌-◌, ◌<◌, ◌≤◌, ◌/◌, ℕ, zero, suc, List, [], ◌∷◌, Option, Some, length, get_or, ap, sym, ◌∙◌, refl, inl, inr, arith, subst}
use Rattle.std.specs.Prelude.{position}
use Rattle.std.specs.List.{slice_get}
use Rattle.std.specs.Str.{bytes_eq, str_to_ascii_lowercase}
use Rattle.std.specs.Char.{to_ascii_lowercase}
use Rattle.std.proofs.lemmas.Option.{slice_get_within, slice_get-get_or, get_or_from_slice_get}
use Rattle.std.proofs.lemmas.List.Quantifiers.{position-Some}
use Rattle.std.proofs.lemmas.Slice.Eq.{bytes_eq-Decides}
use Rattle.ga_dates.specs.Spelling.{IsSpacedDigits, IsMonthName, month_names}

-- a text of three bytes is their list
three_bytes : (s : List ℕ) → 3 ≤ length s → length s < 4 → s ≡ get_or s 0 0 ∷ get_or s 1 0 ∷ get_or s 2 0 ∷ []
three_bytes [] low high = absurd (omega arith)
three_bytes (a ∷ []) low high = absurd (omega arith)
three_bytes (a ∷ b ∷ []) low high = absurd (omega arith)
three_bytes (a ∷ b ∷ c ∷ []) low high = refl
three_bytes (a ∷ b ∷ c ∷ d ∷ s) low high = absurd (omega arith)

-- a digit after a space is the number
pub spaced_digit : (piece : List ℕ) (n : ℕ) → get_or piece 0 0 ≡ 32 → IsSpacedDigits n piece → (n < 10) × (get_or piece 1 0 ≡ 48 + n)
spaced_digit piece n space (inl h) = let tens : get_or piece 0 0 ≡ 48 + n / 10 = ap (λ s. get_or s 0 0) h.1 in absurd (omega arith)
spaced_digit piece n space (inr h) = (h.0, ap (λ s. get_or s 1 0) h.1)

-- the place of a name among the months' names
abbrev place_of : List ℕ → Option ℕ
place_of name = position (λ month. bytes_eq month name) month_names

place-month : (k : ℕ) → k < 12 → place_of (get_or month_names k []) ≡ Some k
place-month zero h = refl
place-month (suc zero) h = refl
place-month (suc (suc zero)) h = refl
place-month (suc (suc (suc zero))) h = refl
place-month (suc (suc (suc (suc zero)))) h = refl
place-month (suc (suc (suc (suc (suc zero))))) h = refl
place-month (suc (suc (suc (suc (suc (suc zero)))))) h = refl
place-month (suc (suc (suc (suc (suc (suc (suc zero))))))) h = refl
place-month (suc (suc (suc (suc (suc (suc (suc (suc zero)))))))) h = refl
place-month (suc (suc (suc (suc (suc (suc (suc (suc (suc zero))))))))) h = refl
place-month (suc (suc (suc (suc (suc (suc (suc (suc (suc (suc zero)))))))))) h = refl
place-month (suc (suc (suc (suc (suc (suc (suc (suc (suc (suc (suc zero))))))))))) h = refl
place-month (suc (suc (suc (suc (suc (suc (suc (suc (suc (suc (suc (suc k)))))))))))) h = absurd (omega arith)

-- a month's name is found in its place
place-name : (k : ℕ) (name : List ℕ) → slice_get month_names k ≡ Some name → place_of name ≡ Some k
place-name k name e =
    let within : k < 12 = slice_get_within month_names k name e in
    let is : get_or month_names k [] ≡ name = get_or_from_slice_get month_names k name [] e in
    subst (λ (n : List ℕ). place_of n ≡ Some k) is (place-month k within)

-- the name that is found in a place is that month's
name-place : (k : ℕ) (name : List ℕ) → place_of name ≡ Some k → slice_get month_names k ≡ Some name
name-place k name e =
    let p = position-Some (λ month. bytes_eq month name) month_names k [] e in
    slice_get-get_or month_names k [] p.0 ∙ ap Some ((bytes_eq-Decides (get_or month_names k []) name).0 p.1)

pub Some-injective : {a b : ℕ} → Some a ≡ Some b → a ≡ b
Some-injective e = cc

-- a month whose name is found
pub found_month : (before : ℕ) (piece name : List ℕ) → str_to_ascii_lowercase piece ≡ name → place_of name ≡ Some before → IsMonthName (before + 1) piece
found_month before piece name lower e =
    let back : before + 1 - 1 ≡ before = omega arith in
    (omega arith, rw back (name-place before name e ∙ ap Some (sym lower)))

-- is the one that the name spells
pub only_month : (n : ℕ) (piece name : List ℕ) → str_to_ascii_lowercase piece ≡ name → IsMonthName n piece → place_of name ≡ Some (n - 1)
only_month n piece name lower h = place-name (n - 1) name (h.1 ∙ ap Some lower)

-- the name of a month in lower case
pub lower_name : (s : List ℕ) (a b c : ℕ) → 3 ≤ length s → length s < 4
    → a ≡ to_ascii_lowercase (get_or s 0 0) → b ≡ to_ascii_lowercase (get_or s 1 0) → c ≡ to_ascii_lowercase (get_or s 2 0)
    → str_to_ascii_lowercase s ≡ a ∷ b ∷ c ∷ []
lower_name s a b c low high first second third = let bytes = ap str_to_ascii_lowercase (three_bytes s low high) in cc

-- and the one that is found is the only one
pub only_found : (n before : ℕ) (piece name : List ℕ) → str_to_ascii_lowercase piece ≡ name → IsMonthName n piece → place_of name ≡ Some before → Some (before + 1) ≡ Some n
only_found n before piece name lower h e =
    let place = only_month n piece name lower h in
    let same : before ≡ n - 1 = Some-injective (sym e ∙ place) in
    ap Some (omega (arith, h.0))
