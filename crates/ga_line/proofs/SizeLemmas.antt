-- The value of digits, one after the other.
use Rattle.std.proofs.Common.{◌≡◌, ℕ, zero, suc, ◌+◌, ◌-◌, ◌*◌, ◌<◌, ◌≤◌, Bool, true, false, min, List, [], ◌∷◌, ◌++◌, length, take, get_or, refl, sym, ap, ◌∙◌, arith, append-nil, append_assoc}
use Rattle.std.proofs.lemmas.Bool.{false≢true}
use Rattle.std.proofs.lemmas.Bool.Decides.{nat_tests}
use Rattle.std.proofs.lemmas.List.{take_more}
use Rattle.std.specs.Prelude.{◌&&◌}
use Rattle.std.specs.Char.{is_ascii_digit, digit_value}
use Rattle.std.specs.Str.{all_ascii_digits}
use Rattle.std.specs.Str.Parse.{digits_value, digits_value_after}

pub first-of : (s t : Bool) → (s && t) ≡ true → s ≡ true
first-of true t e = refl
first-of false t e = e

pub rest-of : (s t : Bool) → (s && t) ≡ true → t ≡ true
rest-of true t e = e
rest-of false t e = absurd (false≢true e)

-- each of digits is one
pub digit-at : (digits : List ℕ) (i : ℕ) → i < length digits → all_ascii_digits digits ≡ true → is_ascii_digit (get_or digits i 0) ≡ true
digit-at [] i lt all = absurd (omega arith)
digit-at (d ∷ digits) zero lt all = first-of (is_ascii_digit d) (all_ascii_digits digits) all
digit-at (d ∷ digits) (suc i) lt all = digit-at digits i (omega arith) (rest-of (is_ascii_digit d) (all_ascii_digits digits) all)

pub digit-range : (b : ℕ) → is_ascii_digit b ≡ true → (48 ≤ b) × (b ≤ 57)
digit-range b digit = (grind (arith, nat_tests), grind (arith, nat_tests))

pub digit-is : (b : ℕ) → is_ascii_digit b ≡ true → digit_value b ≡ b - 48
digit-is b digit = grind (arith, nat_tests)

after-push : (n : ℕ) (xs : List ℕ) (d : ℕ) → digits_value_after 10 n (xs ++ d ∷ []) ≡ digits_value_after 10 n xs * 10 + digit_value d
after-push n [] d = refl
after-push n (x ∷ xs) d = after-push (n * 10 + digit_value x) xs d

value-push : (xs : List ℕ) (d : ℕ) → digits_value 10 (xs ++ d ∷ []) ≡ digits_value 10 xs * 10 + digit_value d
value-push xs d = after-push 0 xs d

-- the value stops one above the limit
pub value-more : (front digits : List ℕ) (i number limit : ℕ) → i < length digits → number ≡ min (digits_value 10 (front ++ take i digits)) limit → is_ascii_digit (get_or digits i 0) ≡ true
    → min (10 * number + (get_or digits i 0 - 48)) limit ≡ min (digits_value 10 (front ++ take (i + 1) digits)) limit
value-more front digits i number limit lt is digit =
    let more : digits_value 10 (front ++ take (i + 1) digits) ≡ digits_value 10 (front ++ take i digits) * 10 + (get_or digits i 0 - 48) =
    ap (λ (xs : List ℕ). digits_value 10 (front ++ xs)) (take_more digits i 0 lt) ∙ ap (digits_value 10) (sym (append_assoc front (take i digits) (get_or digits i 0 ∷ [])))
    ∙ value-push (front ++ take i digits) (get_or digits i 0) ∙ ap (λ (d : ℕ). digits_value 10 (front ++ take i digits) * 10 + d) (digit-is (get_or digits i 0) digit) in
    omega arith

pub no-digits : (front : List ℕ) (number limit : ℕ) → number ≡ min (digits_value 10 front) limit → number ≡ min (digits_value 10 (front ++ [])) limit
no-digits front number limit is = is ∙ ap (λ (xs : List ℕ). min (digits_value 10 xs) limit) (sym (append-nil front))

and-false : (s t : Bool) → t ≡ false → (s && t) ≡ false
and-false true t e = e
and-false false t e = refl

-- a text with a byte that is no digit
pub not-all : (text : List ℕ) (i : ℕ) → i < length text → is_ascii_digit (get_or text i 0) ≡ false → all_ascii_digits text ≡ false
not-all [] i lt other = absurd (omega arith)
not-all (b ∷ text) zero lt other = ap (λ t. t && all_ascii_digits text) other
not-all (b ∷ text) (suc i) lt other = and-false (is_ascii_digit b) (all_ascii_digits text) (not-all text i (omega arith) other)

all-push : (xs : List ℕ) (x : ℕ) → all_ascii_digits xs ≡ true → is_ascii_digit x ≡ true → all_ascii_digits (xs ++ x ∷ []) ≡ true
all-push [] x all digit = ap (λ t. t && true) digit
all-push (b ∷ xs) x all digit = rw (first-of (is_ascii_digit b) (all_ascii_digits xs) all) (all-push xs x (rest-of (is_ascii_digit b) (all_ascii_digits xs) all) digit)

pub digits-more : (text : List ℕ) (i : ℕ) → i < length text → all_ascii_digits (take i text) ≡ true → is_ascii_digit (get_or text i 0) ≡ true
    → all_ascii_digits (take (i + 1) text) ≡ true
digits-more text i lt all digit = ap all_ascii_digits (take_more text i 0 lt) ∙ all-push (take i text) (get_or text i 0) all digit
