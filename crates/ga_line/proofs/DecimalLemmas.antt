-- Numbers in digits, with decimals.
use Rattle.std.proofs.Common.{◌≡◌, ℕ, zero, suc, ◌+◌, ◌-◌, ◌<◌, ◌≤◌, true, ◌*◌, ◌/◌, ◌^◌, min, List, [], ◌∷◌, ◌++◌, length, take, drop, replicate, Option, Some, None, refl, sym, ap, ◌∙◌, subst, arith, append-nil, append_assoc, length-drop, ⊎_elim}
use Rattle.std.proofs.lemmas.Bool.{false≢true, cases_lt}
use Rattle.std.proofs.lemmas.List.{take-replicate, take_all, take-append-drop, length-replicate}
use Rattle.std.proofs.lemmas.Nat.{div-mul-add, pow-add}
use Rattle.std.proofs.Math.Nat.{mul-div_cancel, mul_assoc, mul-le-mul_right, mul-lt-mul_of_pos_right, one-le-pow, add-mul, pow-succ'}
use Rattle.std.specs.Option.{IfNone}
use Rattle.std.specs.Char.{is_ascii_digit, digit_value}
use Rattle.std.specs.Str.{all_ascii_digits}
use Rattle.std.specs.Str.Parse.{digits_value, digits_value_after}
use Rattle.ga_line.specs.Fits.{Part, IsFree, nothing, byte, EndsAt, NeverEnds}
use Rattle.ga_line.specs.Letters.{millis_letter, seconds_letter}
use Rattle.ga_line.specs.Records.{AreDigits, IsDecimal, whole, parted, decimal_value, IsMicros, in_micros, in_millis, in_seconds}
use Rattle.ga_line.proofs.FreeLemmas.{EndsAt-unique}
use Rattle.ga_line.proofs.SizeLemmas.{first-of, rest-of, digit-range, digit-is}

-- digits are digits in front
pub all-front : (xs : List ℕ) (n : ℕ) → all_ascii_digits xs ≡ true → all_ascii_digits (take n xs) ≡ true
all-front xs zero all = refl
all-front [] (suc n) all = refl
all-front (x ∷ xs) (suc n) all = rw (first-of (is_ascii_digit x) (all_ascii_digits xs) all) (all-front xs n (rest-of (is_ascii_digit x) (all_ascii_digits xs) all))

power-above : (n : ℕ) → 0 < 10 ^ n
power-above n = one-le-pow n 10 (omega arith)

digits-back : (xs : List ℕ) (n : ℕ) → all_ascii_digits xs ≡ true → all_ascii_digits (drop n xs) ≡ true
digits-back xs zero all = all
digits-back [] (suc n) all = refl
digits-back (x ∷ xs) (suc n) all = digits-back xs n (rest-of (is_ascii_digit x) (all_ascii_digits xs) all)

one-more : (n : ℕ) → 10 * 10 ^ n ≡ 10 ^ suc n
one-more n = sym (pow-succ' 10 n)

value-first : (d : ℕ) (ds : List ℕ) → digits_value 10 (d ∷ ds) ≡ digits_value_after 10 (digit_value d) ds
value-first d ds = let none : 0 * 10 + digit_value d ≡ digit_value d = omega arith in ap (λ (v : ℕ). digits_value_after 10 v ds) none

-- a number with digits after it, and one with zeros
value-after : (n : ℕ) (ds : List ℕ) → digits_value_after 10 n ds ≡ n * 10 ^ length ds + digits_value 10 ds
value-after n [] = omega arith
value-after n (d ∷ ds) =
    value-after (n * 10 + digit_value d) ds
    ∙ shifted (10 ^ length ds) (digits_value 10 ds) ∙ ap (λ (w : ℕ). n * w + (digit_value d * 10 ^ length ds + digits_value 10 ds)) (one-more (length ds))
    ∙ ap (λ (v : ℕ). n * 10 ^ suc (length ds) + v) (sym (value-first d ds ∙ value-after (digit_value d) ds))
  where
    shifted : (w v : ℕ) → (n * 10 + digit_value d) * w + v ≡ n * (10 * w) + (digit_value d * w + v)
    shifted w v = omega (arith, add-mul (n * 10) (digit_value d) w, mul_assoc n 10 w)

value-append : (xs ys : List ℕ) → digits_value 10 (xs ++ ys) ≡ digits_value 10 xs * 10 ^ length ys + digits_value 10 ys
value-append xs ys = joined 0 xs ∙ value-after (digits_value 10 xs) ys
  where
    joined : (n : ℕ) (xs : List ℕ) → digits_value_after 10 n (xs ++ ys) ≡ digits_value_after 10 (digits_value_after 10 n xs) ys
    joined n [] = refl
    joined n (x ∷ xs) = joined (n * 10 + digit_value x) xs

digit-below : (d : ℕ) → is_ascii_digit d ≡ true → digit_value d ≤ 9
digit-below d digit = omega (arith, digit-is d digit, (digit-range d digit).1)

-- digits are below the next power of ten
value-below : (ds : List ℕ) → all_ascii_digits ds ≡ true → digits_value 10 ds < 10 ^ length ds
value-below [] all = omega arith
value-below (d ∷ ds) all =
    let digit = digit-below d (first-of (is_ascii_digit d) (all_ascii_digits ds) all) in
    let rest = value-below ds (rest-of (is_ascii_digit d) (all_ascii_digits ds) all) in
    subst (λ (v : ℕ). v < 10 ^ length (d ∷ ds)) (sym (value-first d ds ∙ value-after (digit_value d) ds)) (subst (λ (m : ℕ). digit_value d * 10 ^ length ds + digits_value 10 ds < m) (one-more (length ds)) (within (digit_value d) (10 ^ length ds) (digits_value 10 ds) digit rest))
  where
    within : (k w v : ℕ) → k ≤ 9 → v < w → k * w + v < 10 * w
    within k w v small below = let most : k * w ≤ 9 * w = mul-le-mul_right w small in omega arith

zeros-value : (n : ℕ) → digits_value 10 (replicate n 48) ≡ 0
zeros-value zero = refl
zeros-value (suc n) = zeros-value n

plus-nothing : (n : ℕ) → n + 0 ≡ n
plus-nothing n = omega arith

-- where all decimals count, zeros fill the places that are left
all-decimals : (places : ℕ) (front back : List ℕ) → length back ≤ places → digits_value 10 ((front ++ back) ++ replicate (places - length back) 48) ≡ decimal_value places front back
all-decimals places front back few =
    let more = places - length back in
    let all : places ≡ more + length back = omega arith in
    let long : length (replicate {A = ℕ} more 48) ≡ more = length-replicate more 48 in
    value-append (front ++ back) (replicate more 48) ∙ ap (λ (v : ℕ). digits_value 10 (front ++ back) * 10 ^ length (replicate {A = ℕ} more 48) + v) (zeros-value more)
    ∙ plus-nothing _ ∙ ap (λ (l : ℕ). digits_value 10 (front ++ back) * 10 ^ l) long
    ∙ sym (mul-div_cancel (digits_value 10 (front ++ back) * 10 ^ more) (power-above (length back)))
    ∙ ap (λ (w : ℕ). w / 10 ^ length back) (mul_assoc (digits_value 10 (front ++ back)) (10 ^ more) (10 ^ length back) ∙ ap (λ (w : ℕ). digits_value 10 (front ++ back) * w) (sym (pow-add 10 more (length back)) ∙ ap (λ (p : ℕ). 10 ^ p) (sym all)))

-- where there are more, the others are cut
some-decimals : (places : ℕ) (front back : List ℕ) → places ≤ length back → all_ascii_digits back ≡ true → digits_value 10 (front ++ take places back) ≡ decimal_value places front back
some-decimals places front back many all =
    let cut = drop places back in
    let high = digits_value 10 (front ++ take places back) in
    let low = digits_value 10 cut in
    let long : length back ≡ length cut + places = omega (arith, length-drop places back) in
    let parted : digits_value 10 (front ++ back) ≡ high * 10 ^ length cut + low =
    ap (λ (xs : List ℕ). digits_value 10 (front ++ xs)) (sym (take-append-drop places back)) ∙ ap (digits_value 10) (sym (append_assoc front (take places back) cut)) ∙ value-append (front ++ take places back) cut in
    let whole : 10 ^ length back ≡ 10 ^ length cut * 10 ^ places = ap (λ (l : ℕ). 10 ^ l) long ∙ pow-add 10 (length cut) places in
    let below : low * 10 ^ places < 10 ^ length cut * 10 ^ places = mul-lt-mul_of_pos_right (value-below cut (digits-back back places all)) (power-above places) in
    sym (ap (λ (v : ℕ). v * 10 ^ places / 10 ^ length back) parted ∙ ap (λ (w : ℕ). (high * 10 ^ length cut + low) * 10 ^ places / w) whole
    ∙ ap (λ (v : ℕ). v / (10 ^ length cut * 10 ^ places)) (spread high (10 ^ length cut) low (10 ^ places)) ∙ div-mul-add high (10 ^ length cut * 10 ^ places) (low * 10 ^ places) below)
  where
    spread : (h w l p : ℕ) → (h * w + l) * p ≡ h * (w * p) + l * p
    spread h w l p = add-mul (h * w) l p ∙ ap (λ (v : ℕ). v + l * p) (mul_assoc h w p)

-- the decimals that count, and zeros where there are fewer
pub decimals-are : (places : ℕ) (front back : List ℕ) (there : ℕ) → there ≡ min (length back) places → places ≤ 6 → all_ascii_digits back ≡ true
    → digits_value 10 ((front ++ take there back) ++ take (places - there) (48 ∷ 48 ∷ 48 ∷ 48 ∷ 48 ∷ 48 ∷ [])) ≡ decimal_value places front back
decimals-are places front back there is few all =
    ⊎_elim
    (λ short.
    let here : there ≡ length back = omega (arith, is, short) in
    ap (λ (xs : List ℕ). digits_value 10 ((front ++ xs) ++ take (places - there) (48 ∷ 48 ∷ 48 ∷ 48 ∷ 48 ∷ 48 ∷ []))) (take_all there back (omega (arith, here)))
    ∙ ap (λ (xs : List ℕ). digits_value 10 ((front ++ back) ++ xs)) (take-replicate (places - there) 6 48 (omega arith) ∙ ap (λ (n : ℕ). replicate (places - n) 48) here)
    ∙ all-decimals places front back (omega (arith, short)))
    (λ long.
    let here : there ≡ places = omega (arith, is, long) in
    let none : places - there ≡ 0 = omega (arith, here) in
    ap (λ (n : ℕ). digits_value 10 ((front ++ take there back) ++ take n (48 ∷ 48 ∷ 48 ∷ 48 ∷ 48 ∷ 48 ∷ []))) none
    ∙ ap (digits_value 10) (append-nil (front ++ take there back)) ∙ ap (λ (n : ℕ). digits_value 10 (front ++ take n back)) here
    ∙ some-decimals places front back long all)
    (cases_lt (length back) places)

-- digits hold no dot
digits-free : (xs : List ℕ) → all_ascii_digits xs ≡ true → IsFree 46 xs
digits-free [] all = nothing
digits-free (x ∷ xs) all =
    let digit = first-of (is_ascii_digit x) (all_ascii_digits xs) all in
    byte (λ same. false≢true (ap is_ascii_digit (sym same) ∙ digit)) (λ quote. absurd (omega (arith, quote))) (digits-free xs (rest-of (is_ascii_digit x) (all_ascii_digits xs) all))

no-dot : (front back : List ℕ) → all_ascii_digits (front ++ (46 ∷ back)) ≡ true → ⊥
no-dot [] back all = false≢true (first-of (is_ascii_digit 46) (all_ascii_digits back) all)
no-dot (x ∷ front) back all = no-dot front back (rest-of (is_ascii_digit x) (all_ascii_digits (front ++ (46 ∷ back))) all)

ends-at-dot : (text front back : List ℕ) → text ≡ front ++ 46 ∷ back → all_ascii_digits front ≡ true → EndsAt 46 text front back
ends-at-dot text front back split digits = record { split = split; first = digits-free front digits }

-- a text without a dot
pub none-whole : (places : ℕ) (text : List ℕ) → NeverEnds 46 text → ¬ AreDigits text → (number : ℕ) → ¬ IsDecimal places text number
none-whole places text never not number (whole are e) = not are
none-whole places text never not number (parted front back split df db e) = never front back (ends-at-dot text front back split df.digits)

-- a text with one
pub none-parted : (places : ℕ) (text front back : List ℕ) → EndsAt 46 text front back → (AreDigits front → ¬ AreDigits back) → (number : ℕ) → ¬ IsDecimal places text number
none-parted places text front back ends not number (whole are e) = no-dot front back (ap all_ascii_digits (sym ends.split) ∙ are.digits)
none-parted places text front back ends not number (parted front' back' split df db e) =
    let same = EndsAt-unique 46 text front' back' front back (ends-at-dot text front' back' split df.digits) ends in
    not (subst AreDigits same.0 df) (subst AreDigits same.1 db)

pub found-parted : (places : ℕ) (text front back : List ℕ) (limit : ℕ) → EndsAt 46 text front back → (n : ℕ) → AreDigits front × AreDigits back × (n ≡ min (decimal_value places front back) limit)
    → (number : ℕ) × IsDecimal places text number × (n ≡ min number limit)
found-parted places text front back limit ends n (df, db, is) = (decimal_value places front back, parted front back ends.split df db refl, is)

pub found-whole : (places : ℕ) (text : List ℕ) (limit n : ℕ) → AreDigits text × (n ≡ min (decimal_value places text []) limit) → (number : ℕ) × IsDecimal places text number × (n ≡ min number limit)
found-whole places text limit n (are, is) = (decimal_value places text [], whole are refl, is)

decimal-unique : (places : ℕ) (text : List ℕ) (a b : ℕ) → IsDecimal places text a → IsDecimal places text b → a ≡ b
decimal-unique places text a b (whole are e) (whole are' e') = e ∙ sym e'
decimal-unique places text a b (whole are e) (parted front back split df db e') = absurd (no-dot front back (ap all_ascii_digits (sym split) ∙ are.digits))
decimal-unique places text a b (parted front back split df db e') (whole are e) = absurd (no-dot front back (ap all_ascii_digits (sym split) ∙ are.digits))
decimal-unique places text a b (parted front back split df db e) (parted front' back' split' df' db' e') =
    let same = EndsAt-unique 46 text front back front' back' (ends-at-dot text front back split df.digits) (ends-at-dot text front' back' split' df'.digits) in
    e ∙ ap (λ (xs : List ℕ). decimal_value places xs back) same.0 ∙ ap (λ (xs : List ℕ). decimal_value places front' xs) same.1 ∙ sym e'

pub micros-unique : (part : Part) (a b : ℕ) → IsMicros part a → IsMicros part b → a ≡ b
micros-unique part a b (in_micros e are one) (in_micros e' are' two) = one ∙ sym two
micros-unique part a b (in_micros e are one) (in_millis e' two) = absurd (omega (arith, e, e'))
micros-unique part a b (in_micros e are one) (in_seconds e' two) = absurd (omega (arith, e, e'))
micros-unique part a b (in_millis e one) (in_micros e' are' two) = absurd (omega (arith, e, e'))
micros-unique part a b (in_millis e one) (in_millis e' two) = decimal-unique 3 part.1 a b one two
micros-unique part a b (in_millis e one) (in_seconds e' two) = absurd (omega (arith, e, e'))
micros-unique part a b (in_seconds e one) (in_micros e' are' two) = absurd (omega (arith, e, e'))
micros-unique part a b (in_seconds e one) (in_millis e' two) = absurd (omega (arith, e, e'))
micros-unique part a b (in_seconds e one) (in_seconds e' two) = decimal-unique 6 part.1 a b one two

-- the microseconds of a decimal, by its field's letter
pub found-millis : (letter : ℕ) (text : List ℕ) (limit : ℕ) → letter ≡ millis_letter → (n : ℕ) → (number : ℕ) × IsDecimal 3 text number × (n ≡ min number limit)
    → (number : ℕ) × IsMicros (letter, text) number × (n ≡ min number limit)
found-millis letter text limit e n (number, is, m) = (number, in_millis e is, m)

pub found-seconds : (letter : ℕ) (text : List ℕ) (limit : ℕ) → letter ≡ seconds_letter → (n : ℕ) → (number : ℕ) × IsDecimal 6 text number × (n ≡ min number limit)
    → (number : ℕ) × IsMicros (letter, text) number × (n ≡ min number limit)
found-seconds letter text limit e n (number, is, m) = (number, in_seconds e is, m)

pub none-millis : (letter : ℕ) (text : List ℕ) → letter ≡ millis_letter → ((number : ℕ) → ¬ IsDecimal 3 text number) → (number : ℕ) → ¬ IsMicros (letter, text) number
none-millis letter text e none number (in_micros e' are is) = omega (arith, e, e')
none-millis letter text e none number (in_millis e' is) = none number is
none-millis letter text e none number (in_seconds e' is) = omega (arith, e, e')

pub none-seconds : (letter : ℕ) (text : List ℕ) → letter ≡ seconds_letter → ((number : ℕ) → ¬ IsDecimal 6 text number) → (number : ℕ) → ¬ IsMicros (letter, text) number
none-seconds letter text e none number (in_micros e' are is) = omega (arith, e, e')
none-seconds letter text e none number (in_millis e' is) = omega (arith, e, e')
none-seconds letter text e none number (in_seconds e' is) = none number is

pub none-then : {X : Type 0} {P Q : Type 0} (r : Option X) → (P → Q) → IfNone r P → IfNone r Q
none-then None then p = then p
none-then (Some x) then p = tt
