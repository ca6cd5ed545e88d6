-- Each number of 32 bits has an IPv4 text and each number of 128 bits an IPv6 text, and no other number has one.
use Rattle.std.proofs.Common.{◌≡◌, ◌↔◌, ℕ, zero, suc, ◌/◌, ◌%◌, ◌^◌, ◌<◌, ◌≤◌, Bool, true, false, List, [], ◌∷◌, ◌++◌, length, get_or, replicate, refl, sym, ap, ◌∙◌, subst, inl, inr, ◌⊎◌, arith, lit≤}
use Rattle.std.proofs.lemmas.Nat.{mul-add-lt}
use Rattle.std.proofs.lemmas.Int.Digits.{digits_value-lt}
use Rattle.std.proofs.Math.Nat.{pow-le-pow_right, pow-zero, pow-suc, pow-succ', div-lt_iff_lt-mul}
use Rattle.std.specs.Net.Text.{ipv4_text, ipv6_text}
use Rattle.std.proofs.NetLemmas.Texts.{IsDotted-ipv4_text, IsColonHex-ipv6_text}
use Rattle.ga_hosts.specs.declared.address.Address.{Address}
use Rattle.ga_hosts.specs.declared.address.Address.TheVariants.{V4, V6}
use Rattle.ga_hosts.specs.Addresses.{number_in, SpellsV4, SpellsV6, IsGroup, IsRow, IsWritten, IsShortened, HasText, FitsFamily}
use Rattle.ga_hosts.proofs.GrammarLemmas.{dotted-quad, colon_hex-form}
use Rattle.ga_hosts.proofs.AddressLemmas.{form-eight}

pow-above : (base k : ℕ) → 0 < base → 0 < base ^ k
pow-above base k some =
    let from_none : 0 ≤ k = omega arith in
    let most : base ^ 0 ≤ base ^ k = pow-le-pow_right some from_none in
    omega (arith, pow-zero base)

-- each digit is below the base
abbrev Below : ℕ → List ℕ → Type 0
Below base [] = Unit {0}
Below base (digit ∷ digits) = (digit < base) × Below base digits

below-get_or : (base : ℕ) (digits : List ℕ) → 0 < base → Below base digits → (k : ℕ) → get_or digits k 0 < base
below-get_or base [] some h k = some
below-get_or base (digit ∷ digits) some h zero = h.0
below-get_or base (digit ∷ digits) some h (suc k) = below-get_or base digits some h.1 k

below-append : (base : ℕ) (xs ys : List ℕ) → Below base xs → Below base ys → Below base (xs ++ ys)
below-append base [] ys h k = k
below-append base (x ∷ xs) ys h k = (h.0, below-append base xs ys h.1 k)

below-zeros : (base n : ℕ) → 0 < base → Below base (replicate n 0)
below-zeros base zero some = tt
below-zeros base (suc n) some = (some, below-zeros base n some)

number_in-below : (base : ℕ) (digits : List ℕ) → Below base digits → number_in base digits < base ^ length digits
number_in-below base [] h = omega (arith, pow-zero base)
number_in-below base (digit ∷ digits) h =
    let rest = number_in-below base digits h.1 in
    rw (pow-suc base (length digits)) (mul-add-lt digit (base ^ length digits) (number_in base digits) base h.0 rest)

-- the digits of a number, as many as are wanted
abbrev digits_of : ℕ → ℕ → ℕ → List ℕ
digits_of base zero n = []
digits_of base (suc k) n = (n / base ^ k) ∷ digits_of base k (n % base ^ k)

length-digits_of : (base k n : ℕ) → length (digits_of base k n) ≡ k
length-digits_of base zero n = refl
length-digits_of base (suc k) n = ap suc (length-digits_of base k (n % base ^ k))

number_in-digits_of : (base k n : ℕ) → 0 < base → n < base ^ k → number_in base (digits_of base k n) ≡ n
number_in-digits_of base zero n some h = omega (arith, pow-zero base)
number_in-digits_of base (suc k) n some h =
    let w = base ^ k in
    let some_w : 0 < w = pow-above base k some in
    let left : n % w < w = omega arith in
    let rest = number_in-digits_of base k (n % w) some left in
    rw (length-digits_of base k (n % w), rest) (omega arith)

below-digits_of : (base k n : ℕ) → 0 < base → n < base ^ k → Below base (digits_of base k n)
below-digits_of base zero n some h = tt
below-digits_of base (suc k) n some h =
    let w = base ^ k in
    let some_w : 0 < w = pow-above base k some in
    let left : n % w < w = omega arith in
    ((div-lt_iff_lt-mul some_w).1 (rw (pow-succ' base k) at h), below-digits_of base k (n % w) some left)

below-group : (text : List ℕ) (group : ℕ) → IsGroup text group → group < 2 ^ 16
below-group text group h =
    let below = digits_value-lt 16 text h.digits.1 in
    let most : 16 ^ length text ≤ 16 ^ 4 = pow-le-pow_right (lit≤ tt) h.short in
    omega (arith, h.value)

below-row : (quad : Bool) (text groups : List ℕ) → IsRow quad text groups → Below (2 ^ 16) groups
below-row quad text [] h = tt
below-row quad text (group ∷ []) h = (below-group text group h, tt)
below-row quad text (group ∷ next ∷ more) (inl h) = (below-group h.0 group h.3, below-row quad h.1 (next ∷ more) h.4)
below-row quad text (group ∷ next ∷ more) (inr h) =
    let (allowed, none, pair) = h in
    let fit = pair.quad.fit in
    subst (λ xs. Below (2 ^ 16) (group ∷ next ∷ xs)) (sym none) (omega (arith, pair.high_is), (omega (arith, pair.low_is), tt))

below-form : (text groups : List ℕ) → IsWritten text groups ⊎ IsShortened text groups → Below (2 ^ 16) groups
below-form text groups (inl h) = below-row true text groups h.row
below-form text groups (inr h) =
    let front = below-append (2 ^ 16) h.before (replicate h.zeros 0) (below-row false h.left h.before h.is_before) (below-zeros (2 ^ 16) h.zeros (omega arith)) in
    subst (Below (2 ^ 16)) (sym h.groups_are) (below-append (2 ^ 16) _ h.after front (below-row true h.right h.after h.is_after))

v4-fits : (text : List ℕ) (number : ℕ) → SpellsV4 text number → number < 2 ^ 32
v4-fits text number h =
    let fit = h.quad.fit in
    omega (arith, h.number_is)

v6-fits : (text : List ℕ) (number : ℕ) → SpellsV6 text number → number < 2 ^ 128
v6-fits text number h =
    let below = number_in-below (2 ^ 16) h.groups (below-form text h.groups h.form) in
    let bound : number_in (2 ^ 16) h.groups < (2 ^ 16) ^ 8 = subst (λ k. number_in (2 ^ 16) h.groups < (2 ^ 16) ^ k) (form-eight text h.groups h.form) below in
    omega (arith, h.number_is)

v4-text : (number : ℕ) → number < 2 ^ 32 → (text : List ℕ) × SpellsV4 text number
v4-text number fits =
    let octets = digits_of 256 4 number in
    let below = below-get_or 256 octets (omega arith) (below-digits_of 256 4 number (omega arith) (omega arith)) in
    let dotted = IsDotted-ipv4_text octets (length-digits_of 256 4 number) below in
    let value = number_in-digits_of 256 4 number (omega arith) (omega arith) in (
      ipv4_text octets,
      record {
        a = dotted.a;
        b = dotted.b;
        c = dotted.c;
        d = dotted.d;
        quad = dotted-quad (ipv4_text octets) octets dotted;
        number_is = sym value ∙ ap (number_in 256) dotted.value;
      },
    )

v6-text : (number : ℕ) → number < 2 ^ 128 → (text : List ℕ) × SpellsV6 text number
v6-text number fits =
    let groups = digits_of (2 ^ 16) 8 number in
    let below = below-get_or (2 ^ 16) groups (omega arith) (below-digits_of (2 ^ 16) 8 number (omega arith) (omega arith)) in
    let written = IsColonHex-ipv6_text groups (length-digits_of (2 ^ 16) 8 number) below in (
      ipv6_text groups,
      record {
        groups = groups;
        form = colon_hex-form (ipv6_text groups) groups written;
        number_is = sym (number_in-digits_of (2 ^ 16) 8 number (omega arith) (omega arith));
      },
    )

pub every_address_has_a_text : (address : Address) → FitsFamily address ↔ HasText address
every_address_has_a_text (V4 number) = (v4-text number, λ h. v4-fits h.0 number h.1)
every_address_has_a_text (V6 number) = (v6-text number, λ h. v6-fits h.0 number h.1)
