-- The characters of UTF-8 by their bytes (Unicode Standard, table 3-7).
use Rattle.std.proofs.Common.{◌≡◌, ℕ, zero, suc, ◌+◌, ◌-◌, ◌*◌, ◌/◌, ◌≤◌, ◌<◌, ◌⊎◌, true, List, [], ◌∷◌, refl, ◌∙◌, subst, inl, inr, arith, lt-ltb, le-ltb, le-leb, eq-eqb, ne_eqb}
use Rattle.std.proofs.lemmas.Bool.{cases_lt, cases_eq, and_parts, and_from, leb-true}
use Rattle.std.specs.Int.{is_in_range}
use lib.Utf8.{scalar, encode, next, low_scalar, scalar_cases}
use Rattle.ga_codec.specs.Steps.Utf8.{char_size, may_follow, continues}

-- ---- tests as bounds

pub in_range : (low high n : ℕ) → low ≤ n → n ≤ high → is_in_range low high n ≡ true
in_range low high n l h = and_from _ _ (le-leb low n l) (le-leb n high h)

pub range_of : (low high n : ℕ) → is_in_range low high n ≡ true → (low ≤ n) × (n ≤ high)
range_of low high n e = let p = and_parts _ _ e in (leb-true low n p.0, leb-true n high p.1)

-- what the second byte y after x has to be
pub record Second (x y : ℕ) : Type 0 where
  pub low : 0x80 ≤ y
  pub high : y ≤ 0xBF
  pub at_e0 : x ≡ 0xE0 → 0xA0 ≤ y
  pub at_ed : x ≡ 0xED → y ≤ 0x9F
  pub at_f0 : x ≡ 0xF0 → 0x90 ≤ y
  pub at_f4 : x ≡ 0xF4 → y ≤ 0x8F

pub follows : (x y : ℕ) → Second x y → may_follow x y ≡ true
follows x y s =
    elim (cases_eq x 0xE0) [
      | inl e ↦ rw (eq-eqb x 0xE0 e) (in_range 0xA0 0xBF y (s.at_e0 e) s.high)
      | inr n ↦ elim (cases_eq x 0xED) [
        | inl e ↦ rw (ne_eqb x 0xE0 n, eq-eqb x 0xED e) (in_range 0x80 0x9F y s.low (s.at_ed e))
        | inr m ↦ elim (cases_eq x 0xF0) [
          | inl e ↦ rw (ne_eqb x 0xE0 n, ne_eqb x 0xED m, eq-eqb x 0xF0 e) (in_range 0x90 0xBF y (s.at_f0 e) s.high)
          | inr k ↦ elim (cases_eq x 0xF4) [
            | inl e ↦ rw (ne_eqb x 0xE0 n, ne_eqb x 0xED m, ne_eqb x 0xF0 k, eq-eqb x 0xF4 e) (in_range 0x80 0x8F y s.low (s.at_f4 e))
            | inr j ↦ rw (ne_eqb x 0xE0 n, ne_eqb x 0xED m, ne_eqb x 0xF0 k, ne_eqb x 0xF4 j) (in_range 0x80 0xBF y s.low s.high)
          ]
        ]
      ]
    ]

pub second_of : (x y : ℕ) → may_follow x y ≡ true → Second x y
second_of x y h =
    elim (cases_eq x 0xE0) [
      | inl e ↦
          let r = range_of 0xA0 0xBF y (rw (eq-eqb x 0xE0 e) at h) in
          record { low = omega arith; high = r.1; at_e0 = λ _. r.0; at_ed = λ e'. omega arith; at_f0 = λ e'. omega arith; at_f4 = λ e'. omega arith }
      | inr n ↦ elim (cases_eq x 0xED) [
        | inl e ↦
            let r = range_of 0x80 0x9F y (rw (ne_eqb x 0xE0 n, eq-eqb x 0xED e) at h) in
            record { low = r.0; high = omega arith; at_e0 = λ e'. omega arith; at_ed = λ _. r.1; at_f0 = λ e'. omega arith; at_f4 = λ e'. omega arith }
        | inr m ↦ elim (cases_eq x 0xF0) [
          | inl e ↦
              let r = range_of 0x90 0xBF y (rw (ne_eqb x 0xE0 n, ne_eqb x 0xED m, eq-eqb x 0xF0 e) at h) in
              record { low = omega arith; high = r.1; at_e0 = λ e'. omega arith; at_ed = λ e'. omega arith; at_f0 = λ _. r.0; at_f4 = λ e'. omega arith }
          | inr k ↦ elim (cases_eq x 0xF4) [
            | inl e ↦
                let r = range_of 0x80 0x8F y (rw (ne_eqb x 0xE0 n, ne_eqb x 0xED m, ne_eqb x 0xF0 k, eq-eqb x 0xF4 e) at h) in
                record { low = r.0; high = omega arith; at_e0 = λ e'. omega arith; at_ed = λ e'. omega arith; at_f0 = λ e'. omega arith; at_f4 = λ _. r.1 }
            | inr j ↦
                let r = range_of 0x80 0xBF y (rw (ne_eqb x 0xE0 n, ne_eqb x 0xED m, ne_eqb x 0xF0 k, ne_eqb x 0xF4 j) at h) in
                record { low = r.0; high = r.1; at_e0 = λ e'. absurd (n e'); at_ed = λ e'. absurd (m e'); at_f0 = λ e'. absurd (k e'); at_f4 = λ e'. absurd (j e') }
          ]
        ]
      ]
    ]

-- the first byte of a character of this size
abbrev pub IsFirst : ℕ → ℕ → Type 0
IsFirst zero x = ((0x80 ≤ x) × (x < 0xC2)) ⊎ (0xF5 ≤ x)
IsFirst (suc zero) x = x < 0x80
IsFirst (suc (suc zero)) x = (0xC2 ≤ x) × (x < 0xE0)
IsFirst (suc (suc (suc zero))) x = (0xE0 ≤ x) × (x < 0xF0)
IsFirst (suc (suc (suc (suc zero)))) x = (0xF0 ≤ x) × (x < 0xF5)
IsFirst (suc (suc (suc (suc (suc n))))) x = ⊥

pub first_size : (x : ℕ) → IsFirst (char_size x) x
first_size x =
    elim (cases_lt x 0x80) [
      | inl a ↦ rw (lt-ltb x 0x80 a) a
      | inr a ↦ elim (cases_lt x 0xC2) [
        | inl b ↦ rw (le-ltb x 0x80 a, lt-ltb x 0xC2 b) (inl (a, b))
        | inr b ↦ elim (cases_lt x 0xE0) [
          | inl c ↦ rw (le-ltb x 0x80 a, le-ltb x 0xC2 b, lt-ltb x 0xE0 c) (b, c)
          | inr c ↦ elim (cases_lt x 0xF0) [
            | inl d ↦ rw (le-ltb x 0x80 a, le-ltb x 0xC2 b, le-ltb x 0xE0 c, lt-ltb x 0xF0 d) (c, d)
            | inr d ↦ elim (cases_lt x 0xF5) [
              | inl e ↦ rw (le-ltb x 0x80 a, le-ltb x 0xC2 b, le-ltb x 0xE0 c, le-ltb x 0xF0 d, lt-ltb x 0xF5 e) (d, e)
              | inr e ↦ rw (le-ltb x 0x80 a, le-ltb x 0xC2 b, le-ltb x 0xE0 c, le-ltb x 0xF0 d, le-ltb x 0xF5 e) (inr e)
            ]
          ]
        ]
      ]
    ]

pub first_of : (x n : ℕ) → char_size x ≡ n → IsFirst n x
first_of x n e = subst (λ (k : ℕ). IsFirst k x) e (first_size x)

pub size_1 : (x : ℕ) → x < 0x80 → char_size x ≡ 1
size_1 x h = rw (lt-ltb x 0x80 h) refl

pub size_2 : (x : ℕ) → 0xC2 ≤ x → x < 0xE0 → char_size x ≡ 2
size_2 x l h = rw (le-ltb x 0x80 (omega arith), le-ltb x 0xC2 l, lt-ltb x 0xE0 h) refl

pub size_3 : (x : ℕ) → 0xE0 ≤ x → x < 0xF0 → char_size x ≡ 3
size_3 x l h = rw (le-ltb x 0x80 (omega arith), le-ltb x 0xC2 (omega arith), le-ltb x 0xE0 l, lt-ltb x 0xF0 h) refl

pub size_4 : (x : ℕ) → 0xF0 ≤ x → x < 0xF5 → char_size x ≡ 4
size_4 x l h = rw (le-ltb x 0x80 (omega arith), le-ltb x 0xC2 (omega arith), le-ltb x 0xE0 (omega arith), le-ltb x 0xF0 l, lt-ltb x 0xF5 h) refl

-- ---- characters

abbrev pub IsChar : List ℕ → Type 0
IsChar [] = ⊥
IsChar (x ∷ []) = char_size x ≡ 1
IsChar (x ∷ y ∷ []) = (char_size x ≡ 2) × (may_follow x y ≡ true)
IsChar (x ∷ y ∷ z ∷ []) = (char_size x ≡ 3) × (may_follow x y ≡ true) × (continues z ≡ true)
IsChar (x ∷ y ∷ z ∷ w ∷ []) = (char_size x ≡ 4) × (may_follow x y ≡ true) × (continues z ≡ true) × (continues w ≡ true)
IsChar (x ∷ y ∷ z ∷ w ∷ v ∷ bytes) = ⊥

one : (c : ℕ) → c < 128 → encode c ≡ c ∷ []
unfolding encode
one c h = rw (lt-ltb c 128 h)

two : (c : ℕ) → 128 ≤ c → c < 2048 → encode c ≡ (192 + c / 64) ∷ next c ∷ []
unfolding encode
two c l h = rw (le-ltb c 128 l, lt-ltb c 2048 h)

three : (c : ℕ) → 2048 ≤ c → c < 65536 → encode c ≡ (224 + c / 4096) ∷ next (c / 64) ∷ next c ∷ []
unfolding encode
three c l h = rw (le-ltb c 128 (omega arith), le-ltb c 2048 l, lt-ltb c 65536 h)

four : (c : ℕ) → 65536 ≤ c → encode c ≡ (240 + c / 262144) ∷ next (c / 4096) ∷ next (c / 64) ∷ next c ∷ []
unfolding encode
four c l = rw (le-ltb c 128 (omega arith), le-ltb c 2048 (omega arith), le-ltb c 65536 l)

high_scalar : (c : ℕ) → 57344 ≤ c → c < 1114112 → scalar c ≡ true
high_scalar c l h = rw (le-ltb c 55296 (omega arith), le-leb 57344 c l, lt-ltb c 1114112 h)

pub char_of : (c : ℕ) → scalar c ≡ true → IsChar (encode c)
char_of c ok =
    let range = scalar_cases c ok in
    elim (cases_lt c 128) [
      | inl a ↦ rw (one c a) (size_1 c a)
      | inr a ↦ elim (cases_lt c 2048) [
        | inl b ↦ rw (two c a b) (
          size_2 (192 + c / 64) (omega arith) (omega arith),
          follows (192 + c / 64) (next c) (record { low = omega arith; high = omega arith; at_e0 = λ e. omega arith; at_ed = λ e. omega arith; at_f0 = λ e. omega arith; at_f4 = λ e. omega arith }),
        )
        | inr b ↦ elim (cases_lt c 65536) [
          | inl d ↦ rw (three c b d) (
            size_3 (224 + c / 4096) (omega arith) (omega arith),
            follows (224 + c / 4096) (next (c / 64)) (record { low = omega arith; high = omega arith; at_e0 = λ e. omega arith; at_ed = λ e. omega arith; at_f0 = λ e. omega arith; at_f4 = λ e. omega arith }),
            in_range 0x80 0xBF (next c) (omega arith) (omega arith),
          )
          | inr d ↦ rw (four c d) (
            size_4 (240 + c / 262144) (omega arith) (omega arith),
            follows (240 + c / 262144) (next (c / 4096)) (record { low = omega arith; high = omega arith; at_e0 = λ e. omega arith; at_ed = λ e. omega arith; at_f0 = λ e. omega arith; at_f4 = λ e. omega arith }),
            in_range 0x80 0xBF (next (c / 64)) (omega arith) (omega arith),
            in_range 0x80 0xBF (next c) (omega arith) (omega arith),
          )
        ]
      ]
    ]

-- ---- and the character of such bytes

abbrev pub IsCharOf : List ℕ → Type 0
IsCharOf bytes = (c : ℕ) × (scalar c ≡ true) × (encode c ≡ bytes)

when : (x k : ℕ) (P : Type 0) → (x ≡ k → P) → ((x ≡ k) × P) ⊎ (x ≡ k → ⊥)
when x k P h = elim (cases_eq x k) [ inl e ↦ inl (e, h e) | inr n ↦ inr n ]

of_two : (x y : ℕ) → IsFirst 2 x → Second x y → IsCharOf (x ∷ y ∷ [])
of_two x y f s =
    let c = (x - 192) * 64 + (y - 128) in
    let p : 192 + c / 64 ≡ x = omega (arith, f.0, f.1, s.low, s.high) in
    let q : next c ≡ y = omega (arith, f.0, f.1, s.low, s.high) in
    (c, low_scalar c (omega (arith, f.0, f.1, s.low, s.high)), two c (omega (arith, f.0, f.1, s.low, s.high)) (omega (arith, f.0, f.1, s.low, s.high)) ∙ (λ k. p k ∷ q k ∷ []))

three_bytes : (x y z : ℕ) → 224 ≤ x → (128 ≤ y) × (y ≤ 191) → (128 ≤ z) × (z ≤ 191)
    → let c = (x - 224) * 4096 + (y - 128) * 64 + (z - 128) in (224 + c / 4096 ≡ x) × (next (c / 64) ≡ y) × (next c ≡ z)
three_bytes x y z h f g = (omega arith, omega arith, omega arith)

of_three : (x y z : ℕ) → IsFirst 3 x → Second x y → (128 ≤ z) × (z ≤ 191) → IsCharOf (x ∷ y ∷ z ∷ [])
of_three x y z f s g =
    let c = (x - 224) * 4096 + (y - 128) * 64 + (z - 128) in
    let bytes = three_bytes x y z f.0 (s.low, s.high) g in
    let p = bytes.0 in
    let q = bytes.1 in
    let r = bytes.2 in
    let e0 = when x 0xE0 (0xA0 ≤ y) s.at_e0 in
    let ed = when x 0xED (y ≤ 0x9F) s.at_ed in
    let ok : scalar c ≡ true = elim (cases_lt c 55296) [ inl a ↦ low_scalar c a | inr a ↦ high_scalar c (omega arith) (omega arith) ] in
    (c, ok, three c (omega arith) (omega arith) ∙ (λ k. p k ∷ q k ∷ r k ∷ []))

four_bytes : (x y z w : ℕ) → 240 ≤ x → (128 ≤ y) × (y ≤ 191) → (128 ≤ z) × (z ≤ 191) → (128 ≤ w) × (w ≤ 191)
    → let c = (x - 240) * 262144 + (y - 128) * 4096 + (z - 128) * 64 + (w - 128) in (240 + c / 262144 ≡ x) × (next (c / 4096) ≡ y) × (next (c / 64) ≡ z) × (next c ≡ w)
four_bytes x y z w h f g j =
    let e : ((x - 240) * 262144 + (y - 128) * 4096 + (z - 128) * 64 + (w - 128)) / 64 ≡ (x - 240) * 4096 + (y - 128) * 64 + (z - 128) = omega arith in
    (omega arith, omega arith, rw e (omega arith), omega arith)

of_four : (x y z w : ℕ) → IsFirst 4 x → Second x y → (128 ≤ z) × (z ≤ 191) → (128 ≤ w) × (w ≤ 191) → IsCharOf (x ∷ y ∷ z ∷ w ∷ [])
of_four x y z w f s g j =
    let c = (x - 240) * 262144 + (y - 128) * 4096 + (z - 128) * 64 + (w - 128) in
    let bytes = four_bytes x y z w f.0 (s.low, s.high) g j in
    let p = bytes.0 in
    let q = bytes.1 in
    let r = bytes.2 in
    let t = bytes.3 in
    let f0 = when x 0xF0 (0x90 ≤ y) s.at_f0 in
    let f4 = when x 0xF4 (y ≤ 0x8F) s.at_f4 in
    (c, high_scalar c (omega arith) (omega arith), four c (omega arith) ∙ (λ k. p k ∷ q k ∷ r k ∷ t k ∷ []))

pub of_char : (bytes : List ℕ) → IsChar bytes → IsCharOf bytes
of_char [] h = absurd h
of_char (x ∷ []) h = let f : x < 0x80 = first_of x 1 h in (x, low_scalar x (omega arith), one x f)
of_char (x ∷ y ∷ []) h = of_two x y (first_of x 2 h.0) (second_of x y h.1)
of_char (x ∷ y ∷ z ∷ []) h = of_three x y z (first_of x 3 h.0) (second_of x y h.1) (range_of 0x80 0xBF z h.2)
of_char (x ∷ y ∷ z ∷ w ∷ []) h = of_four x y z w (first_of x 4 h.0) (second_of x y h.1) (range_of 0x80 0xBF z h.2) (range_of 0x80 0xBF w h.3)
of_char (x ∷ y ∷ z ∷ w ∷ v ∷ bytes) h = absurd h
