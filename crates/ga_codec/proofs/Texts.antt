-- How far bytes begin a text of a given length.
use Rattle.std.proofs.Common.{◌≡◌, ℕ, zero, suc, ◌+◌, ◌-◌, ◌≤◌, ◌<◌, ◌⊎◌, true, false, List, [], ◌∷◌, ◌++◌, length, take, drop, get_or, replicate, min, refl, sym, ap, ◌∙◌, subst, inl, inr, append_assoc, arith}
use Rattle.std.specs.Str.{IsUtf8, StartsWithNoChar, IsValidUpTo}
use Rattle.std.proofs.lemmas.Bool.{cases_lt, cases_eq, and_parts, false≢true}
use Rattle.std.proofs.lemmas.List.{append-nil, take-append-drop, take_at, take_all, take-take, drop_at, length-append, length-take, length-drop, length-replicate, get_or-take, get_or_append_left}
use Rattle.std.proofs.lemmas.Str.{IsUtf8-append, IsUtf8-drop, IsUtf8-from_ascii, IsCharBoundary-from_take}
use lib.Utf8.{scalar, scalars, encode, encodes}
use Rattle.ga_codec.specs.declared.fault.CodecFault.TheVariants.{NotInGrammar}
use Rattle.ga_codec.specs.Shapes.{Begins, IsLongest}
use Rattle.ga_codec.specs.Steps.Parts.{StopsAt, Cursor, Takes, Refuses}
use Rattle.ga_codec.specs.Steps.Grammar.{utf8}
use Rattle.ga_codec.specs.Steps.Utf8.{IsTextOf, char_size, may_follow, continues}
use Rattle.ga_codec.proofs.PartLaws.{IsPart, take_past, front_of}
use Rattle.ga_codec.proofs.Chars.{IsChar, char_of, of_char, IsFirst, first_of, Second, follows}

-- ---- texts

letters : (n i : ℕ) → get_or (replicate n 97) i 0 < 128
letters zero i = omega arith
letters (suc n) zero = omega arith
letters (suc n) (suc i) = letters n i

letters_utf8 : (n : ℕ) → IsUtf8 (replicate n 97)
letters_utf8 n = IsUtf8-from_ascii (replicate n 97) (letters n)

pub utf8_is_part : (size : ℕ) → IsPart (utf8 size)
utf8_is_part size = record {
  one = λ a b x y f g e. sym (take_at a x size f.1) ∙ ap (λ (t : List ℕ). take size t) e ∙ take_at b y size g.1;
  some = (replicate size 97, (letters_utf8 size, length-replicate size 97));
}

-- a text that begins with a text goes on with one
utf8_rest : (a b : List ℕ) → IsUtf8 (a ++ b) → IsUtf8 a → IsUtf8 b
utf8_rest a b u v =
    let here : take (length a) (a ++ b) ≡ a = take_at a b (length a) refl in
    let cut = IsCharBoundary-from_take (a ++ b) (length a) u (omega (arith, length-append a b)) (subst (λ (t : List ℕ). IsUtf8 t) (sym here) v) in
    subst (λ (t : List ℕ). IsUtf8 t) (drop_at a b (length a) refl) (IsUtf8-drop (a ++ b) (length a) u cut)

-- the first character of a text
first_char : (bytes : List ℕ) → IsUtf8 bytes → 0 < length bytes → (c : ℕ) × (rest : List ℕ) × (scalar c ≡ true) × (bytes ≡ encode c ++ rest)
first_char bytes u long = go u.0 u.1.0 u.1.1
  where
    go : (cs : List ℕ) → scalars cs ≡ true → encodes cs ≡ bytes → (c : ℕ) × (rest : List ℕ) × (scalar c ≡ true) × (bytes ≡ encode c ++ rest)
    go [] ok e = absurd (omega (arith, ap length e))
    go (c ∷ cs) ok e = (c, encodes cs, (and_parts (scalar c) (scalars cs) ok).0, sym e)

char_utf8 : (bytes : List ℕ) → IsChar bytes → IsUtf8 bytes
char_utf8 bytes h = let c = of_char bytes h in (c.0 ∷ [], (rw c.1 refl, append-nil (encode c.0) ∙ c.2))

-- ---- how far

-- what the bytes of a character are
record IsCharBy (bytes : List ℕ) : Type 0 where
  size : char_size (get_or bytes 0 0) ≡ length bytes
  some : 0 < length bytes
  most : length bytes ≤ 4
  second : 1 < length bytes → may_follow (get_or bytes 0 0) (get_or bytes 1 0) ≡ true
  third : 2 < length bytes → continues (get_or bytes 2 0) ≡ true

char_by : (bytes : List ℕ) → IsChar bytes → IsCharBy bytes
char_by [] h = absurd h
char_by (x ∷ []) h = record { size = h; some = omega arith; most = omega arith; second = λ l. absurd (omega arith); third = λ l. absurd (omega arith) }
char_by (x ∷ y ∷ []) h = record { size = h.0; some = omega arith; most = omega arith; second = λ _. h.1; third = λ l. absurd (omega arith) }
char_by (x ∷ y ∷ z ∷ []) h = record { size = h.0; some = omega arith; most = omega arith; second = λ _. h.1; third = λ _. h.2 }
char_by (x ∷ y ∷ z ∷ w ∷ []) h = record { size = h.0; some = omega arith; most = omega arith; second = λ _. h.1; third = λ _. h.2 }
char_by (x ∷ y ∷ z ∷ w ∷ v ∷ bytes) h = absurd h

-- what is known of bytes of which this many begin a text of this length
record Fronts (size : ℕ) (bytes : List ℕ) (n : ℕ) : Type 0 where
  sized : char_size (get_or bytes 0 0) ≤ size
  some : 0 < char_size (get_or bytes 0 0)
  before : n < char_size (get_or bytes 0 0)
  most : char_size (get_or bytes 0 0) ≤ 4
  second : 1 < n → may_follow (get_or bytes 0 0) (get_or bytes 1 0) ≡ true
  third : 2 < n → continues (get_or bytes 2 0) ≡ true

fronts : (size : ℕ) (bytes : List ℕ) (n : ℕ) → StartsWithNoChar bytes → 0 < n → n ≤ length bytes → Begins (IsTextOf size) (take n bytes) → Fronts size bytes n
fronts size bytes n no_char pos le b =
    let front = take n bytes in
    let c = first_char (front ++ b.0) b.1.0 (omega (arith, length-append front b.0, length-take n bytes)) in
    let ch = encode c.0 in
    let by = char_by ch (char_of c.0 c.2) in
    let sizes : length front ≡ n = omega (arith, length-take n bytes) in
    let within : n < length ch = elim (cases_lt n (length ch)) [
      | inl lt ↦ lt
      | inr ge ↦
          let f = front_of ch front c.1 b.0 (sym c.3) (omega arith) in
          absurd (no_char c.0 (drop (length ch) front ++ drop n bytes) c.2
          (sym (take-append-drop n bytes) ∙ ap (λ (t : List ℕ). t ++ drop n bytes) f ∙ append_assoc ch (drop (length ch) front) (drop n bytes)))
    ] in
    let same : (i : ℕ) → i < n → get_or ch i 0 ≡ get_or bytes i 0 = λ i lt.
    sym (get_or_append_left ch c.1 0 i (omega arith)) ∙ ap (λ (t : List ℕ). get_or t i 0) (sym c.3) ∙ get_or_append_left front b.0 0 i (omega arith) ∙ get_or-take n bytes i 0 lt in
    let s0 = same 0 pos in
    let size-is : char_size (get_or bytes 0 0) ≡ length ch = ap char_size (sym s0) ∙ by.size in
    record {
      sized = omega (arith, size-is, ap length c.3, length-append ch c.1, b.1.1);
      some = omega (arith, size-is, by.some);
      before = omega (arith, size-is);
      most = omega (arith, size-is, by.most);
      second = λ l. ap (λ (x : ℕ). may_follow x (get_or bytes 1 0)) (sym s0) ∙ ap (λ (y : ℕ). may_follow (get_or ch 0 0) y) (sym (same 1 l)) ∙ by.second (omega arith);
      third = λ l. ap continues (sym (same 2 l)) ∙ by.third (omega arith);
    }

-- a character, and letters after it
filled : (size : ℕ) (front more : List ℕ) → IsChar (front ++ more) → length (front ++ more) ≤ size → Begins (IsTextOf size) front
filled size front more h le =
    let last : List ℕ = replicate (size - length (front ++ more)) 97 in
    let whole = append_assoc front more last in (
      more ++ last,
      (
        subst (λ (t : List ℕ). IsUtf8 t) whole (IsUtf8-append (front ++ more) last (char_utf8 (front ++ more) h) (letters_utf8 (size - length (front ++ more)))),
        ap length (sym whole) ∙ omega (arith, length-append (front ++ more) last, length-replicate {A = ℕ} (size - length (front ++ more)) 97),
      ),
    )

no_whole : (bytes ch rest : List ℕ) → StartsWithNoChar bytes → IsChar ch → bytes ≡ ch ++ rest → ⊥
no_whole bytes ch rest no_char h e = let c = of_char ch h in no_char c.0 rest c.1 (e ∙ ap (λ (t : List ℕ). t ++ rest) (sym c.2))

-- some byte may stand second
some_second : (x : ℕ) → (y : ℕ) × Second x y
some_second x =
    elim (cases_eq x 0xE0) [
      | inl e ↦ (0xA0, record { low = omega arith; high = omega arith; at_e0 = λ _. omega arith; at_ed = λ e'. omega arith; at_f0 = λ e'. omega arith; at_f4 = λ e'. omega arith })
      | inr n ↦ elim (cases_eq x 0xF0) [
        | inl e ↦ (0x90, record { low = omega arith; high = omega arith; at_e0 = λ e'. absurd (n e'); at_ed = λ e'. omega arith; at_f0 = λ _. omega arith; at_f4 = λ e'. omega arith })
        | inr m ↦ (0x80, record { low = omega arith; high = omega arith; at_e0 = λ e'. absurd (n e'); at_ed = λ _. omega arith; at_f0 = λ e'. absurd (m e'); at_f4 = λ _. omega arith })
      ]
    ]

begin_1 : (k x size : ℕ) → char_size x ≡ k → IsFirst k x → 1 < k → k ≤ size → Begins (IsTextOf size) (x ∷ [])
begin_1 zero x size e f lt le = absurd (omega arith)
begin_1 (suc zero) x size e f lt le = absurd (omega arith)
begin_1 (suc (suc zero)) x size e f lt le =
    let y = some_second x in
    filled size (x ∷ []) (y.0 ∷ []) (e, follows x y.0 y.1) le
begin_1 (suc (suc (suc zero))) x size e f lt le =
    let y = some_second x in
    filled size (x ∷ []) (y.0 ∷ 0x80 ∷ []) (e, follows x y.0 y.1, refl) le
begin_1 (suc (suc (suc (suc zero)))) x size e f lt le =
    let y = some_second x in
    filled size (x ∷ []) (y.0 ∷ 0x80 ∷ 0x80 ∷ []) (e, follows x y.0 y.1, refl, refl) le
begin_1 (suc (suc (suc (suc (suc n))))) x size e f lt le = absurd f

begin_2 : (k x y size : ℕ) → char_size x ≡ k → IsFirst k x → may_follow x y ≡ true → 2 < k → k ≤ size → Begins (IsTextOf size) (x ∷ y ∷ [])
begin_2 zero x y size e f h lt le = absurd (omega arith)
begin_2 (suc zero) x y size e f h lt le = absurd (omega arith)
begin_2 (suc (suc zero)) x y size e f h lt le = absurd (omega arith)
begin_2 (suc (suc (suc zero))) x y size e f h lt le = filled size (x ∷ y ∷ []) (0x80 ∷ []) (e, h, refl) le
begin_2 (suc (suc (suc (suc zero)))) x y size e f h lt le = filled size (x ∷ y ∷ []) (0x80 ∷ 0x80 ∷ []) (e, h, refl, refl) le
begin_2 (suc (suc (suc (suc (suc n))))) x y size e f h lt le = absurd f

begin_3 : (k x y z size : ℕ) → char_size x ≡ k → IsFirst k x → may_follow x y ≡ true → continues z ≡ true → 3 < k → k ≤ size → Begins (IsTextOf size) (x ∷ y ∷ z ∷ [])
begin_3 zero x y z size e f h g lt le = absurd (omega arith)
begin_3 (suc zero) x y z size e f h g lt le = absurd (omega arith)
begin_3 (suc (suc zero)) x y z size e f h g lt le = absurd (omega arith)
begin_3 (suc (suc (suc zero))) x y z size e f h g lt le = absurd (omega arith)
begin_3 (suc (suc (suc (suc zero)))) x y z size e f h g lt le = filled size (x ∷ y ∷ z ∷ []) (0x80 ∷ []) (e, h, g, refl) le
begin_3 (suc (suc (suc (suc (suc n))))) x y z size e f h g lt le = absurd f

-- where no character begins whole, its first bytes are fewer than it has
past_1 : (k x : ℕ) (xs : List ℕ) → char_size x ≡ k → StartsWithNoChar (x ∷ xs) → 0 < k → 1 < k
past_1 zero x xs e no_char pos = absurd (omega arith)
past_1 (suc zero) x xs e no_char pos = absurd (no_whole (x ∷ xs) (x ∷ []) xs no_char e refl)
past_1 (suc (suc k)) x xs e no_char pos = omega arith

past_2 : (k x y : ℕ) (xs : List ℕ) → char_size x ≡ k → StartsWithNoChar (x ∷ y ∷ xs) → may_follow x y ≡ true → 0 < k → 2 < k
past_2 zero x y xs e no_char h pos = absurd (omega arith)
past_2 (suc zero) x y xs e no_char h pos = absurd (no_whole (x ∷ y ∷ xs) (x ∷ []) (y ∷ xs) no_char e refl)
past_2 (suc (suc zero)) x y xs e no_char h pos = absurd (no_whole (x ∷ y ∷ xs) (x ∷ y ∷ []) xs no_char (e, h) refl)
past_2 (suc (suc (suc k))) x y xs e no_char h pos = omega arith

past_3 : (k x y z : ℕ) (xs : List ℕ) → char_size x ≡ k → StartsWithNoChar (x ∷ y ∷ z ∷ xs) → may_follow x y ≡ true → continues z ≡ true → 2 < k → 3 < k
past_3 zero x y z xs e no_char h g pos = absurd (omega arith)
past_3 (suc zero) x y z xs e no_char h g pos = absurd (omega arith)
past_3 (suc (suc zero)) x y z xs e no_char h g pos = absurd (omega arith)
past_3 (suc (suc (suc zero))) x y z xs e no_char h g pos = absurd (no_whole (x ∷ y ∷ z ∷ xs) (x ∷ y ∷ z ∷ []) xs no_char (e, h, g) refl)
past_3 (suc (suc (suc (suc k)))) x y z xs e no_char h g pos = omega arith

pub stop_0 : (size : ℕ) (bytes : List ℕ) → StartsWithNoChar bytes → (char_size (get_or bytes 0 0) ≡ 0) ⊎ (size < char_size (get_or bytes 0 0)) → IsLongest (IsTextOf size) bytes 0
stop_0 size bytes no_char bad = record {
  within = omega arith;
  begins = (replicate size 97, (letters_utf8 size, length-replicate size 97));
  longest = λ n le b. elim (cases_lt 0 n) [
    | inl pos ↦ let f = fronts size bytes n no_char pos le b in absurd (elim bad [ inl e ↦ omega (arith, f.some) | inr lt ↦ omega (arith, f.sized) ])
    | inr le ↦ le
  ];
}

pub stop_1 : (size : ℕ) (bytes : List ℕ) → StartsWithNoChar bytes → 0 < length bytes → (char_size (get_or bytes 0 0) ≡ 0 → ⊥) → char_size (get_or bytes 0 0) ≤ size
    → (length bytes < 2) ⊎ (may_follow (get_or bytes 0 0) (get_or bytes 1 0) ≡ false) → IsLongest (IsTextOf size) bytes 1
stop_1 size [] no_char some nonzero sized bad = absurd (omega arith)
stop_1 size (x ∷ xs) no_char some nonzero sized bad =
    let pos : 0 < char_size x = omega (arith, nonzero) in
    record {
      within = omega arith;
      begins = begin_1 (char_size x) x size refl (first_of x (char_size x) refl) (past_1 (char_size x) x xs refl no_char pos) sized;
      longest = λ n le b. elim (cases_lt 1 n) [
        | inl lt ↦
            let f = fronts size (x ∷ xs) n no_char (omega arith) le b in
            absurd (elim bad [ inl few ↦ omega arith | inr never ↦ false≢true (sym never ∙ f.second lt) ])
        | inr le ↦ le
      ];
    }

pub stop_2 : (size : ℕ) (bytes : List ℕ) → StartsWithNoChar bytes → 2 ≤ length bytes → (char_size (get_or bytes 0 0) ≡ 0 → ⊥) → char_size (get_or bytes 0 0) ≤ size
    → may_follow (get_or bytes 0 0) (get_or bytes 1 0) ≡ true → (length bytes < 3) ⊎ (continues (get_or bytes 2 0) ≡ false) → IsLongest (IsTextOf size) bytes 2
stop_2 size [] no_char some nonzero sized h bad = absurd (omega arith)
stop_2 size (x ∷ []) no_char some nonzero sized h bad = absurd (omega arith)
stop_2 size (x ∷ y ∷ xs) no_char some nonzero sized h bad =
    let pos : 0 < char_size x = omega (arith, nonzero) in
    record {
      within = omega arith;
      begins = begin_2 (char_size x) x y size refl (first_of x (char_size x) refl) h (past_2 (char_size x) x y xs refl no_char h pos) sized;
      longest = λ n le b. elim (cases_lt 2 n) [
        | inl lt ↦
            let f = fronts size (x ∷ y ∷ xs) n no_char (omega arith) le b in
            absurd (elim bad [ inl few ↦ omega arith | inr never ↦ false≢true (sym never ∙ f.third lt) ])
        | inr le ↦ le
      ];
    }

pub stop_3 : (size : ℕ) (bytes : List ℕ) → StartsWithNoChar bytes → 3 ≤ length bytes → (char_size (get_or bytes 0 0) ≡ 0 → ⊥) → char_size (get_or bytes 0 0) ≤ size
    → may_follow (get_or bytes 0 0) (get_or bytes 1 0) ≡ true → continues (get_or bytes 2 0) ≡ true → IsLongest (IsTextOf size) bytes 3
stop_3 size [] no_char some nonzero sized h g = absurd (omega arith)
stop_3 size (x ∷ []) no_char some nonzero sized h g = absurd (omega arith)
stop_3 size (x ∷ y ∷ []) no_char some nonzero sized h g = absurd (omega arith)
stop_3 size (x ∷ y ∷ z ∷ xs) no_char some nonzero sized h g =
    let pos : 0 < char_size x = omega (arith, nonzero) in
    let two = past_2 (char_size x) x y (z ∷ xs) refl no_char h pos in
    record {
      within = omega arith;
      begins = begin_3 (char_size x) x y z size refl (first_of x (char_size x) refl) h g (past_3 (char_size x) x y z xs refl no_char h g two) sized;
      longest = λ n le b. elim (cases_lt 3 n) [
        | inl lt ↦
            let f = fronts size (x ∷ y ∷ z ∷ xs) n no_char (omega arith) le b in
            absurd (omega (arith, f.before, f.most))
        | inr le ↦ le
      ];
    }

-- ---- a text that is read

-- after the longest front that is UTF-8 no character begins
pub no_char_behind : (bytes : List ℕ) (n : ℕ) → IsValidUpTo bytes n → StartsWithNoChar (drop n bytes)
no_char_behind bytes n v = λ c rest ok e.
    let front = take n bytes in
    let size : length front ≡ n = omega (arith, v.short, length-take n bytes) in
    let ch = encode c in
    let split : bytes ≡ (front ++ ch) ++ rest = sym (take-append-drop n bytes) ∙ ap (λ (t : List ℕ). front ++ t) e ∙ sym (append_assoc front ch rest) in
    let here : take (length (front ++ ch)) bytes ≡ front ++ ch = ap (λ (t : List ℕ). take (length (front ++ ch)) t) split ∙ take_at (front ++ ch) rest (length (front ++ ch)) refl in
    let whole : IsUtf8 (front ++ ch) = IsUtf8-append front ch v.front (c ∷ [], (rw ok refl, append-nil ch)) in
    let some = (char_by ch (char_of c ok)).some in
    v.longest (length (front ++ ch)) (omega (arith, size, length-append front ch)) (subst (λ (t : List ℕ). IsUtf8 t) (sym here) whole)

-- past the longest front that is UTF-8
pub longest_past : (size : ℕ) (bytes : List ℕ) (n k : ℕ) → length bytes ≤ size → IsValidUpTo bytes n → IsLongest (IsTextOf (size - n)) (drop n bytes) k → IsLongest (IsTextOf size) bytes (n + k)
longest_past size bytes n k le v h =
    let front = take n bytes in
    let sized : length front ≡ n = omega (arith, v.short, length-take n bytes) in
    let past : (m : ℕ) → n ≤ m → take m bytes ≡ front ++ take (m - n) (drop n bytes) = λ m ge.
    ap (λ (t : List ℕ). take m t) (sym (take-append-drop n bytes)) ∙ take_past front (drop n bytes) m (omega arith) ∙ ap (λ (j : ℕ). front ++ take (m - j) (drop n bytes)) sized in
    record {
      within = omega (arith, v.short, h.within, length-drop n bytes);
      begins =
          let b = h.begins in
          let same : n + k - n ≡ k = omega arith in
          let t : take (n + k) bytes ≡ front ++ take k (drop n bytes) = past (n + k) (omega arith) ∙ ap (λ (j : ℕ). front ++ take j (drop n bytes)) same in
          let whole : take (n + k) bytes ++ b.0 ≡ front ++ (take k (drop n bytes) ++ b.0) = ap (λ (x : List ℕ). x ++ b.0) t ∙ append_assoc front (take k (drop n bytes)) b.0 in (
            b.0,
            (
              subst (λ (x : List ℕ). IsUtf8 x) (sym whole) (IsUtf8-append front (take k (drop n bytes) ++ b.0) v.front b.1.0),
              omega (arith, ap length whole, length-append front (take k (drop n bytes) ++ b.0), b.1.1, v.short),
            ),
          );
      longest = λ m within b. elim (cases_lt m n) [
        | inl lt ↦ omega arith
        | inr ge ↦
            let part = take (m - n) (drop n bytes) in
            let whole : take m bytes ++ b.0 ≡ front ++ (part ++ b.0) = ap (λ (x : List ℕ). x ++ b.0) (past m ge) ∙ append_assoc front part b.0 in
            let u = utf8_rest front (part ++ b.0) (subst (λ (x : List ℕ). IsUtf8 x) whole b.1.0) v.front in
            let len : length (part ++ b.0) ≡ size - n = omega (arith, ap length whole, length-append front (part ++ b.0), b.1.1) in
            let h' = h.longest (m - n) (omega (arith, length-drop n bytes)) (b.0, (u, len)) in
            omega (arith, h')
      ];
    }

pub front_is : (n size : ℕ) (rest left : List ℕ) → n ≡ min size (length rest) → rest ≡ left → take n rest ≡ take (min size (length left)) left
front_is n size rest left e r = ap (λ (k : ℕ). take k rest) e ∙ ap (λ (t : List ℕ). take (min size (length t)) t) r

module _ (size : ℕ) (cur : Cursor) (front : List ℕ) (front-is : front ≡ take (min size (length cur.rest)) cur.rest) where
  front_size : length front ≡ min size (length cur.rest)
  front_size = ap length front-is ∙ omega (arith, length-take (min size (length cur.rest)) cur.rest)

  pub text_read : IsUtf8 front → size ≤ length front → Takes (utf8 size) front cur (record { place = cur.place + length front; rest = drop (length front) cur.rest })
  text_read u le = record {
    fits = (u, omega (arith, front_size));
    bytes =
        let t : take (length front) cur.rest ≡ front = ap (λ (n : ℕ). take n cur.rest) front_size ∙ sym front-is in
        sym (take-append-drop (length front) cur.rest) ∙ ap (λ (x : List ℕ). x ++ drop (length front) cur.rest) t;
    place = refl;
  }

  -- the fronts of what is left begin a text just where those of front do
  stops_so : (k : ℕ) → (IsUtf8 front → length front ≡ size → ⊥) → IsLongest (IsTextOf size) front k → StopsAt (utf8 size) cur.rest k
  stops_so k bad h =
      let same : (n : ℕ) → n ≤ length front → take n cur.rest ≡ take n front = λ n le.
      sym (take-take n (min size (length cur.rest)) cur.rest (omega (arith, front_size))) ∙ ap (λ (t : List ℕ). take n t) (sym front-is) in
      record {
        none = λ a rest f e.
            let long : size ≤ length cur.rest = omega (arith, f.1, ap length e, length-append a rest) in
            let m : min size (length cur.rest) ≡ size = omega arith in
            let a-is : a ≡ front = sym (take_at a rest size f.1) ∙ ap (λ (t : List ℕ). take size t) (sym e) ∙ ap (λ (n : ℕ). take n cur.rest) (sym m) ∙ sym front-is in
            bad (subst (λ (t : List ℕ). IsUtf8 t) a-is f.0) (sym (ap length a-is) ∙ f.1);
        longest = record {
          within = omega (arith, h.within, front_size);
          begins =
              let b = h.begins in
              (b.0, (take k front ++ b.0, b.1, ap (λ (t : List ℕ). t ++ b.0) (same k h.within)));
          longest = λ n within b.
              let len : length (take n cur.rest ++ b.0) ≡ size = ap length b.1.2 ∙ b.1.1.1 in
              let le : n ≤ length front = omega (arith, front_size, len, length-append (take n cur.rest) b.0, length-take n cur.rest) in
              let whole : b.1.0 ≡ take n front ++ b.0 = sym b.1.2 ∙ ap (λ (t : List ℕ). t ++ b.0) (same n le) in
              h.longest n le (b.0, (subst (λ (t : List ℕ). IsUtf8 t) whole b.1.1.0, sym (ap length whole) ∙ b.1.1.1));
        };
      }

  pub text_wrong : (k : ℕ) → ¬ (IsUtf8 front) → IsLongest (IsTextOf size) front k → Refuses (utf8 size) cur (NotInGrammar (cur.place + k))
  text_wrong k bad h = record { read = k; place = refl; stops = stops_so k (λ u _. bad u) h }

  pub text_ended : IsUtf8 front → length front < size → Refuses (utf8 size) cur (NotInGrammar (cur.place + length cur.rest))
  text_ended u lt =
      let len : length front ≡ length cur.rest = omega (arith, front_size) in
      let all : take (length front) front ≡ front = take_all (length front) front (omega arith) in
      let last : List ℕ = replicate (size - length front) 97 in
      record {
        read = length front;
        place = omega arith;
        stops = stops_so (length front) (λ _ e. omega arith) (record {
          within = omega arith;
          begins = (
            last,
            (
              IsUtf8-append (take (length front) front) last (subst (λ (t : List ℕ). IsUtf8 t) (sym all) u) (letters_utf8 (size - length front)),
              omega (arith, length-append (take (length front) front) last, ap length all, length-replicate {A = ℕ} (size - length front) 97),
            ),
          );
          longest = λ n le b. le;
        });
      }
