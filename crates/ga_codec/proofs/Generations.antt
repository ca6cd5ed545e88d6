-- Where bytes stop beginning a generation.
use Rattle.std.proofs.Common.{◌≡◌, ℕ, zero, suc, ◌-◌, ◌≤◌, ◌<◌, List, [], ◌∷◌, ◌++◌, length, take, drop, get_or, replicate, refl, sym, ap, ◌∙◌, subst, inl, inr, append_assoc, arith}
use Rattle.std.specs.Int.{w64, to_be_bytes, from_be_bytes}
use Rattle.std.proofs.lemmas.Bool.{cases_lt}
use Rattle.std.proofs.lemmas.List.{append-nil, take_at, take-append-drop, length-append, length-take, length-replicate, get_or-take, get_or_at, get_or_past}
use Rattle.ga_codec.specs.declared.fault.CodecFault.{CodecFault}
use Rattle.ga_codec.specs.declared.fault.CodecFault.TheVariants.{NotInGrammar, NoMemory}
use Rattle.ga_codec.specs.Spelling.{eight_bytes}
use Rattle.ga_codec.specs.Shapes.{Begins, IsGeneration}
use Rattle.ga_codec.specs.Steps.Parts.{IsSpelled, StopsAt, Cursor, Takes, Refuses}
use Rattle.ga_codec.specs.Steps.Grammar.{number, generation}
use Rattle.ga_codec.proofs.PartLaws.{take_past, front_of}
use Rattle.ga_codec.proofs.Numbers.{AreBytes, bytes_take, bytes_append, bytes_zeros, place_of_bytes, wide64}
use Rattle.ga_codec.proofs.Fields.{n64_is_part}

-- no generation begins with a byte above 3f
pub first_byte : (g byte : ℕ) → IsGeneration g → get_or (eight_bytes g) 0 0 ≡ byte → byte ≤ 63
first_byte g byte f e = omega (arith, f.last, e)

-- ---- generation 0

zero_stops : (more : List ℕ) → StopsAt generation (eight_bytes 0 ++ more) 7
zero_stops more = record {
  none = λ a rest f e. let same = n64_is_part.one a 0 rest more (omega (arith, f.last)) (omega arith) (sym e) in omega (arith, f.first, same);
  longest = record {
    within = omega arith;
    begins = (1 ∷ [], (1, record { first = omega arith; last = omega arith }, refl));
    longest = λ n le b. elim (cases_lt n 8) [
      | inl lt ↦ omega arith
      | inr ge ↦
          let t : take n (eight_bytes 0 ++ more) ≡ eight_bytes 0 ++ take (n - 8) more = take_past (eight_bytes 0) more n ge in
          let e : eight_bytes b.1.0 ++ [] ≡ eight_bytes 0 ++ (take (n - 8) more ++ b.0) =
          append-nil (eight_bytes b.1.0) ∙ sym b.1.2 ∙ ap (λ (x : List ℕ). x ++ b.0) t in
          let same = n64_is_part.one b.1.0 0 [] (take (n - 8) more ++ b.0) (omega (arith, b.1.1.last)) (omega arith) e in
          absurd (omega (arith, b.1.1.first, same))
    ];
  };
}

pub refuses_zero : (cur new : Cursor) (g at : ℕ) → Takes (number w64) g cur new → g ≡ 0 → at ≡ new.place - 1 → Refuses generation cur (NotInGrammar at)
refuses_zero cur new g at t z e =
    let rest : cur.rest ≡ eight_bytes 0 ++ new.rest = t.bytes ∙ ap (λ (n : ℕ). eight_bytes n ++ new.rest) z in
    record { read = 7; place = omega (arith, t.place, e); stops = subst (λ (x : List ℕ). StopsAt generation x 7) (sym rest) (zero_stops new.rest) }

-- ---- too few bytes

-- bytes that begin a number, and are too few, begin a generation where the first of them may
few_begin : (bytes : List ℕ) → length bytes < 8 → AreBytes bytes → get_or bytes 0 0 ≤ 63 → Begins (IsSpelled generation) bytes
few_begin bytes lt fits low =
    let zeros : List ℕ = replicate (7 - length bytes) 0 in
    let all = bytes ++ zeros ++ 1 ∷ [] in
    let len : length all ≡ 8 = omega (arith, length-append (bytes ++ zeros) (1 ∷ []), length-append bytes zeros, length-replicate {A = ℕ} (7 - length bytes) 0) in
    let are = bytes_append (bytes ++ zeros) (1 ∷ []) (bytes_append bytes zeros fits (bytes_zeros (7 - length bytes))) (omega arith, tt) in
    let seven : length (bytes ++ zeros) ≡ 7 = omega (arith, length-append bytes zeros, length-replicate {A = ℕ} (7 - length bytes) 0) in
    let last : get_or all 7 0 ≡ 1 = get_or_at (bytes ++ zeros) 1 [] 0 7 seven in
    let first : get_or all 0 0 ≤ 63 = first_low bytes zeros low (7 - length bytes) refl (omega arith) in
    let p = place_of_bytes all are in
    let back : to_be_bytes w64 (from_be_bytes w64 all) ≡ all = wide64.back all len are in
    let regroup = append_assoc bytes zeros (1 ∷ []) in (
      zeros ++ 1 ∷ [],
      (
        from_be_bytes w64 all,
        record { first = omega (arith, last); last = omega (arith, first, p 0, p 1, p 2, p 3, p 4, p 5, p 6, p 7) },
        sym regroup ∙ sym back,
      ),
    )
  where
    first_low : (bytes zeros : List ℕ) → get_or bytes 0 0 ≤ 63 → (k : ℕ) → zeros ≡ replicate k 0 → k ≤ 7 → get_or (bytes ++ zeros ++ 1 ∷ []) 0 0 ≤ 63
    first_low (b ∷ bytes) zeros low k e le = low
    first_low [] [] low k e le = omega arith
    first_low [] (z ∷ zeros) low zero e le = absurd cc
    first_low [] (z ∷ zeros) low (suc k) e le = let same : z ≡ 0 = cc in omega arith

number_stops_early : (bytes : List ℕ) (n : ℕ) → StopsAt (number w64) bytes n → n < 8
number_stops_early bytes n s = elim (cases_lt n 8) [
  | inl lt ↦ lt
  | inr ge ↦
      let b = s.longest.begins in
      let front = front_of (eight_bytes b.1.0) (take n bytes) [] b.0 (append-nil (eight_bytes b.1.0) ∙ sym b.1.2) (omega (arith, length-take n bytes, s.longest.within)) in
      let more = drop 8 (take n bytes) in
      absurd (s.none b.1.0 (more ++ drop n bytes) b.1.1
      (sym (take-append-drop n bytes) ∙ ap (λ (t : List ℕ). t ++ drop n bytes) front ∙ append_assoc (eight_bytes b.1.0) more (drop n bytes)))
]

short_stops : (bytes : List ℕ) (n : ℕ) → get_or bytes 0 0 ≤ 63 → StopsAt (number w64) bytes n → StopsAt generation bytes n
short_stops bytes n low s =
    let lt = number_stops_early bytes n s in
    let b = s.longest.begins in
    let front = take n bytes in
    let size : length front ≡ n = omega (arith, length-take n bytes, s.longest.within) in
    let front-is : take n (eight_bytes b.1.0) ≡ front = ap (λ (t : List ℕ). take n t) (sym b.1.2) ∙ take_at front b.0 n size in
    let are = subst (λ (t : List ℕ). AreBytes t) front-is (bytes_take n (eight_bytes b.1.0) (wide64.are b.1.0)) in
    let first : get_or front 0 0 ≤ 63 = elim (cases_lt 0 n) [
      | inl pos ↦ omega (arith, get_or-take n bytes 0 0 pos)
      | inr none ↦ omega (arith, get_or_past front 0 0 (omega (arith, size)))
    ] in
    record {
      none = λ a rest f e. s.none a rest (omega (arith, f.last)) e;
      longest = record {
        within = s.longest.within;
        begins = few_begin front (omega (arith, size)) are first;
        longest = λ k le h. s.longest.longest k le (h.0, (h.1.0, omega (arith, h.1.1.last), h.1.2));
      };
    }

pub refuses_short : (cur : Cursor) (fault : CodecFault) (byte : ℕ) (more : List ℕ) → cur.rest ≡ byte ∷ more → byte ≤ 63 → Refuses (number w64) cur fault → Refuses generation cur fault
refuses_short cur NoMemory byte more e le r = tt
refuses_short cur (NotInGrammar at) byte more e le r =
    let low : get_or cur.rest 0 0 ≤ 63 = omega (arith, ap (λ (t : List ℕ). get_or t 0 0) e) in
    record { read = r.read; place = r.place; stops = short_stops cur.rest r.read low r.stops }
