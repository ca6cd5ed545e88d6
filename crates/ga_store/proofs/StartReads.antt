-- The start of a side as it is read.
use Rattle.std.proofs.Common.{◌≡◌, ℕ, ◌+◌, ◌-◌, ◌<◌, ◌^◌, ◌&&◌, ◌==◌, nat_lt, Bool, true, false, List, [], ◌∷◌, ◌++◌, length, Option, Some, None, IfSome, option_map, sym, ap, ◌∙◌, subst, arith, append_assoc, length-append}
use Rattle.std.specs.Prelude.{replicate}
use Rattle.std.proofs.Math.Seq.{take-append_seam}
use Rattle.std.proofs.lemmas.Bool.{eqb-true}
use Rattle.std.proofs.lemmas.List.{length-replicate}
use Rattle.sha2.specs.Sha256.{sha256}
use Rattle.ga_codec.specs.Pieces.{BodyFront, HeadValue, front_bytes}
use Rattle.ga_codec.specs.Shapes.{SpellSnapshot}
use Rattle.ga_codec.specs.Spelling.{eight_bytes}
use Rattle.ga_codec.specs.Values.{SnapshotValue}
use Rattle.ga_disk.specs.Sides.{Sides}
use Rattle.ga_store.specs.Database.{HasSnapshot, LacksSnapshot}
use Rattle.ga_store.specs.SideParts.{IsPartAt, is_open_at, open_gate, part_bytes}
use Rattle.ga_store.specs.Steps.Bodies.{HasBody, HasRead, LacksBody, size_of}
use Rattle.ga_store.specs.Steps.SideParts.{HasSize, SaysGate}
use Rattle.ga_store.specs.Steps.Starts.{IsBegun}
use Rattle.ga_store.specs.Steps.Stream.{IsRest, StreamView, TookOff, asked, left}
use Rattle.ga_store.specs.declared.body_reading.OpenBody.{OpenBody}
use Rattle.ga_store.proofs.RecoverParts.{long-digested, long-part}
use Rattle.ga_store.proofs.TakenParts.{has-snapshot, lacks-snapshot, long-eight}

-- some bytes may be the rest
pub some-rest : (s : StreamView) → (rest : List ℕ) × IsRest s rest
some-rest s = (
  s.window ++ replicate (s.size - asked s) 0,
  record { size = omega (arith, length-append s.window (replicate (s.size - asked s) 0), length-replicate {A = ℕ} (s.size - asked s) 0); front = take-append_seam s.window _ },
)

gate-byte : (gate : ℕ) (more : List ℕ) → is_open_at (gate ∷ more) 0 ≡ true → gate ≡ open_gate
gate-byte gate more e = eqb-true gate open_gate (second (nat_lt 1 (length (gate ∷ more))) (gate == open_gate) e)
  where
    second : (a b : Bool) → (a && b) ≡ true → b ≡ true
    second true b e = e
    second false b e = absurd cc

-- the size behind an open gate
pub open-size : (seen : Option Sides) (gate s : StreamView) (size : ℕ) (none taken : List ℕ) → SaysGate gate true none → TookOff seen gate s taken
    → HasSize s size taken → taken ≡ open_gate ∷ eight_bytes size
open-size seen gate s size none taken says off has =
    let some = some-rest s in
    let open-there : is_open_at (taken ++ some.0) 0 ≡ true = says.says (taken ++ some.0) (off.rest some.0 some.1) in
    let shown = subst (λ (t : List ℕ). is_open_at (t ++ some.0) 0 ≡ true) has.is open-there in
    has.is ∙ ap (λ (byte : ℕ). byte ∷ eight_bytes size) (gate-byte has.gate (eight_bytes size ++ some.0) shown)

-- behind an open gate there is no part
pub no-part : (seen : Option Sides) (gate s : StreamView) (none taken rest : List ℕ) → SaysGate gate true none → TookOff seen gate s taken → IsRest s rest
    → ((body : List ℕ) → IsPartAt (taken ++ rest) 1 body → ⊥) → LacksSnapshot (taken ++ rest)
no-part seen gate s none taken rest says off is bad = record { gate = says.says (taken ++ rest) (off.rest rest is); none = λ body s part spells. bad body part }

-- ---- begun

-- a part that was begun behind an open gate
pub begun-is : (old new : OpenBody) (size : ℕ) (front taken : List ℕ) → old.left ≡ size → old.reader ≡ record { is_snapshot = true; head = None; rows = [] }
    → front ≡ open_gate ∷ eight_bytes size → size < 2 ^ 64 → HasRead old new taken → IsBegun (front ++ taken) new
begun-is old new size front taken left reader is fits has =
    let none : front_bytes old.reader ≡ [] = ap (λ (r : BodyFront). front_bytes r) reader in
    let bytes : front_bytes new.reader ≡ taken = has.bytes ∙ ap (λ (t : List ℕ). t ++ taken) none in
    let same : size_of new ≡ size = omega (arith, ap length bytes, has.left, left) in
    record {
      fits = omega (arith, same, fits);
      is = ap (λ (t : List ℕ). t ++ taken) is ∙ ap (λ (n : ℕ). open_gate ∷ (eight_bytes n ++ taken)) (sym same)
          ∙ ap (λ (t : List ℕ). open_gate ∷ (eight_bytes (size_of new) ++ t)) (sym bytes);
    }

pub lacks-begun : (old : OpenBody) (size : ℕ) (front taken rest : List ℕ) → old.left ≡ size → old.reader ≡ record { is_snapshot = true; head = None; rows = [] }
    → front ≡ open_gate ∷ eight_bytes size → size < 2 ^ 64 → LacksBody old.reader.is_snapshot (size_of old) (front_bytes old.reader ++ (taken ++ rest))
    → LacksSnapshot ((front ++ taken) ++ rest)
lacks-begun old size front taken rest left reader is fits lacks =
    let none : front_bytes old.reader ≡ [] = ap (λ (r : BodyFront). front_bytes r) reader in
    let kind : old.reader.is_snapshot ≡ true = ap (λ (r : BodyFront). r.is_snapshot) reader in
    let same : size_of old ≡ size = omega (arith, ap length none, left) in
    let here = subst (λ (p : Bool × (ℕ × List ℕ)). LacksBody p.0 p.1.0 (p.1.1 ++ (taken ++ rest))) (λ i. (kind i, (same i, none i))) lacks in
    let bytes : (open_gate ∷ eight_bytes size) ++ (taken ++ rest) ≡ (front ++ taken) ++ rest =
    ap (λ (t : List ℕ). t ++ (taken ++ rest)) (sym is) ∙ sym (append_assoc front taken rest) in
    subst (λ (t : List ℕ). LacksSnapshot t) bytes (lacks-snapshot size (taken ++ rest) fits here)

-- ---- whole

-- the bytes up to a body, and what follows
abbrev cut-begun : (before more : List ℕ) (body : OpenBody) → Type 0
cut-begun before more body = (open_gate ∷ eight_bytes (size_of body)) ++ (front_bytes body.reader ++ more) ≡ before ++ more

cut : (before more : List ℕ) (body : OpenBody) → IsBegun before body → cut-begun before more body
cut before more body begun =
    ap (λ (t : List ℕ). open_gate ∷ t) (sym (append_assoc (eight_bytes (size_of body)) (front_bytes body.reader) more)) ∙ ap (λ (t : List ℕ). t ++ more) (sym begun.is)

pub damaged-start : (body : OpenBody) (before more : List ℕ) → IsBegun before body → body.reader.is_snapshot ≡ true
    → LacksBody body.reader.is_snapshot (size_of body) (front_bytes body.reader ++ more) → LacksSnapshot (before ++ more)
damaged-start body before more begun kind lacks =
    subst (λ (t : List ℕ). LacksSnapshot t) (cut before more body begun)
    (lacks-snapshot (size_of body) (front_bytes body.reader ++ more) begun.fits
    (subst (λ (b : Bool). LacksBody b (size_of body) (front_bytes body.reader ++ more)) kind lacks))

-- the snapshot of a part whose rows were read, and then its end
pub snapshot-start : (body mid : OpenBody) (before taken1 taken2 rest : List ℕ) (s : SnapshotValue) (next : ℕ) → IsBegun before body → HasRead body mid taken1
    → HasBody SpellSnapshot s mid taken2 → next ≡ length before + length (taken1 ++ taken2) → HasSnapshot (before ++ ((taken1 ++ taken2) ++ rest)) s next
snapshot-start body mid before taken1 taken2 rest s next begun has whole is =
    let b = whole.body in
    let size : size_of body ≡ length b =
    omega (arith, whole.size, ap length has.bytes, length-append (front_bytes body.reader) taken1, has.left) in
    let bytes : front_bytes body.reader ++ (taken1 ++ taken2) ≡ b ++ sha256 b =
    sym (append_assoc (front_bytes body.reader) taken1 taken2) ∙ ap (λ (t : List ℕ). t ++ taken2) (sym has.bytes) ∙ whole.bytes in
    let all : open_gate ∷ (part_bytes b ++ rest) ≡ before ++ ((taken1 ++ taken2) ++ rest) =
    ap (λ (t : List ℕ). open_gate ∷ t) (append_assoc (eight_bytes (length b)) (b ++ sha256 b) rest)
    ∙ ap (λ (t : List ℕ). (open_gate ∷ eight_bytes (length b)) ++ (t ++ rest)) (sym bytes)
    ∙ ap (λ (t : List ℕ). (open_gate ∷ eight_bytes (length b)) ++ t) (append_assoc (front_bytes body.reader) (taken1 ++ taken2) rest)
    ∙ ap (λ (n : ℕ). (open_gate ∷ eight_bytes n) ++ (front_bytes body.reader ++ ((taken1 ++ taken2) ++ rest))) (sym size)
    ∙ cut before ((taken1 ++ taken2) ++ rest) body begun in
    let long : next ≡ 1 + length (part_bytes b) =
    omega (
      arith,
      is,
      ap length begun.is,
      ap length bytes,
      length-append (front_bytes body.reader) (taken1 ++ taken2),
      size,
      long-part b,
      long-digested b,
      length-append (eight_bytes (size_of body)) (front_bytes body.reader),
      long-eight (size_of body),
    ) in
    subst (λ (t : List ℕ). HasSnapshot t s next) all (has-snapshot b rest s next (omega (arith, size, begun.fits)) whole.spells long)

-- the number that was read of a body is that of its snapshot
pub own-later : (first mid : Option HeadValue) (number : ℕ) → IfSome first (λ h. mid ≡ Some h) → IfSome mid (λ h. number ≡ h.generation)
    → IfSome (option_map (λ h. h.generation) first) (λ own. number ≡ own)
own-later None mid number kept is = tt
own-later (Some h) mid number kept is = subst (λ (o : Option HeadValue). IfSome o (λ h. number ≡ h.generation)) kept is
