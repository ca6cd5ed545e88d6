-- Run records that are taken off a side.
use Rattle.std.proofs.Common.{◌≡◌, ℕ, ◌+◌, ◌<◌, ◌≤◌, ◌^◌, ◌&&◌, ◌==◌, nat_lt, Bool, true, false, List, [], ◌∷◌, ◌++◌, length, get_or, Option, Some, None, refl, sym, ap, ◌∙◌, subst, arith, append_assoc, length-append}
use Rattle.std.proofs.Math.Seq.{drop-append_seam}
use Rattle.std.proofs.lemmas.List.{append-nil, get_or-append-add}
use Rattle.std.proofs.lemmas.Bool.Decides.{nat_tests}
use Rattle.std.specs.Prelude.{slice_index}
use Rattle.sha2.specs.Sha256.{sha256}
use Rattle.ga_base.specs.Totals.{totals_plus}
use Rattle.ga_summary.specs.Limits.{passes}
use Rattle.ga_summary.specs.Sums.{IsMerged}
use Rattle.ga_codec.specs.Pieces.{BodyFront, front_bytes}
use Rattle.ga_codec.specs.Shapes.{SpellDelta}
use Rattle.ga_codec.specs.Spelling.{eight_bytes}
use Rattle.ga_codec.specs.Values.{delta_value}
use Rattle.ga_codec.specs.declared.snapshot.Delta.{Delta}
use Rattle.ga_disk.specs.Disk.{DiskView}
use Rattle.ga_disk.specs.Images.{Images}
use Rattle.ga_disk.specs.Sides.{Sides}
use Rattle.ga_store.specs.Database.{DbValue, Reading, ReadsOn, with_last_days}
use Rattle.ga_store.specs.Database.Reading.{damaged, stored}
use Rattle.ga_store.specs.Database.ReadsOn.{breaks, ends, goes_on}
use Rattle.ga_store.specs.SideParts.{IsPartAt, StandsAt, is_open_at, open_gate, part_bytes}
use Rattle.ga_store.specs.Steps.Bodies.{HasBody, HasRead, LacksBody, SaysDelta, size_of}
use Rattle.ga_store.specs.Steps.Records.{BehindGate, HasDelta, SaysDelta as SaysRecordDelta, SaysRecord, TakesDelta, TookRecord}
use Rattle.ga_store.specs.Steps.Recovery.{HasRecord, LacksRecord}
use Rattle.ga_store.specs.Steps.SideParts.{HasSize, SaysGate, SaysSize}
use Rattle.ga_store.specs.Steps.Stream.{IsAt, IsRest, StreamView, Took, TookOff, place}
use Rattle.ga_store.specs.declared.body_reading.OpenBody.{OpenBody}
use Rattle.ga_store.proofs.RecoverParts.{long-part, stands-behind, stands-from}
use Rattle.ga_store.proofs.RecoverRecords.{OneDelta, lacking, taken-on, too-much}
use Rattle.ga_store.proofs.RecoverDisk.{CountsNow}
use Rattle.ga_store.proofs.Streaming.{took-as, took-then}
use Rattle.ga_store.proofs.TakenParts.{part-stands, size-only}

-- ---- a record is taken

-- of a run record nothing was read yet
abbrev pub fresh : BodyFront
fresh = record { is_snapshot = false; head = None; rows = [] }

-- no body with its digest follows, so no record is there
pub lacks-record : (gate size : ℕ) (rest : List ℕ) → size < 2 ^ 64 → LacksBody false size rest → LacksRecord ((gate ∷ eight_bytes size) ++ rest) 0
lacks-record gate size rest fits lacks = λ body delta part spells.
    let h = size-only gate size rest body fits part in
    lacks body h.1.0 h.0 h.1.1 delta spells

lacks-as : (kind : Bool) (size size' : ℕ) (bytes bytes' : List ℕ) → kind ≡ false → size ≡ size' → bytes ≡ bytes' → LacksBody kind size bytes → LacksBody false size' bytes'
lacks-as kind size size' bytes bytes' a b c h = subst (λ (p : Bool × ℕ × List ℕ). LacksBody p.0 p.1 p.2) (λ i. (a i, b i, c i)) h

module _ (s : StreamView) (start : OpenBody) (size : ℕ) (front : List ℕ) (is : start.reader ≡ fresh) (sized : start.left ≡ size) (has : HasSize s size front) where
  none-read : front_bytes start.reader ≡ []
  none-read = ap front_bytes is

  size-start : size_of start ≡ size
  unfolding none-read
  size-start = omega (arith, ap (λ (t : List ℕ). length t) none-read, sized)

  -- the rows that follow are none of a body
  pub rows-lack : (taken rest : List ℕ) → LacksBody start.reader.is_snapshot (size_of start) (front_bytes start.reader ++ (taken ++ rest))
      → LacksRecord ((front ++ taken) ++ rest) 0
  rows-lack taken rest lacks =
      let none = lacks-as start.reader.is_snapshot (size_of start) size (front_bytes start.reader ++ (taken ++ rest)) (taken ++ rest)
      (ap (λ (r : BodyFront). r.is_snapshot) is) size-start (ap (λ (t : List ℕ). t ++ (taken ++ rest)) none-read) lacks in
      subst (λ (side : List ℕ). LacksRecord side 0) (ap (λ (t : List ℕ). t ++ (taken ++ rest)) (sym has.is) ∙ sym (append_assoc front taken rest))
      (lacks-record has.gate size (taken ++ rest) has.fits none)

  module _ (end : OpenBody) (taken : List ℕ) (read : HasRead start end taken) where
    rows-read : front_bytes end.reader ≡ taken
    rows-read = read.bytes ∙ ap (λ (t : List ℕ). t ++ taken) none-read

    size-end : size_of end ≡ size
    size-end = omega (arith, ap (λ (t : List ℕ). length t) rows-read, read.left, sized)

    -- what follows the rows is no end of a body
    pub end-lacks : (more rest : List ℕ) → LacksBody false (size_of end) (front_bytes end.reader ++ (more ++ rest)) → LacksRecord (((front ++ taken) ++ more) ++ rest) 0
    end-lacks more rest lacks =
        let none = lacks-as false (size_of end) size (front_bytes end.reader ++ (more ++ rest)) (taken ++ (more ++ rest))
        refl size-end (ap (λ (t : List ℕ). t ++ (more ++ rest)) rows-read) lacks in
        let all : (has.gate ∷ eight_bytes size) ++ (taken ++ (more ++ rest)) ≡ ((front ++ taken) ++ more) ++ rest =
        ap (λ (t : List ℕ). t ++ (taken ++ (more ++ rest))) (sym has.is) ∙ sym (append_assoc front taken (more ++ rest)) ∙ sym (append_assoc (front ++ taken) more rest) in
        subst (λ (side : List ℕ). LacksRecord side 0) all (lacks-record has.gate size (taken ++ (more ++ rest)) has.fits none)

    -- it is
    pub end-has : (delta : Delta) (more : List ℕ) → HasBody SpellDelta (delta_value delta) end more → HasDelta delta ((front ++ taken) ++ more)
    end-has delta more has_body =
        let digested : List ℕ = has_body.body ++ sha256 has_body.body in
        let long : size ≡ length has_body.body = sym size-end ∙ sym has_body.size in
        let bytes : taken ++ more ≡ digested = ap (λ (t : List ℕ). t ++ more) (sym rows-read) ∙ has_body.bytes in
        record {
          body = has_body.body;
          gate = has.gate;
          bytes = append_assoc front taken more ∙ ap (λ (t : List ℕ). t ++ (taken ++ more)) has.is
              ∙ ap (λ (t : List ℕ). (has.gate ∷ eight_bytes size) ++ t) bytes ∙ ap (λ (n : ℕ). (has.gate ∷ eight_bytes n) ++ digested) long;
          spells = has_body.spells;
        }

    -- what is said of the end of the body is said of the record
    pub record-says : (s' : StreamView) (delta : Option Delta) (more : List ℕ) → SaysDelta s' end delta more
        → SaysRecordDelta s' delta ((front ++ taken) ++ more)
    record-says s' (Some delta) more says = end-has delta more says
    record-says s' None more says = λ rest is. end-lacks more rest (says rest is)

-- ---- a record behind others

lt-behind : (n k : ℕ) → nat_lt (n + 1) (n + k) ≡ nat_lt 1 k
lt-behind n k = grind (arith, nat_tests)

pub gate-behind : (before bytes : List ℕ) (slot : ℕ) → length before ≡ slot → is_open_at (before ++ bytes) slot ≡ is_open_at bytes 0
unfolding lt-behind
gate-behind before bytes slot long =
    let more : nat_lt (length before + 1) (length (before ++ bytes)) ≡ nat_lt 1 (length bytes) =
    ap (λ (n : ℕ). nat_lt (length before + 1) n) (length-append before bytes) ∙ lt-behind (length before) (length bytes) in
    let zero_more : length before ≡ length before + 0 = omega arith in
    let byte : slice_index (before ++ bytes) (length before) ≡ slice_index bytes 0 =
    ap (λ (n : ℕ). get_or (before ++ bytes) n 0) zero_more ∙ get_or-append-add before bytes 0 0 in
    ap (λ (n : ℕ). is_open_at (before ++ bytes) n) (sym long) ∙ ap (λ (p : Bool × ℕ). p.0 && (p.1 == open_gate)) (λ i. (more i, byte i))

part-at : (before bytes : List ℕ) (slot : ℕ) → length before ≡ slot → (body : List ℕ) → IsPartAt bytes 1 body → IsPartAt (before ++ bytes) (slot + 1) body
part-at before bytes slot long body part = record {
  size = part.size;
  stands = stands-behind (before ++ bytes) (part_bytes body) 1 (length before) (slot + 1) (omega (arith, long)) (omega (arith, length-append before bytes))
      (subst (λ (b : List ℕ). StandsAt b 1 (part_bytes body)) (sym (drop-append_seam before bytes)) part.stands);
}

part-from : (before bytes : List ℕ) (slot : ℕ) → length before ≡ slot → (body : List ℕ) → IsPartAt (before ++ bytes) (slot + 1) body → IsPartAt bytes 1 body
part-from before bytes slot long body part = record {
  size = part.size;
  stands = subst (λ (b : List ℕ). StandsAt b 1 (part_bytes body)) (drop-append_seam before bytes)
      (stands-from (before ++ bytes) (part_bytes body) 1 (length before) (slot + 1) (omega (arith, long)) (omega (arith, length-append before bytes)) part.stands);
}

has-record : {delta : Delta} {taken : List ℕ} (before rest : List ℕ) (slot next : ℕ) → length before ≡ slot → HasDelta delta taken → next ≡ slot + length taken → next < 2 ^ 64
    → HasRecord (before ++ (taken ++ rest)) slot (delta_value delta) next
unfolding part-at
has-record {taken = taken} before rest slot next long has is fits =
    let size : length taken ≡ length has.body + 41 = omega (arith, ap (λ (t : List ℕ). length t) has.bytes, long-part has.body) in
    let part : IsPartAt (taken ++ rest) 1 has.body =
    subst (λ (side : List ℕ). IsPartAt side 1 has.body) (ap (λ (t : List ℕ). t ++ rest) (sym has.bytes)) (part-stands has.gate has.body rest (omega (arith, size, is, fits))) in
    record {
      body = has.body;
      part = part-at before (taken ++ rest) slot long has.body part;
      spells = has.spells;
      behind = omega (arith, is, size, long-part has.body);
    }

-- no record that is taken on, since none is there
pub lacks-says : (s : StreamView) (old new : DbValue) (taken : List ℕ) → ((rest : List ℕ) → IsRest s rest → LacksRecord (taken ++ rest) 0)
    → SaysRecord s old new false taken
unfolding part-from
lacks-says s old new taken lacks = λ before rest long is next.
    lacking (λ body delta part spells. lacks rest is body delta (part-from before (taken ++ rest) old.slot long body part) spells)

-- a run record was taken behind a gate
pub record Behind (seen : Option Sides) (s s' : StreamView) (slot : ℕ) (delta : Delta) (taken : List ℕ) (next : ℕ) : Type 0 where
  pub gate : BehindGate s
  pub at : IsAt s slot
  pub off : TookOff seen s s' taken
  pub has : HasDelta delta taken
  pub next_is : next ≡ place s'
  pub fits : next < 2 ^ 64

next-is : {seen : Option Sides} {s s' : StreamView} {slot : ℕ} {delta : Delta} {taken : List ℕ} {next : ℕ} → Behind seen s s' slot delta taken next → next ≡ slot + length taken
next-is b = omega (arith, b.at, b.off.long, b.off.size, b.next_is)

fills-says : {seen : Option Sides} {s s' : StreamView} {delta : Delta} {taken : List ℕ} {next : ℕ} (old new : DbValue) → OneDelta
    → Behind seen s s' old.slot delta taken next → (passes (totals_plus old.summary.totals (delta_value delta).summary.totals) ≡ None → ⊥) → SaysRecord s' old new false taken
unfolding next-is has-record
fills-says {delta = delta} {taken = taken} {next = next} old new law b full = λ before rest long is other.
    too-much law (before ++ (taken ++ rest)) old other (delta_value delta) next (has-record before rest old.slot next long b.has (next-is b) b.fits) full

took-says : {seen : Option Sides} {s s' : StreamView} {delta : Delta} {taken : List ℕ} {next : ℕ} (old new : DbValue) → old.records ≤ old.slot
    → Behind seen s s' old.slot delta taken next → passes (totals_plus old.summary.totals (delta_value delta).summary.totals) ≡ None
    → IsMerged old.summary (delta_value delta).summary new.summary
    → new ≡ record old { summary = new.summary; entries = (delta_value delta).entries; records = old.records + 1; slot = next } → TookRecord s' old new taken
unfolding next-is has-record
took-says {s' = s'} {delta = delta} {taken = taken} {next = next} old new few b limits merged others =
    let size : length taken ≡ length b.has.body + 41 = omega (arith, ap (λ (t : List ℕ). length t) b.has.bytes, long-part b.has.body) in
    let slot : new.slot ≡ next = ap (λ (d : DbValue). d.slot) others in
    let records : new.records ≡ old.records + 1 = ap (λ (d : DbValue). d.records) others in
    let is_next : next ≡ old.slot + length taken = next-is b in
    record {
      takes_on = λ before rest long is.
          taken-on (before ++ (taken ++ rest)) old new (delta_value delta) next
          (gate-behind before (taken ++ rest) old.slot long ∙ b.gate.gate (taken ++ rest) (b.off.rest rest is))
          (has-record before rest old.slot next long b.has is_next b.fits) limits merged others;
      place = omega (arith, slot, is_next, b.at, b.off.long, b.off.size);
      few = omega (arith, few, slot, records, is_next, size);
      some = omega (arith, size);
    }

-- a record that was found is taken on, or isn't
pub takes-says : {seen : Option Sides} {s s' : StreamView} {delta : Delta} {taken : List ℕ} {next : ℕ} (old new : DbValue) (is_taken : Bool) → OneDelta → old.records ≤ old.slot
    → Behind seen s s' old.slot delta taken next → TakesDelta old new (delta_value delta) next is_taken → SaysRecord s' old new is_taken taken
takes-says old new true law few b took = took-says old new few b took.limits took.merged took.others
takes-says old new false law few b full = fills-says old new law b full

-- no part is there at all
pub size-none : (s : StreamView) (size : Option ℕ) (taken : List ℕ) → size ≡ None → SaysSize s size taken → SaysRecordDelta s None taken
size-none s size taken is says =
    let none = subst (λ (o : Option ℕ). SaysSize s o taken) is says in
    λ rest rest_is body delta part spells. none rest rest_is body part

-- ---- one record after the other

-- nothing was taken
pub off-still : {seen : Option Sides} {s s' : StreamView} {taken : List ℕ} → taken ≡ [] → TookOff seen s s' taken → TookOff seen s s' []
off-still {seen} {s} {s'} none off = subst (λ (t : List ℕ). TookOff seen s s' t) none off

pub took-still : {old mid new : DiskView} {images images' images'' : Images} {a b c : StreamView} (xs ys : List ℕ) → ys ≡ [] → CountsNow images
    → Took old mid images images' a b xs → Took mid new images' images'' b c ys → Took old new images images'' a c xs
took-still xs ys none law first second = took-as (xs ++ ys) xs (ap (λ (t : List ℕ). xs ++ t) none ∙ append-nil xs) (took-then law first second)

-- an open gate comes next
pub gate-next : (s : StreamView) (is_open : Bool) (taken : List ℕ) → is_open ≡ true → SaysGate s is_open taken → BehindGate s
gate-next s is_open taken is says = record { window = says.window is; gate = λ rest rest_is. says.says rest rest_is ∙ is }

-- records were taken on, with these bytes
pub record OnFrom (number : ℕ) (s : StreamView) (start db : DbValue) (taken : List ℕ) : Type 0 where
  pub slot : db.slot ≡ start.slot + length taken
  pub place : IsAt s db.slot
  pub few : db.records ≤ db.slot
  pub says : (before rest : List ℕ) → length before ≡ start.slot → IsRest s rest → (reading : Reading) → ReadsOn number (before ++ (taken ++ rest)) db reading
      → ReadsOn number (before ++ (taken ++ rest)) start reading

pub on-none : (number : ℕ) (s : StreamView) (start : DbValue) → IsAt s start.slot → start.records ≤ start.slot → OnFrom number s start start []
on-none number s start at few = record { slot = omega arith; place = at; few = few; says = λ before rest long is reading on. on }

module _ {seen : Option Sides} {number : ℕ} {s s' : StreamView} {start db : DbValue} {taken : List ℕ} (on : OnFrom number s start db taken) (still : TookOff seen s s' []) where
  on-long : (before : List ℕ) → length before ≡ start.slot → length (before ++ taken) ≡ db.slot
  on-long before long = omega (arith, on.slot, long, length-append before taken)

  -- the gate after them is closed
  pub on-ends : (reading : Reading) → reading ≡ stored (with_last_days db) → ((rest : List ℕ) → IsRest s' rest → is_open_at rest 0 ≡ false) → (before rest : List ℕ)
      → length before ≡ start.slot → IsRest s' rest → ReadsOn number (before ++ (taken ++ rest)) start reading
  unfolding on-long
  on-ends reading is gate before rest long rest_is =
      let side : (before ++ taken) ++ rest ≡ before ++ (taken ++ rest) = append_assoc before taken rest in
      let closed : is_open_at (before ++ (taken ++ rest)) db.slot ≡ false =
      ap (λ (t : List ℕ). is_open_at t db.slot) (sym side) ∙ gate-behind (before ++ taken) rest db.slot (on-long before long) ∙ gate rest rest_is in
      subst (λ (r : Reading). ReadsOn number (before ++ (taken ++ rest)) start r) (sym is)
      (on.says before rest long (still.rest rest rest_is) (stored (with_last_days db)) (ends closed))

  module _ {seen' : Option Sides} {s'' : StreamView} {more : List ℕ} (off : TookOff seen' s' s'' more) where
    on-side : (before rest : List ℕ) → (before ++ taken) ++ (more ++ rest) ≡ before ++ ((taken ++ more) ++ rest)
    on-side before rest = append_assoc before taken (more ++ rest) ∙ ap (λ (t : List ℕ). before ++ t) (sym (append_assoc taken more rest))

    on-says : (before rest : List ℕ) → length before ≡ start.slot → IsRest s'' rest → (reading : Reading) → ReadsOn number ((before ++ taken) ++ (more ++ rest)) db reading
        → ReadsOn number (before ++ ((taken ++ more) ++ rest)) start reading
    unfolding on-side
    on-says before rest long is reading reads =
        subst (λ (side : List ℕ). ReadsOn number side start reading) (ap (λ (t : List ℕ). before ++ t) (sym (append_assoc taken more rest)))
        (on.says before (more ++ rest) long (still.rest (more ++ rest) (off.rest rest is)) reading
        (subst (λ (side : List ℕ). ReadsOn number side db reading) (append_assoc before taken (more ++ rest)) reads))

    -- the record after them is taken on
    pub on-then : (new : DbValue) → TookRecord s'' db new more → OnFrom number s'' start new (taken ++ more)
    unfolding on-long on-says
    on-then new record_taken = record {
      slot = omega (arith, on.slot, on.place, record_taken.place, still.long, still.size, off.long, off.size, length-append taken more);
      place = record_taken.place;
      few = record_taken.few;
      says = λ before rest long is reading reads.
          on-says before rest long is reading
          (goes_on (record_taken.takes_on (before ++ taken) rest (on-long before long) is)
          (subst (λ (side : List ℕ). ReadsOn number side new reading) (sym (on-side before rest)) reads));
    }

    -- it isn't
    pub on-breaks : (reading : Reading) (at : ℕ) (new : DbValue) → reading ≡ damaged number at → at ≡ db.slot + 1 → BehindGate s' → SaysRecord s'' db new false more
        → (before rest : List ℕ) → length before ≡ start.slot → IsRest s'' rest → ReadsOn number (before ++ ((taken ++ more) ++ rest)) start reading
    unfolding on-long on-says
    on-breaks reading at new is at_is gate none before rest long rest_is =
        let is_open : is_open_at ((before ++ taken) ++ (more ++ rest)) db.slot ≡ true =
        gate-behind (before ++ taken) (more ++ rest) db.slot (on-long before long) ∙ gate.gate (more ++ rest) (off.rest rest rest_is) in
        subst (λ (r : Reading). ReadsOn number (before ++ ((taken ++ more) ++ rest)) start r) (sym (is ∙ ap (λ (n : ℕ). damaged number n) at_is))
        (on-says before rest long rest_is (damaged number (db.slot + 1)) (breaks is_open (none (before ++ taken) rest (on-long before long) rest_is)))
