-- What the work of a commit means for the sides before it: which changes leave the old database, and which make the new one.
use Rattle.std.proofs.Common.{◌≡◌, ◌⊎◌, ℕ, ◌+◌, ◌^◌, ◌<◌, ◌≤◌, Bool, true, false, List, [], ◌∷◌, length, Some, None, refl, sym, ◌∙◌, ap, subst, inl, inr, arith, length-append}
use Rattle.ga_summary.specs.Limits.{passes}
use Rattle.ga_summary.specs.SummaryRows.{SummaryValue}
use Rattle.ga_base.specs.Totals.{totals_plus}
use Rattle.ga_summary.specs.Sums.{IsMerged}
use Rattle.ga_codec.specs.Shapes.{SpellDelta, SpellSnapshot}
use Rattle.ga_codec.specs.Values.{EntryValue, SnapshotValue}
use Rattle.ga_disk.specs.Sides.{Sides, of_side, with_side}
use Rattle.ga_store.specs.Commit.{IsGenerationOf, IsLater, IsRecordOf, Makes, Work, closed_part, other_side}
use Rattle.ga_store.specs.Commit.Makes.{by_generation, by_record}
use Rattle.ga_store.specs.Steps.Committing.{SameFront}
use Rattle.ga_store.specs.Database.{DbOf, DbValue, HasSnapshot, ReadsOn, TakesOn, YieldsTo, of_snapshot, with_last_days}
use Rattle.ga_store.specs.Database.Reading.{stored}
use Rattle.ga_store.specs.Database.ReadsOn.{ends, goes_on}
use Rattle.ga_store.specs.Database.YieldsTo.{closed, older}
use Rattle.ga_store.specs.Database.DbOf.{nothing, chosen0, chosen1}
use Rattle.ga_store.specs.SideParts.{StandsAt, closed_gate, is_open_at, part_bytes}
use Rattle.ga_store.proofs.Fronts.{adds0, adds1, closes0, closes1, sides-stay, stays0, stays1}
use Rattle.ga_store.proofs.OnePart.{one-snapshot}
use Rattle.ga_store.proofs.Torn.{tail-gate, tail-part}

-- work after a gate of a side, from the one database to the other
pub record IsPlanned (n gate : ℕ) (tail : List ℕ) (old new : DbValue) (sides : Sides) : Type 0 where
  pub side : n < 2
  pub reaches : gate ≤ length (of_side n sides)
  pub has : DbOf sides (stored old)
  -- whatever is changed from the gate on, the old database stays where the gate is closed
  pub keeps : (bytes : List ℕ) → SameFront gate (of_side n sides) bytes → is_open_at bytes gate ≡ false → DbOf (with_side n bytes sides) (stored old)
  -- where it is open, and the tail follows it, the new database is there, and the old one isn't
  pub comes : (bytes : List ℕ) → SameFront gate (of_side n sides) bytes → is_open_at bytes gate ≡ true → StandsAt bytes (gate + 1) tail
      → DbOf (with_side n bytes sides) (stored new)
  pub apart : (bytes : List ℕ) → is_open_at bytes gate ≡ true → StandsAt bytes (gate + 1) tail → DbOf (with_side n bytes sides) (stored old) → ⊥

-- ---- slots

-- the gate after the last record is closed, and the side reaches it
slot-closed : {number : ℕ} {side : List ℕ} {db last : DbValue} → ReadsOn number side db (stored last) → is_open_at side last.slot ≡ false
slot-closed (ends gate) = gate
slot-closed (goes_on t on) = slot-closed on

taken-within : {side : List ℕ} {old new : DbValue} → TakesOn side old new → new.slot ≤ length side
taken-within {side} {old} {new} t =
    let slot = ap (λ (d : DbValue). d.slot) t.others in
    omega (arith, t.part.stands.within, slot)

slot-within : {number : ℕ} {side : List ℕ} {db last : DbValue} → db.slot ≤ length side → ReadsOn number side db (stored last) → last.slot ≤ length side
slot-within le (ends gate) = le
slot-within le (goes_on t on) = slot-within (taken-within t) on

snapshot-within : {side : List ℕ} {s : SnapshotValue} {next : ℕ} → HasSnapshot side s next → next ≤ length side
snapshot-within has = let behind = has.behind in omega (arith, has.part.stands.within)

slot0 : {sides : Sides} {db : DbValue} → DbOf sides (stored db) → db.side ≡ Some 0
    → (is_open_at sides.side0 db.slot ≡ false) × (db.slot ≤ length sides.side0)
slot0 (nothing a b) is = cc
slot0 (chosen0 has yields on) is = (slot-closed on, slot-within (snapshot-within has) on)
slot0 (chosen1 has yields on) is = let side = (sides-stay on).0 in cc

slot1 : {sides : Sides} {db : DbValue} → DbOf sides (stored db) → db.side ≡ Some 1
    → (is_open_at sides.side1 db.slot ≡ false) × (db.slot ≤ length sides.side1)
slot1 (nothing a b) is = cc
slot1 (chosen1 has yields on) is = (slot-closed on, slot-within (snapshot-within has) on)
slot1 (chosen0 has yields on) is = let side = (sides-stay on).0 in cc

opposite : (b : Bool) → b ≡ true → b ≡ false → ⊥
opposite true e f = cc
opposite false e f = cc

-- ---- a record

length-closed : (body : List ℕ) → length (closed_part body) ≡ 1 + length (part_bytes body)
length-closed body = omega (arith, length-append (part_bytes body) (closed_gate ∷ []))

-- the database with a record more, whose tail has this length
abbrev with_record : DbValue → SummaryValue → List EntryValue → ℕ → DbValue
with_record old both entries size = record old { summary = both; entries = entries; records = old.records + 1; slot = old.slot + size }

record IsRecord (old : DbValue) (run both : SummaryValue) (entries : List EntryValue) (body : List ℕ) : Type 0 where
  pub size : length body < 2 ^ 64
  pub spells : SpellDelta body (record { summary = run; entries = entries })
  pub limits : passes (totals_plus old.summary.totals run.totals) ≡ None
  pub merges : IsMerged old.summary run both

takes-on : (old : DbValue) (run both : SummaryValue) (entries : List EntryValue) (body side : List ℕ) → IsRecord old run both entries body
    → is_open_at side old.slot ≡ true → StandsAt side (old.slot + 1) (closed_part body)
    → TakesOn side old (with_record old both entries (length (closed_part body)))
takes-on old run both entries body side is gate stands = record {
  gate = gate;
  body = body;
  delta = record { summary = run; entries = entries };
  part = tail-part side body (old.slot + 1) is.size stands;
  spells = is.spells;
  limits = is.limits;
  merged = is.merges;
  others =
      let slot : old.slot + length (closed_part body) ≡ old.slot + 1 + length (part_bytes body) = omega (arith, length-closed body) in
      ap (λ (n : ℕ). let db : DbValue = record old { summary = both; entries = entries; records = old.records + 1; slot = n } in db) slot;
}

next-closed : (old : DbValue) (body side : List ℕ) → StandsAt side (old.slot + 1) (closed_part body) → is_open_at side (old.slot + length (closed_part body)) ≡ false
next-closed old body side stands =
    let slot : old.slot + 1 + length (part_bytes body) ≡ old.slot + length (closed_part body) = omega (arith, length-closed body) in
    subst (λ (n : ℕ). is_open_at side n ≡ false) slot (tail-gate side body (old.slot + 1) stands)

record0 : (old : DbValue) (run both : SummaryValue) (entries : List EntryValue) (body : List ℕ) (sides : Sides) → IsRecord old run both entries body
    → DbOf sides (stored old) → old.side ≡ Some 0
    → IsPlanned 0 old.slot (closed_part body) old (with_last_days (with_record old both entries (length (closed_part body)))) sides
record0 old run both entries body sides is has side = record {
  side = omega arith;
  reaches = (slot0 has side).1;
  has = has;
  keeps = λ bytes front gate. stays0 bytes has side front gate;
  comes = λ bytes front gate stands. adds0 bytes has side front (takes-on old run both entries body bytes is gate stands) (next-closed old body bytes stands);
  apart = λ bytes gate stands still. opposite _ gate (slot0 still side).0;
}

record1 : (old : DbValue) (run both : SummaryValue) (entries : List EntryValue) (body : List ℕ) (sides : Sides) → IsRecord old run both entries body
    → DbOf sides (stored old) → old.side ≡ Some 1
    → IsPlanned 1 old.slot (closed_part body) old (with_last_days (with_record old both entries (length (closed_part body)))) sides
record1 old run both entries body sides is has side = record {
  side = omega arith;
  reaches = (slot1 has side).1;
  has = has;
  keeps = λ bytes front gate. stays1 bytes has side front gate;
  comes = λ bytes front gate stands. adds1 bytes has side front (takes-on old run both entries body bytes is gate stands) (next-closed old body bytes stands);
  apart = λ bytes gate stands still. opposite _ gate (slot1 still side).0;
}

-- ---- a new generation

record IsGeneration (old : DbValue) (s : SnapshotValue) (body : List ℕ) : Type 0 where
  pub size : length body < 2 ^ 64
  pub spells : SpellSnapshot body s
  pub more : s.generation ≡ old.generation + 1

has-snapshot : (old : DbValue) (s : SnapshotValue) (body side : List ℕ) → IsGeneration old s body → is_open_at side 0 ≡ true
    → StandsAt side (0 + 1) (closed_part body) → HasSnapshot side s (length (closed_part body))
has-snapshot old s body side is gate stands = record {
  gate = gate;
  body = body;
  part = tail-part side body 1 is.size stands;
  spells = is.spells;
  behind = length-closed body;
}

behind-closed : (body side : List ℕ) → StandsAt side (0 + 1) (closed_part body) → is_open_at side (length (closed_part body)) ≡ false
behind-closed body side stands = subst (λ (n : ℕ). is_open_at side n ≡ false) (sym (length-closed body)) (tail-gate side body 1 stands)

-- a side with a later generation isn't passed over
not-passed : (old : DbValue) (s : SnapshotValue) (body side : List ℕ) (generation : ℕ) → IsGeneration old s body → is_open_at side 0 ≡ true
    → StandsAt side (0 + 1) (closed_part body) → generation ≡ old.generation → YieldsTo generation side → ⊥
not-passed old s body side generation is gate stands same (closed shut) = opposite _ gate shut
not-passed old s body side generation is gate stands same (older there less) =
    let one = ap (λ (v : SnapshotValue). v.generation) (one-snapshot there (has-snapshot old s body side is gate stands)) in
    let more = is.more in
    omega arith

-- onto side 0, where nothing is stored
first0 : (old : DbValue) (s : SnapshotValue) (body : List ℕ) (sides : Sides) → IsGeneration old s body → DbOf sides (stored old) → old.side ≡ None
    → IsPlanned 0 0 (closed_part body) old (with_last_days (of_snapshot 0 (length (closed_part body)) s)) sides
first0 old s body sides is has side = record {
  side = omega arith;
  reaches = omega arith;
  has = has;
  keeps = λ bytes front gate. keeps-none bytes has side gate;
  comes = λ bytes front gate stands. comes-none bytes has side gate stands;
  apart = λ bytes gate stands still. apart-none bytes still side gate;
}
  where
    keeps-none : {db : DbValue} (bytes : List ℕ) → DbOf sides (stored db) → db.side ≡ None → is_open_at bytes 0 ≡ false
        → DbOf (record { side0 = bytes; side1 = sides.side1 }) (stored db)
    keeps-none bytes (nothing a b) none gate = nothing gate b
    keeps-none bytes (chosen0 has yields on) none gate = let side = (sides-stay on).0 in cc
    keeps-none bytes (chosen1 has yields on) none gate = let side = (sides-stay on).0 in cc

    comes-none : {db : DbValue} (bytes : List ℕ) → DbOf sides (stored db) → db.side ≡ None → is_open_at bytes 0 ≡ true → StandsAt bytes (0 + 1) (closed_part body)
        → DbOf (record { side0 = bytes; side1 = sides.side1 }) (stored (with_last_days (of_snapshot 0 (length (closed_part body)) s)))
    comes-none bytes (nothing a b) none gate stands =
        chosen0 (has-snapshot old s body bytes is gate stands) (closed b) (ends (behind-closed body bytes stands))
    comes-none bytes (chosen0 has yields on) none gate stands = let side = (sides-stay on).0 in cc
    comes-none bytes (chosen1 has yields on) none gate stands = let side = (sides-stay on).0 in cc

    apart-none : {db : DbValue} (bytes : List ℕ) → DbOf (record { side0 = bytes; side1 = sides.side1 }) (stored db) → db.side ≡ None → is_open_at bytes 0 ≡ true → ⊥
    apart-none bytes (nothing a b) none gate = opposite _ gate a
    apart-none bytes (chosen0 has yields on) none gate = let side = (sides-stay on).0 in cc
    apart-none bytes (chosen1 has yields on) none gate = let side = (sides-stay on).0 in cc

-- onto side 0, where side 1 is chosen
next0 : (old : DbValue) (s : SnapshotValue) (body : List ℕ) (sides : Sides) → IsGeneration old s body → DbOf sides (stored old) → old.side ≡ Some 1
    → IsPlanned 0 0 (closed_part body) old (with_last_days (of_snapshot 0 (length (closed_part body)) s)) sides
next0 old s body sides is has side = record {
  side = omega arith;
  reaches = omega arith;
  has = has;
  keeps = λ bytes front gate. closes0 bytes has side gate;
  comes = λ bytes front gate stands. comes-over bytes has side refl gate stands;
  apart = λ bytes gate stands still. apart-over bytes still side refl gate stands;
}
  where
    comes-over : {db : DbValue} (bytes : List ℕ) → DbOf sides (stored db) → db.side ≡ Some 1 → db.generation ≡ old.generation → is_open_at bytes 0 ≡ true
        → StandsAt bytes (0 + 1) (closed_part body) → DbOf (record { side0 = bytes; side1 = sides.side1 }) (stored (with_last_days (of_snapshot 0 (length (closed_part body)) s)))
    comes-over bytes (nothing a b) chosen same gate stands = cc
    comes-over bytes (chosen0 has yields on) chosen same gate stands = let side = (sides-stay on).0 in cc
    comes-over bytes (chosen1 {snapshot} has yields on) chosen same gate stands =
        let before = (sides-stay on).1 in
        let more = is.more in
        let less : snapshot.generation < s.generation = omega arith in
        chosen0 (has-snapshot old s body bytes is gate stands) (older has less) (ends (behind-closed body bytes stands))

    apart-over : {db : DbValue} (bytes : List ℕ) → DbOf (record { side0 = bytes; side1 = sides.side1 }) (stored db) → db.side ≡ Some 1 → db.generation ≡ old.generation
        → is_open_at bytes 0 ≡ true → StandsAt bytes (0 + 1) (closed_part body) → ⊥
    apart-over bytes (nothing a b) chosen same gate stands = opposite _ gate a
    apart-over bytes (chosen0 has yields on) chosen same gate stands = let side = (sides-stay on).0 in cc
    apart-over bytes (chosen1 has yields on) chosen same gate stands =
        let before = (sides-stay on).1 in
        not-passed old s body bytes _ is gate stands (sym before ∙ same) yields

-- onto side 1, where side 0 is chosen
next1 : (old : DbValue) (s : SnapshotValue) (body : List ℕ) (sides : Sides) → IsGeneration old s body → DbOf sides (stored old) → old.side ≡ Some 0
    → IsPlanned 1 0 (closed_part body) old (with_last_days (of_snapshot 1 (length (closed_part body)) s)) sides
next1 old s body sides is has side = record {
  side = omega arith;
  reaches = omega arith;
  has = has;
  keeps = λ bytes front gate. closes1 bytes has side gate;
  comes = λ bytes front gate stands. comes-over bytes has side refl gate stands;
  apart = λ bytes gate stands still. apart-over bytes still side refl gate stands;
}
  where
    comes-over : {db : DbValue} (bytes : List ℕ) → DbOf sides (stored db) → db.side ≡ Some 0 → db.generation ≡ old.generation → is_open_at bytes 0 ≡ true
        → StandsAt bytes (0 + 1) (closed_part body) → DbOf (record { side0 = sides.side0; side1 = bytes }) (stored (with_last_days (of_snapshot 1 (length (closed_part body)) s)))
    comes-over bytes (nothing a b) chosen same gate stands = cc
    comes-over bytes (chosen1 has yields on) chosen same gate stands = let side = (sides-stay on).0 in cc
    comes-over bytes (chosen0 {snapshot} has yields on) chosen same gate stands =
        let before = (sides-stay on).1 in
        let more = is.more in
        let less : snapshot.generation < s.generation = omega arith in
        chosen1 (has-snapshot old s body bytes is gate stands) (older has less) (ends (behind-closed body bytes stands))

    apart-over : {db : DbValue} (bytes : List ℕ) → DbOf (record { side0 = sides.side0; side1 = bytes }) (stored db) → db.side ≡ Some 0 → db.generation ≡ old.generation
        → is_open_at bytes 0 ≡ true → StandsAt bytes (0 + 1) (closed_part body) → ⊥
    apart-over bytes (nothing a b) chosen same gate stands = opposite _ gate b
    apart-over bytes (chosen1 has yields on) chosen same gate stands = let side = (sides-stay on).0 in cc
    apart-over bytes (chosen0 has yields on) chosen same gate stands =
        let before = (sides-stay on).1 in
        not-passed old s body bytes _ is gate stands (sym before ∙ same) yields

-- ---- the work

-- the side of a stored database is none, 0 or 1
which : {sides : Sides} {db : DbValue} → DbOf sides (stored db) → (db.side ≡ None) ⊎ ((db.side ≡ Some 0) ⊎ (db.side ≡ Some 1))
which (nothing a b) = inl refl
which (chosen0 has yields on) = inr (inl (sides-stay on).0)
which (chosen1 has yields on) = inr (inr (sides-stay on).0)

some-same : (a b : ℕ) → Some a ≡ Some b → a ≡ b
some-same a b e = cc

plan-record : (work : Work) (old : DbValue) (run both : SummaryValue) (entries : List EntryValue) (sides : Sides) → DbOf sides (stored old)
    → (r : IsRecordOf old run entries work) → IsRecord old run both entries r.body
    → IsPlanned work.side work.gate work.tail old (with_last_days (with_record old both entries (length work.tail))) sides
plan-record work old run both entries sides has r is = by-side (which has)
  where
    onto : (n : ℕ) → n ≡ work.side → IsPlanned n old.slot (closed_part r.body) old (with_last_days (with_record old both entries (length (closed_part r.body)))) sides
        → IsPlanned work.side work.gate work.tail old (with_last_days (with_record old both entries (length work.tail))) sides
    onto n same plan =
        let a = subst (λ (t : List ℕ). IsPlanned n old.slot t old (with_last_days (with_record old both entries (length t))) sides) (sym r.tail) plan in
        let b = subst (λ (g : ℕ). IsPlanned n g work.tail old (with_last_days (with_record old both entries (length work.tail))) sides) (sym r.gate) a in
        subst (λ (m : ℕ). IsPlanned m work.gate work.tail old (with_last_days (with_record old both entries (length work.tail))) sides) same b

    by-side : (old.side ≡ None) ⊎ ((old.side ≡ Some 0) ⊎ (old.side ≡ Some 1))
        → IsPlanned work.side work.gate work.tail old (with_last_days (with_record old both entries (length work.tail))) sides
    by-side (inl none) = let side = r.side in cc
    by-side (inr (inl zero)) = onto 0 (some-same 0 work.side (sym zero ∙ r.side)) (record0 old run both entries r.body sides is has zero)
    by-side (inr (inr one)) = onto 1 (some-same 1 work.side (sym one ∙ r.side)) (record1 old run both entries r.body sides is has one)

plan-generation : (work : Work) (old : DbValue) (keep : ℕ) (merged : SummaryValue) (entries : List EntryValue) (sides : Sides) → DbOf sides (stored old)
    → IsGenerationOf old keep merged entries work
    → IsPlanned work.side work.gate work.tail old
    (with_last_days (of_snapshot work.side (length work.tail) (record { generation = old.generation + 1; keep = Some keep; summary = merged; entries = entries }))) sides
plan-generation work old keep merged entries sides has r = by-side (which has)
  where
    s : SnapshotValue
    s = record { generation = old.generation + 1; keep = Some keep; summary = merged; entries = entries }

    is : IsGeneration old (record { generation = old.generation + 1; keep = Some keep; summary = merged; entries = entries }) r.body
    is = record { size = r.size; spells = r.spells; more = refl }

    onto : (n : ℕ) → other_side old.side ≡ n
        → IsPlanned n 0 (closed_part r.body) old
        (with_last_days (of_snapshot n (length (closed_part r.body)) (record { generation = old.generation + 1; keep = Some keep; summary = merged; entries = entries }))) sides
        → IsPlanned work.side work.gate work.tail old
        (with_last_days (of_snapshot work.side (length work.tail) (record { generation = old.generation + 1; keep = Some keep; summary = merged; entries = entries }))) sides
    onto n same plan =
        let v : SnapshotValue = record { generation = old.generation + 1; keep = Some keep; summary = merged; entries = entries } in
        let a = subst (λ (t : List ℕ). IsPlanned n 0 t old (with_last_days (of_snapshot n (length t) v)) sides) (sym r.tail) plan in
        let b = subst (λ (g : ℕ). IsPlanned n g work.tail old (with_last_days (of_snapshot n (length work.tail) v)) sides) (sym r.gate) a in
        subst (λ (m : ℕ). IsPlanned m work.gate work.tail old (with_last_days (of_snapshot m (length work.tail) v)) sides) (sym (r.side ∙ same)) b

    by-side : (old.side ≡ None) ⊎ ((old.side ≡ Some 0) ⊎ (old.side ≡ Some 1))
        → IsPlanned work.side work.gate work.tail old
        (with_last_days (of_snapshot work.side (length work.tail) (record { generation = old.generation + 1; keep = Some keep; summary = merged; entries = entries }))) sides
    by-side (inl none) = onto 0 (ap other_side none) (first0 old _ r.body sides is has none)
    by-side (inr (inl zero)) = onto 1 (ap other_side zero) (next1 old _ r.body sides is has zero)
    by-side (inr (inr one)) = onto 0 (ap other_side one) (next0 old _ r.body sides is has one)

pub planned : (work : Work) (old new : DbValue) (sides : Sides) → DbOf sides (stored old) → Makes work old new
    → IsPlanned work.side work.gate work.tail old new sides
planned work old _ sides has (by_record {run} {both} {entries} r limits merges) =
    plan-record work old run both entries sides has r (record { size = r.size; spells = r.spells; limits = limits; merges = merges })
planned work old _ sides has (by_generation {keep} {merged} {entries} r) = plan-generation work old keep merged entries sides has r

pub is-later : (work : Work) (old new : DbValue) → Makes work old new → IsLater old new
is-later work old _ (by_record r limits both) = inr (refl, omega arith)
is-later work old _ (by_generation r) = inl (omega arith)
