-- What a side says depends on its bytes up to the first closed gate alone.
use Rattle.std.proofs.Common.{◌≡◌, ℕ, ◌+◌, ◌<◌, ◌≤◌, ◌==◌, ◌&&◌, Bool, true, false, List, ◌++◌, length, get_or, take, drop, nat_lt, refl, sym, ◌∙◌, ap, arith, Some, length-append}
use Rattle.std.proofs.lemmas.Bool.Decides.{nat_tests}
use Rattle.std.proofs.lemmas.List.{drop-take, get_or-take, take-take}
use Rattle.sha2.specs.Sha256.{sha256}
use Rattle.ga_codec.specs.Spelling.{eight_bytes}
use Rattle.ga_codec.specs.Values.{SnapshotValue}
use Rattle.ga_disk.specs.Sides.{Sides}
use Rattle.ga_store.specs.Steps.Committing.{SameFront}
use Rattle.ga_store.specs.SideParts.{IsPartAt, StandsAt, is_open_at, open_gate, part_bytes}
use Rattle.ga_summary.specs.Sound.{IsSummary}
use Rattle.ga_store.specs.Database.{DbOf, DbValue, HasSnapshot, ReadsOn, TakesOn, with_last_days}
use Rattle.ga_store.specs.Database.Reading.{stored}
use Rattle.ga_store.specs.Database.ReadsOn.{ends, goes_on}
use Rattle.ga_store.specs.Database.YieldsTo.{closed}
use Rattle.ga_store.specs.Database.DbOf.{nothing, chosen0, chosen1}
use Rattle.ga_store.proofs.TrimmedRecords.{adds-more, good-next}

-- a shorter front is the same too
taken : (k n : ℕ) (old new : List ℕ) → k ≤ n → take n new ≡ take n old → take k new ≡ take k old
taken k n old new le same = sym (take-take k n new le) ∙ ap (λ (b : List ℕ). take k b) same ∙ take-take k n old le

byte-same : (n i : ℕ) (old new : List ℕ) → i < n → SameFront n old new → get_or new i 0 ≡ get_or old i 0
byte-same n i old new before front =
    sym (get_or-take n new i 0 before) ∙ ap (λ (b : List ℕ). get_or b i 0) front.same ∙ get_or-take n old i 0 before

open-both : (a b : Bool) → (a && b) ≡ true → (a ≡ true) × (b ≡ true)
open-both true b e = (refl, e)
open-both false b e = cc

and-both : (a b : Bool) → a ≡ true → b ≡ true → (a && b) ≡ true
and-both true b e f = f
and-both false b e f = cc

pub open-same : (n at : ℕ) (old new : List ℕ) → at + 1 < n → SameFront n old new → is_open_at old at ≡ true → is_open_at new at ≡ true
open-same n at old new before front open_there =
    let both = open-both (nat_lt (at + 1) (length old)) _ open_there in
    let here : at < n = omega arith in
    let reaches = front.reaches in
    let goes_on : nat_lt (at + 1) (length new) ≡ true = grind (arith, nat_tests) in
    let byte = byte-same n at old new here front in
    and-both _ _ goes_on (ap (λ (b : ℕ). b == open_gate) byte ∙ both.1)

pub stands-same : (n at : ℕ) (bytes old new : List ℕ) → at + length bytes ≤ n → SameFront n old new → StandsAt old at bytes → StandsAt new at bytes
stands-same n at bytes old new le front stands = record {
  within = omega (arith, front.reaches);
  same = sym (drop-take at (length bytes) new) ∙ ap (λ (b : List ℕ). drop at b) (taken (at + length bytes) n old new le front.same)
      ∙ drop-take at (length bytes) old ∙ stands.same;
}

pub part-same : (n at : ℕ) (body old new : List ℕ) → at + length (part_bytes body) ≤ n → SameFront n old new → IsPartAt old at body → IsPartAt new at body
part-same n at body old new le front part = record { size = part.size; stands = stands-same n at (part_bytes body) old new le front part.stands }

-- a part has bytes
pub part-long : (body : List ℕ) → 8 ≤ length (part_bytes body)
part-long body =
    let number : length (eight_bytes (length body)) ≡ 8 = refl in
    omega (arith, number, length-append (eight_bytes (length body)) body, length-append (eight_bytes (length body) ++ body) (sha256 body))

pub snapshot-same : (n : ℕ) (old new : List ℕ) (s : SnapshotValue) (next : ℕ) → next ≤ n → SameFront n old new → HasSnapshot old s next → HasSnapshot new s next
snapshot-same n old new s next le front has =
    let long = part-long has.body in
    let behind = has.behind in
    record {
      gate = open-same n 0 old new (omega arith) front has.gate;
      body = has.body;
      part = part-same n 1 has.body old new (omega arith) front has.part;
      spells = has.spells;
      behind = has.behind;
    }

pub takes-on-slot : {side : List ℕ} {old new : DbValue} → TakesOn side old new → old.slot + 8 < new.slot
takes-on-slot {side} {old} {new} t =
    let slot = ap (λ (d : DbValue). d.slot) t.others in
    omega (arith, part-long t.body, slot)

pub takes-on-same : (n : ℕ) (old new : List ℕ) (db next : DbValue) → next.slot ≤ n → SameFront n old new → TakesOn old db next → TakesOn new db next
takes-on-same n old new db next le front t =
    let slot = ap (λ (d : DbValue). d.slot) t.others in
    let long = part-long t.body in
    record {
      gate = open-same n db.slot old new (omega (arith, slot)) front t.gate;
      body = t.body;
      delta = t.delta;
      part = part-same n (db.slot + 1) t.body old new (omega (arith, slot)) front t.part;
      spells = t.spells;
      limits = t.limits;
      merged = t.merged;
      others = t.others;
    }

-- slots rise along the records
pub slots-rise : {number : ℕ} {side : List ℕ} {db last : DbValue} → ReadsOn number side db (stored last) → db.slot ≤ last.slot
slots-rise (ends gate) = omega arith
slots-rise (goes_on t on) = let more = takes-on-slot t in let rest = slots-rise on in omega arith

-- all of them are of one side and one generation
pub sides-stay : {number : ℕ} {side : List ℕ} {db last : DbValue} → ReadsOn number side db (stored last)
    → (last.side ≡ db.side) × (last.generation ≡ db.generation)
sides-stay (ends gate) = (refl, refl)
sides-stay (goes_on t on) =
    let rest = sides-stay on in
    (rest.0 ∙ ap (λ (d : DbValue). d.side) t.others, rest.1 ∙ ap (λ (d : DbValue). d.generation) t.others)

-- a side with the same bytes up to the first closed gate, and with a closed gate there, says the same
pub reads-same : {number : ℕ} {old new : List ℕ} {db last : DbValue} → SameFront last.slot old new → is_open_at new last.slot ≡ false
    → ReadsOn number old db (stored last) → ReadsOn number new db (stored last)
reads-same front gate (ends old_gate) = ends gate
reads-same front gate (goes_on t on) = goes_on (takes-on-same _ _ _ _ _ (slots-rise on) front t) (reads-same front gate on)

-- ---- the old database stays

-- a write at the slot or after it leaves the old database, where the gate at the slot is closed
pub stays0 : {sides : Sides} {db : DbValue} (new : List ℕ) → DbOf sides (stored db) → db.side ≡ Some 0 → SameFront db.slot sides.side0 new
    → is_open_at new db.slot ≡ false → DbOf (record { side0 = new; side1 = sides.side1 }) (stored db)
stays0 new (nothing a b) is front gate = cc
stays0 new (chosen0 has yields on) is front gate =
    let rise = slots-rise on in
    chosen0 (snapshot-same _ _ _ _ _ rise front has) yields (reads-same front gate on)
stays0 new (chosen1 has yields on) is front gate = let side = (sides-stay on).0 in cc

pub stays1 : {sides : Sides} {db : DbValue} (new : List ℕ) → DbOf sides (stored db) → db.side ≡ Some 1 → SameFront db.slot sides.side1 new
    → is_open_at new db.slot ≡ false → DbOf (record { side0 = sides.side0; side1 = new }) (stored db)
stays1 new (nothing a b) is front gate = cc
stays1 new (chosen1 has yields on) is front gate =
    let rise = slots-rise on in
    chosen1 (snapshot-same _ _ _ _ _ rise front has) yields (reads-same front gate on)
stays1 new (chosen0 has yields on) is front gate = let side = (sides-stay on).0 in cc

-- the side that isn't chosen may be closed
pub closes1 : {sides : Sides} {db : DbValue} (new : List ℕ) → DbOf sides (stored db) → db.side ≡ Some 0 → is_open_at new 0 ≡ false
    → DbOf (record { side0 = sides.side0; side1 = new }) (stored db)
closes1 new (nothing a b) is gate = cc
closes1 new (chosen0 has yields on) is gate = chosen0 has (closed gate) on
closes1 new (chosen1 has yields on) is gate = let side = (sides-stay on).0 in cc

pub closes0 : {sides : Sides} {db : DbValue} (new : List ℕ) → DbOf sides (stored db) → db.side ≡ Some 1 → is_open_at new 0 ≡ false
    → DbOf (record { side0 = new; side1 = sides.side1 }) (stored db)
closes0 new (nothing a b) is gate = cc
closes0 new (chosen1 has yields on) is gate = chosen1 has (closed gate) on
closes0 new (chosen0 has yields on) is gate = let side = (sides-stay on).0 in cc

-- ---- the new database comes

-- a record after the gate at the slot, and a closed gate after it, add to the chosen side
pub adds : {number : ℕ} {old new : List ℕ} {db last next : DbValue} → IsSummary db.summary → SameFront last.slot old new → TakesOn new last next
    → is_open_at new next.slot ≡ false → ReadsOn number old db (stored last) → ReadsOn number new db (stored (with_last_days next))
adds good front t gate (ends old_gate) = adds-more good t gate
adds good front t gate (goes_on u on) = goes_on (takes-on-same _ _ _ _ _ (slots-rise on) front u) (adds (good-next good u) front t gate on)

pub adds0 : {sides : Sides} {db next : DbValue} (new : List ℕ) → DbOf sides (stored db) → db.side ≡ Some 0 → SameFront db.slot sides.side0 new
    → TakesOn new db next → is_open_at new next.slot ≡ false → DbOf (record { side0 = new; side1 = sides.side1 }) (stored (with_last_days next))
adds0 new (nothing a b) is front t gate = cc
adds0 new (chosen0 has yields on) is front t gate =
    let rise = slots-rise on in
    chosen0 (snapshot-same _ _ _ _ _ rise front has) yields (adds has.spells.summary front t gate on)
adds0 new (chosen1 has yields on) is front t gate = let side = (sides-stay on).0 in cc

pub adds1 : {sides : Sides} {db next : DbValue} (new : List ℕ) → DbOf sides (stored db) → db.side ≡ Some 1 → SameFront db.slot sides.side1 new
    → TakesOn new db next → is_open_at new next.slot ≡ false → DbOf (record { side0 = sides.side0; side1 = new }) (stored (with_last_days next))
adds1 new (nothing a b) is front t gate = cc
adds1 new (chosen1 has yields on) is front t gate =
    let rise = slots-rise on in
    chosen1 (snapshot-same _ _ _ _ _ rise front has) yields (adds has.spells.summary front t gate on)
adds1 new (chosen0 has yields on) is front t gate = let side = (sides-stay on).0 in cc
