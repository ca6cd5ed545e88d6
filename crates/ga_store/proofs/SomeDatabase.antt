-- There are no two sides that say nothing.
use Rattle.std.proofs.Common.{◌≡◌, ℕ, zero, suc, ◌+◌, ◌<◌, ◌≤◌, Bool, true, false, List, length, refl, ap, inl, inr, arith}
use Rattle.std.proofs.lemmas.Bool.{cases_lt}
use Rattle.std.proofs.lemmas.Bool.Decides.{nat_tests}
use Rattle.ga_codec.specs.Values.{SnapshotValue}
use Rattle.ga_disk.specs.Sides.{Sides}
use Rattle.ga_store.specs.SideParts.{is_open_at, part_bytes}
use Rattle.ga_store.specs.Database.{DbOf, DbValue, HasSnapshot, LacksSnapshot, Reading, ReadsOn, TakesOn, empty_db, of_snapshot, with_last_days}
use Rattle.ga_store.specs.Database.DbOf.{chosen0, chosen1, equal, lacks0, lacks1, nothing}
use Rattle.ga_store.specs.Database.IsWhole.{unused, used}
use Rattle.ga_store.specs.Database.Reading.{damaged, stored}
use Rattle.ga_store.specs.Database.ReadsOn.{breaks, ends, goes_on}
use Rattle.ga_store.specs.Database.YieldsTo.{closed, older}

-- ---- one side

closed-past : (side : List ℕ) (at : ℕ) → length side ≤ at → is_open_at side at ≡ false
closed-past side at le = grind (arith, nat_tests)

later-slot : {side : List ℕ} {old new : DbValue} → TakesOn side old new → old.slot < new.slot
later-slot t = omega (arith, ap (λ (db : DbValue). db.slot) t.others)

-- the side says something from a database on, if it does so from each that takes on the record after it
next-end : (number : ℕ) (side : List ℕ) (db : DbValue) (gate : Bool) → is_open_at side db.slot ≡ gate
    → ((new : DbValue) → TakesOn side db new → ((reading : Reading) → ReadsOn number side new reading → ⊥) → ⊥)
    → ((reading : Reading) → ReadsOn number side db reading → ⊥) → ⊥
next-end number side db false e later none = none (stored (with_last_days db)) (ends e)
next-end number side db true e later none =
    none (damaged number (db.slot + 1)) (breaks e (λ new t. later new t (λ reading on. none reading (goes_on t on))))

some-end : (left number : ℕ) (side : List ℕ) (db : DbValue) → length side ≤ db.slot + left
    → ((reading : Reading) → ReadsOn number side db reading → ⊥) → ⊥
some-end zero number side db le none = none (stored (with_last_days db)) (ends (closed-past side db.slot (omega (arith, le))))
some-end (suc left) number side db le none =
    next-end number side db (is_open_at side db.slot) refl (λ new t. some-end left number side new (omega (arith, le, later-slot t))) none

-- a side's first gate is closed, or a snapshot is after it, or none
by-first : (side : List ℕ) (gate : Bool) → is_open_at side 0 ≡ gate → (is_open_at side 0 ≡ false → ⊥)
    → ((snapshot : SnapshotValue) (next : ℕ) → HasSnapshot side snapshot next → ⊥) → (LacksSnapshot side → ⊥) → ⊥
by-first side false e empty has lacks = empty e
by-first side true e empty has lacks = lacks (record {
  gate = e;
  none = λ body snapshot part spells.
      has snapshot (1 + length (part_bytes body)) (record { gate = e; body = body; part = part; spells = spells; behind = refl });
})

first-of : (side : List ℕ) → (is_open_at side 0 ≡ false → ⊥)
    → ((snapshot : SnapshotValue) (next : ℕ) → HasSnapshot side snapshot next → ⊥) → (LacksSnapshot side → ⊥) → ⊥
first-of side empty has lacks = by-first side (is_open_at side 0) refl empty has lacks

-- ---- both sides

module _ (sides : Sides) (none : (reading : Reading) → DbOf sides reading → ⊥) where
  reads0 : (s : SnapshotValue) (next : ℕ) → ((reading : Reading) → ReadsOn 0 sides.side0 (of_snapshot 0 next s) reading → DbOf sides reading) → ⊥
  reads0 s next step =
      some-end (length sides.side0) 0 sides.side0 (of_snapshot 0 next s) (omega arith) (λ reading on. none reading (step reading on))

  reads1 : (s : SnapshotValue) (next : ℕ) → ((reading : Reading) → ReadsOn 1 sides.side1 (of_snapshot 1 next s) reading → DbOf sides reading) → ⊥
  reads1 s next step =
      some-end (length sides.side1) 1 sides.side1 (of_snapshot 1 next s) (omega arith) (λ reading on. none reading (step reading on))

  both-have : (s t : SnapshotValue) (m n : ℕ) → HasSnapshot sides.side0 s m → HasSnapshot sides.side1 t n → ⊥
  both-have s t m n h k = elim (cases_lt s.generation t.generation) [
    | inl less ↦ reads1 t n (λ reading on. chosen1 k (older h less) on)
    | inr ge ↦ elim (cases_lt t.generation s.generation) [
      | inl more ↦ reads0 s m (λ reading on. chosen0 h (older k more) on)
      | inr le ↦
          let same : s.generation ≡ t.generation = omega arith in
          none (damaged 1 1) (equal h k same)
    ]
  ]

  pub some-database : ⊥
  some-database = first-of sides.side0
      (λ gate. first-of sides.side1 (λ other. none (stored empty_db) (nothing gate other))
      (λ s next h. reads1 s next (λ reading on. chosen1 h (closed gate) on))
      (λ lacks. none (damaged 1 1) (lacks1 (unused gate) lacks)))
      (λ s next h. first-of sides.side1 (λ other. reads0 s next (λ reading on. chosen0 h (closed other) on))
      (λ t behind k. both-have s t next behind h k)
      (λ lacks. none (damaged 1 1) (lacks1 (used h) lacks)))
      (λ lacks. none (damaged 0 1) (lacks0 lacks))
