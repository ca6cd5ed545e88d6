-- A call that changed or synced a side and was kept: what it is to the program.
use Rattle.std.proofs.Common.{◌≡◌, ℕ, ◌+◌, ◌≤◌, Bool, true, false, zero, suc, List, length, take, cond, refl, sym, ◌∙◌, ap, subst, arith, nat_le, Some, Ok}
use Rattle.std.proofs.lemmas.Bool.Decides.{nat_tests}
use Rattle.ga_disk.specs.Sides.{Both, Sides, of_side, with_side}
use Rattle.ga_disk.specs.Disk.{max_size, written, calls_once, must_fail, FailsExactly, DiskView, Writes, Cuts, Syncs, TornAt, CutAt}
use Rattle.ga_disk.specs.Images.{LeavesSteps, LeavesSynced}
use Rattle.ga_disk.specs.SideState.{SideState, writes}
use Rattle.ga_disk.specs.MemDisk.{DiskState, after_change, all_synced, apply, bytes_of, disk_images, disk_view, states}
use Rattle.ga_disk.specs.declared.change.Change.{Change}
use Rattle.ga_disk.specs.declared.change.Change.TheVariants.{Write, Cut, Sync}
use Rattle.ga_disk.proofs.Moments.{replay-more, leaves-written, leaves-cut, leaves-synced}

bytes-by : (s other : SideState) (fits : Bool) → fits ≡ true → (cond fits other s).bytes ≡ other.bytes
bytes-by s other true e = refl
bytes-by s other false e = cc

bytes-written : (at : ℕ) (piece : List ℕ) (s : SideState) → at ≤ length s.bytes → (writes at piece s).bytes ≡ written at piece s.bytes
bytes-written at piece s le =
    let fits : nat_le at (length s.bytes) ≡ true = grind (arith, nat_tests) in
    bytes-by s _ (nat_le at (length s.bytes)) fits

seen-written : (side at : ℕ) (piece : List ℕ) (s : Both SideState) → at ≤ length (of_side side (bytes_of s))
    → bytes_of (apply (Write side at piece) s) ≡ with_side side (written at piece (of_side side (bytes_of s))) (bytes_of s)
seen-written zero at piece s le =
    ap (λ (b : List ℕ). let sides : Sides = record { side0 = b; side1 = s.side1.bytes } in sides) (bytes-written at piece s.side0 le)
seen-written (suc n) at piece s le =
    ap (λ (b : List ℕ). let sides : Sides = record { side0 = s.side0.bytes; side1 = b } in sides) (bytes-written at piece s.side1 le)

seen-cut : (side len : ℕ) (s : Both SideState) → bytes_of (apply (Cut side len) s) ≡ with_side side (take len (of_side side (bytes_of s))) (bytes_of s)
seen-cut zero len s = refl
seen-cut (suc n) len s = refl

seen-synced : (side : ℕ) (s : Both SideState) → bytes_of (apply (Sync side) s) ≡ bytes_of s
seen-synced zero s = refl
seen-synced (suc n) s = refl

-- the view after a call that was kept, from what a read gives
viewed : (d : DiskState) (change : Change) (seen : Sides) → bytes_of (apply change (states d)) ≡ seen
    → disk_view (record (after_change change d) { counts = calls_once d.counts }) ≡ record (disk_view d) { seen = Some seen; counts = calls_once d.counts }
viewed d change seen is =
    ap (λ (s : Sides). record (disk_view d) { seen = Some s; counts = calls_once d.counts })
    (ap bytes_of (replay-more (all_synced d.start) d.changes change) ∙ is)

not-due : {A E : Type 0} (must : Bool) (old new : DiskView) (result : A) → must ≡ false → FailsExactly {A = A} {E = E} must old new (Ok result)
not-due must old new result fine = record { due = λ e. cc; starved = λ e. tt }

module _ {E : Type 0} (d e : DiskState) (side : ℕ) (fine : must_fail d.listed d.bound d.counts.calls ≡ false) where
  pub writes-kept : (at : ℕ) (piece : List ℕ) → e ≡ after_change (Write side at piece) d → at + length piece ≤ max_size
      → at ≤ length (of_side side (bytes_of (states d)))
      → Writes {E = E} side at piece (disk_view d) (disk_view (record e { counts = calls_once e.counts })) (Ok tt)
  writes-kept at piece is fits le =
      subst (λ (e : DiskState). Writes {E = E} side at piece (disk_view d) (disk_view (record e { counts = calls_once e.counts })) (Ok tt)) (sym is) (record {
        ok = (fits, viewed d (Write side at piece) _ (seen-written side at piece (states d) le));
        failed = tt;
        exact = not-due _ _ _ tt fine;
      })

  pub cuts-kept : (len : ℕ) → e ≡ after_change (Cut side len) d
      → Cuts {E = E} side len (disk_view d) (disk_view (record e { counts = calls_once e.counts })) (Ok tt)
  cuts-kept len is =
      subst (λ (e : DiskState). Cuts {E = E} side len (disk_view d) (disk_view (record e { counts = calls_once e.counts })) (Ok tt)) (sym is) (record {
        ok = viewed d (Cut side len) _ (seen-cut side len (states d));
        failed = tt;
        exact = not-due _ _ _ tt fine;
      })

  pub syncs-kept : e ≡ after_change (Sync side) d
      → Syncs {E = E} (disk_view d) (disk_view (record e { counts = calls_once e.counts })) (Ok tt)
  syncs-kept is =
      subst (λ (e : DiskState). Syncs {E = E} (disk_view d) (disk_view (record e { counts = calls_once e.counts })) (Ok tt)) (sym is) (record {
        ok = viewed d (Sync side) _ (seen-synced side (states d));
        failed = tt;
        exact = not-due _ _ _ tt fine;
      })

module _ {E : Type 0} (d e : DiskState) (side : ℕ) where
  pub write-kept-leaves : (at : ℕ) (piece : List ℕ) (steady : Bool) → e ≡ after_change (Write side at piece) d
      → at ≤ length (of_side side (bytes_of (states d)))
      → LeavesSteps {E = E} side (TornAt at (length piece)) steady (disk_images d) (disk_images e) (Ok tt)
  write-kept-leaves at piece steady is le =
      subst (λ (e : DiskState). LeavesSteps {E = E} side (TornAt at (length piece)) steady (disk_images d) (disk_images e) (Ok tt)) (sym is)
      (leaves-written d.start d.changes side at piece steady le)

  pub cut-kept-leaves : (len : ℕ) (steady : Bool) → e ≡ after_change (Cut side len) d
      → LeavesSteps {E = E} side (CutAt len) steady (disk_images d) (disk_images e) (Ok tt)
  cut-kept-leaves len steady is =
      subst (λ (e : DiskState). LeavesSteps {E = E} side (CutAt len) steady (disk_images d) (disk_images e) (Ok tt)) (sym is)
      (leaves-cut d.start d.changes side len steady)

  pub sync-kept-leaves : e ≡ after_change (Sync side) d
      → LeavesSynced {E = E} side (Some (bytes_of (states d))) (disk_images d) (disk_images e) (Ok tt)
  sync-kept-leaves is =
      subst (λ (e : DiskState). LeavesSynced {E = E} side (Some (bytes_of (states d))) (disk_images d) (disk_images e) (Ok tt)) (sym is)
      (leaves-synced d.start d.changes side)
