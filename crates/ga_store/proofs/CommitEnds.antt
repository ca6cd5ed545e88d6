-- How a commit ends, from what its steps did.
use Rattle.std.proofs.Common.{◌≡◌, ◌⊎◌, ℕ, ◌+◌, ◌<◌, true, List, length, Option, Some, IfSome, Result, Ok, Err, sym, ◌∙◌, ap, subst, inl, inr}
use Rattle.ga_counters.specs.Counts.{raised}
use Rattle.ga_disk.specs.Disk.{DiskView, Steps, TornAt}
use Rattle.ga_disk.specs.Images.{Images, OnlyImage}
use Rattle.ga_disk.specs.Sides.{Sides, of_side, with_side}
use Rattle.ga_disk.specs.Trace.{DiskTrace}
use Rattle.ga_disk.specs.Trace.DiskTrace.{disk_then}
use Rattle.ga_disk.proofs.Traces.{disk-stays}
use Rattle.ga_store.specs.Commit.{IsLater, Makes, Work, closing_calls, tail_calls}
use Rattle.ga_store.specs.Commits.{AllHave, Commits, CommitsFrom, HasEither, IsReady, after_work}
use Rattle.ga_store.specs.Steps.Committing.{Closes, Fills, IsClosing, Keeps, Leads, SameFront, Sets, Settles, Works, after_byte, after_closing, after_tail, with_tail}
use Rattle.ga_store.specs.Database.{DbOf, DbValue}
use Rattle.ga_store.specs.Database.Reading.{stored}
use Rattle.ga_store.specs.SideParts.{open_gate}
use Rattle.ga_store.specs.declared.fault.StoreFault.{StoreFault}
use Rattle.ga_store.proofs.CommitBytes.{closing}
use Rattle.ga_store.proofs.CommitDb.{closing-sides, either-opening, filling-sides, new-opened, not-old, off, old-closing, old-filled, old-filling, opening-sides, some-tail}
use Rattle.ga_store.proofs.CommitDisk.{Clean, at-seen, clean-then, frames-then, takes-then, keeps-then, keeps-wider, of-with}
use Rattle.ga_store.proofs.CommitPlan.{IsPlanned, is-later, planned}

-- one trace that went well and another that failed
pub works-then : {A : Type 0} {v0 v1 v2 : DiskView} {e : StoreFault} → DiskTrace v0 v1 → Clean v0 v1 → Works {A = A} v1 v2 (Err e) → Works {A = A} v0 v2 (Err e)
works-then {A} {v0} {v1} {v2} {e} first clean second = record {
  no_fault = tt;
  fault = second.fault ∙ ap (λ (n : ℕ). raised n 1) clean.faults;
  cause = second.cause;
  frames = frames-then clean.frames second.frames;
  calls = disk_then first second.calls;
}

-- what worked had no call that failed
pub clean-of : {A : Type 0} {a : A} {v0 v1 : DiskView} → Works {A = A} v0 v1 (Ok a) → Clean v0 v1
clean-of works = record { frames = works.frames; faults = works.no_fault }

abbrev Old : DbValue → Sides → Type 0
Old old image = DbOf image (stored old)

settled-at : {w : Work} {v : DiskView} {i : Images} {sides : Sides} → IsReady w v i → v.seen ≡ Some sides → Settles sides v i
settled-at {w} {v} {i} {sides} ready seen =
    let P : Option Sides → Type 0 = λ s. IfSome s (OnlyImage i) in
    record { seen = seen; only = subst P seen ready.holds.only }

ended-old : (w : Work) (old new : DbValue) (sides : Sides) (v v' : DiskView) (i i' : Images) (e : StoreFault) → IsLater old new → IfSome v'.seen i'.now
    → Keeps (Old old) i i' → CommitsFrom old new w sides v v' i i' (Err e)
ended-old w old new sides v v' i i' e later reads kept = record {
  later = later;
  moments = (keeps-wider {P = Old old} {Q = HasEither old new} (λ image has. inl has) kept).moments;
  done = tt;
  written = tt;
  calls = tt;
  reads = λ s seen. inl (kept.last s (at-seen _ seen reads));
  either = λ image now. inl (kept.last image now);
  stays = λ steady s seen has image now. kept.last image now;
}

module _ (w : Work) (old new : DbValue) (sides : Sides) (has : DbOf sides (stored old)) (makes : Makes w old new) where
  plan : IsPlanned w.side w.gate w.tail old new sides
  plan = planned w old new sides has makes

  abbrev closed_sides : Sides
  closed_sides = with_side w.side (closing w.gate (of_side w.side sides)) sides

  abbrev filled_sides : Sides
  filled_sides = with_side w.side (with_tail w (closing w.gate (of_side w.side sides))) sides

  kept-closing : {v1 : DiskView} {i0 i1 : Images} {r : Result (Unit {0}) StoreFault}
      → Leads (IsClosing w.side w.gate sides) (after_closing w.side w.gate sides) v1 i0 i1 r → Keeps (Old old) i0 i1
  kept-closing lead = keeps-wider (λ image p. old-closing w old new sides plan (some-tail makes) image p) lead.along

  settled-closing : {v1 : DiskView} {i0 i1 : Images}
      → Leads (IsClosing w.side w.gate sides) (after_closing w.side w.gate sides) v1 i0 i1 (Ok tt) → Settles closed_sides v1 i1
  settled-closing {v1} {i0} {i1} lead =
      subst (λ (s : Sides). Settles s v1 i1) (closing-sides w old new sides plan (some-tail makes)) lead.ok

  within-closing : w.gate < length (of_side w.side closed_sides)
  within-closing = subst (λ (b : List ℕ). w.gate < length b) (sym (of-with w.side _ sides)) (off w old new sides plan (some-tail makes)).within

  kept-filling : {after : Sides} {v2 : DiskView} {i1 i2 : Images} {r : Result (Unit {0}) StoreFault}
      → Leads (Steps w.side (SameFront (w.gate + 1)) closed_sides) after v2 i1 i2 r → Keeps (Old old) i1 i2
  kept-filling lead = keeps-wider (λ image p. old-filling w old new sides plan (some-tail makes) image p) lead.along

  settled-filling : {P : Sides → Type 0} {v2 : DiskView} {i1 i2 : Images} → Leads P (after_tail w closed_sides) v2 i1 i2 (Ok tt) → Settles filled_sides v2 i2
  settled-filling {P} {v2} {i1} {i2} lead =
      subst (λ (s : Sides). Settles s v2 i2) (filling-sides w old new sides plan (some-tail makes)) lead.ok

  kept-opening : {after : Sides} {v3 : DiskView} {i2 i3 : Images} {r : Result (Unit {0}) StoreFault}
      → Leads (Steps w.side (TornAt w.gate 1) filled_sides) after v3 i2 i3 r → Keeps (HasEither old new) i2 i3
  kept-opening lead = keeps-wider (λ image p. either-opening w old new sides plan (some-tail makes) image p) lead.along

  pub from-close : {v0 v1 : DiskView} {i0 i1 : Images} {e : StoreFault} → Settles sides v0 i0 → Closes w.side w.gate v0 v1 i0 i1 (Err e)
      → IfSome v1.seen i1.now → CommitsFrom old new w sides v0 v1 i0 i1 (Err e)
  from-close settled closes reads = ended-old w old new sides _ _ _ _ _ (is-later w old new makes) reads (kept-closing (closes.told sides settled))

  pub from-fill : {v0 v1 v2 : DiskView} {i0 i1 i2 : Images} {e : StoreFault} → Settles sides v0 i0 → Closes w.side w.gate v0 v1 i0 i1 (Ok tt)
      → Fills w v1 v2 i1 i2 (Err e) → IfSome v2.seen i2.now → CommitsFrom old new w sides v0 v2 i0 i2 (Err e)
  from-fill settled closes fills reads =
      let first = closes.told sides settled in
      let second = fills.told closed_sides (settled-closing first) within-closing in
      ended-old w old new sides _ _ _ _ _ (is-later w old new makes) reads (keeps-then (kept-closing first) (kept-filling second))

  module _ {v0 v1 v2 : DiskView} {i0 i1 i2 : Images} (settled : Settles sides v0 i0) (closes : Closes w.side w.gate v0 v1 i0 i1 (Ok tt))
      (fills : Fills w v1 v2 i1 i2 (Ok tt)) where
    kept-before : Keeps (Old old) i0 i2
    kept-before =
        let first = closes.told sides settled in
        let second = fills.told closed_sides (settled-closing first) within-closing in
        keeps-then (kept-closing first) (kept-filling second)

    settled-before : Settles filled_sides v2 i2
    settled-before =
        let first = closes.told sides settled in
        let second = fills.told closed_sides (settled-closing first) within-closing in
        settled-filling second

    steady-before : v0.steady ≡ true → v2.steady ≡ true
    steady-before steady = (disk-stays fills.works.calls).steady ∙ (disk-stays closes.works.calls).steady ∙ steady

    kept-all : {after : Sides} {v3 : DiskView} {i3 : Images} {r : Result (Unit {0}) StoreFault} → Leads (Steps w.side (TornAt w.gate 1) filled_sides) after v3 i2 i3 r
        → Keeps (HasEither old new) i0 i3
    kept-all lead = keeps-then (keeps-wider {P = Old old} {Q = HasEither old new} (λ image has. inl has) kept-before) (kept-opening lead)

    pub from-set : {v3 : DiskView} {i3 : Images} {e : StoreFault} → Sets w.side w.gate open_gate v2 v3 i2 i3 (Err e) → IfSome v3.seen i3.now
        → CommitsFrom old new w sides v0 v3 i0 i3 (Err e)
    from-set {v3} {i3} sets reads =
        let kept = kept-all (sets.told filled_sides settled-before) in
        record {
          later = is-later w old new makes;
          moments = kept.moments;
          done = tt;
          written = tt;
          calls = tt;
          reads = λ s seen. kept.last s (at-seen _ seen reads);
          either = kept.last;
          stays = λ steady s seen still image now. old-there s seen still (sets.steady filled_sides settled-before (steady-before steady)) image now;
        }
      where
        old-there : (s : Sides) → v3.seen ≡ Some s → DbOf s (stored old)
            → OnlyImage i3 filled_sides ⊎ (v3.seen ≡ Some (after_byte w.side w.gate open_gate filled_sides)) → AllHave i3 old
        old-there s seen still (inl only) image now =
            subst (λ (x : Sides). DbOf x (stored old)) (sym (only image now)) (old-filled w old new sides plan (some-tail makes))
        old-there s seen still (inr opened) image now =
            let same : s ≡ after_work w sides = some-sides s _ (sym seen ∙ opened) ∙ opening-sides w old new sides plan (some-tail makes) in
            absurd (not-old w old new sides plan (some-tail makes) (subst (λ (x : Sides). DbOf x (stored old)) same still))
          where
            some-sides : (a b : Sides) → Some a ≡ Some b → a ≡ b
            some-sides a b e = cc

    pub from-done : {v3 : DiskView} {i3 : Images} → Sets w.side w.gate open_gate v2 v3 i2 i3 (Ok tt) → IfSome v3.seen i3.now
        → CommitsFrom old new w sides v0 v3 i0 i3 (Ok tt)
    from-done {v3} {i3} sets reads =
        let lead = sets.told filled_sides settled-before in
        let kept = kept-all lead in
        let is = opening-sides w old new sides plan (some-tail makes) in
        let now_settled = subst (λ (x : Sides). Settles x v3 i3) is lead.ok in
        record {
          later = is-later w old new makes;
          moments = kept.moments;
          done = λ image now. subst (λ (x : Sides). DbOf x (stored new)) (sym (now_settled.only image now)) (new-opened w old new sides plan (some-tail makes));
          written = (now_settled.seen, now_settled.only);
          calls = takes-then v0 v2 v3 (closing_calls w.gate (of_side w.side sides) + tail_calls w.is_new) 2
              (takes-then v0 v1 v2 (closing_calls w.gate (of_side w.side sides)) (tail_calls w.is_new) (at-seen _ settled.seen closes.counted) fills.counted) sets.counted;
          reads = λ s seen. kept.last s (at-seen _ seen reads);
          either = tt;
          stays = λ steady s seen still. tt;
        }

-- ---- the four ends

pub commits-close : (w : Work) {v0 v1 : DiskView} {i0 i1 : Images} {e : StoreFault} → IsReady w v0 i0 → Closes w.side w.gate v0 v1 i0 i1 (Err e)
    → IfSome v1.seen i1.now → Commits w v0 v1 i0 i1 (Err e)
commits-close w ready closes reads = record {
  told = λ sides seen old new has makes. from-close w old new sides has makes (settled-at ready seen) closes reads;
  no_fault = tt;
  fault = closes.works.fault;
  cause = closes.works.cause;
  frames = closes.works.frames;
  calls = closes.works.calls;
}

pub commits-fill : (w : Work) {v0 v1 v2 : DiskView} {i0 i1 i2 : Images} {e : StoreFault} → IsReady w v0 i0 → Closes w.side w.gate v0 v1 i0 i1 (Ok tt)
    → Fills w v1 v2 i1 i2 (Err e) → IfSome v2.seen i2.now → Commits w v0 v2 i0 i2 (Err e)
commits-fill w ready closes fills reads =
    let works = works-then closes.works.calls (clean-of closes.works) fills.works in
    record {
      told = λ sides seen old new has makes. from-fill w old new sides has makes (settled-at ready seen) closes fills reads;
      no_fault = tt;
      fault = works.fault;
      cause = works.cause;
      frames = works.frames;
      calls = works.calls;
    }

pub commits-set : (w : Work) {v0 v1 v2 v3 : DiskView} {i0 i1 i2 i3 : Images} {e : StoreFault} → IsReady w v0 i0 → Closes w.side w.gate v0 v1 i0 i1 (Ok tt)
    → Fills w v1 v2 i1 i2 (Ok tt) → Sets w.side w.gate open_gate v2 v3 i2 i3 (Err e) → IfSome v3.seen i3.now → Commits w v0 v3 i0 i3 (Err e)
commits-set w ready closes fills sets reads =
    let works = works-then (disk_then closes.works.calls fills.works.calls) (clean-then (clean-of closes.works) (clean-of fills.works)) sets.works in
    record {
      told = λ sides seen old new has makes. from-set w old new sides has makes (settled-at ready seen) closes fills sets reads;
      no_fault = tt;
      fault = works.fault;
      cause = works.cause;
      frames = works.frames;
      calls = works.calls;
    }

pub commits-done : (w : Work) {v0 v1 v2 v3 : DiskView} {i0 i1 i2 i3 : Images} → IsReady w v0 i0 → Closes w.side w.gate v0 v1 i0 i1 (Ok tt)
    → Fills w v1 v2 i1 i2 (Ok tt) → Sets w.side w.gate open_gate v2 v3 i2 i3 (Ok tt) → IfSome v3.seen i3.now → Commits w v0 v3 i0 i3 (Ok tt)
commits-done w ready closes fills sets reads = record {
  told = λ sides seen old new has makes. from-done w old new sides has makes (settled-at ready seen) closes fills sets reads;
  no_fault = sets.works.no_fault ∙ fills.works.no_fault ∙ closes.works.no_fault;
  fault = tt;
  cause = tt;
  frames = frames-then (frames-then closes.works.frames fills.works.frames) sets.works.frames;
  calls = disk_then (disk_then closes.works.calls fills.works.calls) sets.works.calls;
}

pub commits-end : (w : Work) {v0 v1 v2 v3 : DiskView} {i0 i1 i2 i3 : Images} (r : Result (Unit {0}) StoreFault) → IsReady w v0 i0
    → Closes w.side w.gate v0 v1 i0 i1 (Ok tt) → Fills w v1 v2 i1 i2 (Ok tt) → Sets w.side w.gate open_gate v2 v3 i2 i3 r → IfSome v3.seen i3.now → Commits w v0 v3 i0 i3 r
commits-end w (Ok tt) ready closes fills sets reads = commits-done w ready closes fills sets reads
commits-end w (Err e) ready closes fills sets reads = commits-set w ready closes fills sets reads
