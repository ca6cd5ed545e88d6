-- What each call of a commit leaves of the disk, and what that means for the database.
use Rattle.std.proofs.Common.{◌≡◌, ℕ, ◌+◌, zero, suc, List, Option, Some, IfSome, refl, sym, ◌∙◌, ap, subst, arith}
use Rattle.ga_counters.specs.Counts.{raised}
use Rattle.ga_disk.specs.Disk.{DiskView, Steps, TornAt, calls_once}
use Rattle.ga_disk.specs.Images.{AddsNone, Elapses, Follows, HasSide, Images, OnlyImage}
use Rattle.ga_disk.specs.Sides.{Sides, of_side, with_side}
use Rattle.ga_disk.proofs.Only.{only-further, only-now, only-then, only-wider}
use Rattle.ga_disk.specs.declared.disk_counts.DiskCounts.{DiskCounts}
use Rattle.ga_store.specs.Commits.{Frames, Takes}
use Rattle.ga_store.specs.Steps.Committing.{Keeps}
use Rattle.ga_store.proofs.CommitBytes.{torn-self}

-- ---- sides by number

pub with-of : (n : ℕ) (sides : Sides) → sides ≡ with_side n (of_side n sides) sides
with-of zero sides = refl
with-of (suc n) sides = refl

pub of-with : (n : ℕ) (bytes : List ℕ) (sides : Sides) → of_side n (with_side n bytes sides) ≡ bytes
of-with zero bytes sides = refl
of-with (suc n) bytes sides = refl

pub with-with : (n : ℕ) (a b : List ℕ) (sides : Sides) → with_side n b (with_side n a sides) ≡ with_side n b sides
with-with zero a b sides = refl
with-with (suc n) a b sides = refl

pub at-seen : (A : Sides → Type 0) {seen : Option Sides} {sides : Sides} → seen ≡ Some sides → IfSome seen A → A sides
at-seen A {seen} {sides} e h = let P : Option Sides → Type 0 = λ s. IfSome s A in subst P e h

-- ---- images, call by call

pub keeps-start : (images : Images) (P : Sides → Type 0) → ((image : Sides) → images.since images.moment image → images.now image)
    → ((image : Sides) → images.now image → P image) → Keeps P images images
keeps-start images P law each = record { moments = only-now images P law each; last = each }

-- a call that adds no image
pub keeps-less : {P : Sides → Type 0} {a b c : Images} → Keeps P a b → AddsNone b c → Elapses b c → Keeps P a c
keeps-less {P} {a} {b} {c} kept none time =
    let each : (image : Sides) → c.now image → P image = λ image now. kept.last image (none image now) in
    record { moments = only-further kept.moments time each; last = each }

-- a call after which each image is a step away
pub keeps-step : {P : Sides → Type 0} {a b c : Images} (n : ℕ) (step : List ℕ → List ℕ → Type 0) → Keeps P a b → Follows n step b c → Elapses b c
    → ((x y : Sides) → P x → Steps n step x y → P y) → Keeps P a c
keeps-step {P} {a} {b} {c} n step kept follows time on =
    let each : (image : Sides) → c.now image → P image = λ image now.
    let from = follows image now in
    on from.0 image (kept.last from.0 from.1) from.2 in
    record { moments = only-further kept.moments time each; last = each }

pub keeps-then : {P : Sides → Type 0} {a b c : Images} → Keeps P a b → Keeps P b c → Keeps P a c
keeps-then first second = record { moments = only-then first.moments second.moments; last = second.last }

pub keeps-wider : {P Q : Sides → Type 0} {a b : Images} → ((image : Sides) → P image → Q image) → Keeps P a b → Keeps Q a b
keeps-wider wider kept = record { moments = only-wider wider kept.moments; last = λ image now. wider image (kept.last image now) }

-- after a sync the one image is what a read gives
pub only-synced : (n : ℕ) (bytes : List ℕ) (sides : Sides) (step : List ℕ → List ℕ → Type 0) (images : Images)
    → ((image : Sides) → images.now image → Steps n step sides image) → HasSide n images (with_side n bytes sides)
    → OnlyImage images (with_side n bytes sides)
only-synced n bytes sides step images each has image now =
    (each image now).other ∙ ap (λ (b : List ℕ). with_side n b sides) (has image now ∙ of-with n bytes sides)

-- ---- what no call changes

pub frames-by : (v0 v1 : DiskView) (seen : Option Sides) (counts : DiskCounts) → v1 ≡ record v0 { seen = seen; counts = counts }
    → counts.opened ≡ v0.counts.opened → Frames v0 v1
frames-by v0 v1 seen counts e opened = subst (λ (v : DiskView). Frames v0 v) (sym e) (record { same = refl; opened = opened })

pub frames-self : (v : DiskView) → Frames v v
frames-self v = record { same = refl; opened = refl }

pub frames-then : {v0 v1 v2 : DiskView} → Frames v0 v1 → Frames v1 v2 → Frames v0 v2
frames-then {v0} {v1} {v2} a b = record {
  same = b.same ∙ ap (λ (v : DiskView). record v { seen = v2.seen; counts = v2.counts }) a.same;
  opened = b.opened ∙ a.opened;
}

-- calls of which none failed
pub record Clean (v0 v1 : DiskView) : Type 0 where
  pub frames : Frames v0 v1
  pub faults : v1.counts.faults ≡ v0.counts.faults

pub clean-by : (v0 v1 : DiskView) (seen : Option Sides) → v1 ≡ record v0 { seen = seen; counts = calls_once v0.counts } → Clean v0 v1
clean-by v0 v1 seen e = record { frames = frames-by v0 v1 seen _ e refl; faults = ap (λ (v : DiskView). v.counts.faults) e }

pub clean-self : (v : DiskView) → Clean v v
clean-self v = record { frames = frames-self v; faults = refl }

pub clean-then : {v0 v1 v2 : DiskView} → Clean v0 v1 → Clean v1 v2 → Clean v0 v2
clean-then a b = record { frames = frames-then a.frames b.frames; faults = b.faults ∙ a.faults }

-- ---- how many calls

again : (a b c m n : ℕ) → b ≡ raised a m → c ≡ raised b n → c ≡ raised a (m + n)
again a b c m n first second = omega (arith, first, second)

pub takes-then : (v0 v1 v2 : DiskView) (m n : ℕ) → Takes m v0 v1 → Takes n v1 v2 → Takes (m + n) v0 v2
takes-then v0 v1 v2 m n first second = again v0.counts.calls v1.counts.calls v2.counts.calls m n first second

pub takes-none : (v : DiskView) → Takes 0 v v
takes-none v = omega arith

-- a first call after one image
pub keeps-first : {P : Sides → Type 0} {a c : Images} (n : ℕ) (step : List ℕ → List ℕ → Type 0) (sides : Sides)
    → ((image : Sides) → a.since a.moment image → a.now image) → OnlyImage a sides → P sides → Follows n step a c → Elapses a c
    → ((y : Sides) → Steps n step sides y → P y) → Keeps P a c
keeps-first {P} {a} {c} n step sides law only has follows time on =
    let start : (image : Sides) → a.now image → P image = λ image now. subst P (sym (only image now)) has in
    let each : (image : Sides) → c.now image → P image = λ image now.
    let from = follows image now in
    on image (subst (λ (s : Sides). Steps n step s image) (only from.0 from.1) from.2) in
    record { moments = only-further (only-now a P law start) time each; last = each }

pub steps-self : (n at size : ℕ) (sides : Sides) → Steps n (TornAt at size) sides sides
steps-self n at size sides = record { one = torn-self at size (of_side n sides); other = with-of n sides }

-- a step of a side that differs from these sides there alone
pub steps-over : (n : ℕ) (step : List ℕ → List ℕ → Type 0) (bytes : List ℕ) (sides image : Sides) → Steps n step (with_side n bytes sides) image
    → step bytes (of_side n image) × (image ≡ with_side n (of_side n image) sides)
steps-over n step bytes sides image steps = (
  subst (λ (b : List ℕ). step b (of_side n image)) (of-with n bytes sides) steps.one,
  steps.other ∙ with-with n bytes (of_side n image) sides,
)
