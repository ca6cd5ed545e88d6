-- A write and a cut where a crash may leave anything at any moment.
use Rattle.std.proofs.Common.{ℕ, zero, suc, Bool, List, refl, inr, arith, Result, Ok, Err, OnErr}
use Rattle.ga_disk.specs.Sides.{Sides}
use Rattle.ga_disk.specs.Disk.{TornAt, CutAt, Steps}
use Rattle.ga_disk.specs.Images.{AddsNone, LeavesSteps}
use Rattle.ga_real.specs.FreshDisk.{any_images}

-- a write or a cut may leave the bytes as they were
torn-same : (at n : ℕ) (bytes : List ℕ) → TornAt at n bytes bytes
torn-same at n bytes = record {
  before = λ i first inside. (inside, refl);
  behind = λ i last inside. (inside, refl);
  no_shorter = omega arith;
  no_longer = omega arith;
}

cut-same : (len : ℕ) (bytes : List ℕ) → CutAt len bytes bytes
cut-same len bytes = record {
  before = λ i first inside. (inside, refl);
  no_shorter = omega arith;
  no_longer = omega arith;
}

-- so each image is a step away from itself
same-steps : (side : ℕ) (step : List ℕ → List ℕ → Type 0) → ((bytes : List ℕ) → step bytes bytes) → (image : Sides) → Steps side step image image
same-steps zero step same image = record { one = same image.side0; other = refl }
same-steps (suc n) step same image = record { one = same image.side1; other = refl }

adds-none : {E : Type 0} (result : Result (Unit {0}) E) → OnErr result (AddsNone any_images any_images)
adds-none (Ok done) = tt
adds-none (Err fault) = λ image left. left

leaves-any : {E : Type 0} (side : ℕ) (step : List ℕ → List ℕ → Type 0) (steady : Bool) (result : Result (Unit {0}) E)
    → ((bytes : List ℕ) → step bytes bytes) → LeavesSteps side step steady any_images any_images result
leaves-any side step steady result same = record {
  follows = λ image left. (image, left, same-steps side step same image);
  kept = λ e. adds-none result;
  time = record { later = omega arith; nothing_else = λ t image le since. inr since; keeps = λ t image le since. since };
}

pub any-write : {E : Type 0} (side at n : ℕ) (steady : Bool) (result : Result (Unit {0}) E)
    → LeavesSteps side (TornAt at n) steady any_images any_images result
any-write side at n steady result = leaves-any side (TornAt at n) steady result (torn-same at n)

pub any-cut : {E : Type 0} (side len : ℕ) (steady : Bool) (result : Result (Unit {0}) E)
    → LeavesSteps side (CutAt len) steady any_images any_images result
any-cut side len steady result = leaves-any side (CutAt len) steady result (cut-same len)
