-- What a crash may have left since a run began.
use Rattle.std.proofs.Common.{◌⊎◌, ℕ, ◌≤◌, inl, inr, arith}
use Rattle.ga_disk.specs.Disk.{DiskView}
use Rattle.ga_disk.specs.Images.{Images, LeavesOnly}
use Rattle.ga_disk.specs.Sides.{Sides}
use Rattle.ga_keep.specs.RunDatabase.{IsUntouched, OnlyLooks}

-- what a crash may leave now is all that the present moment has
abbrev pub OnlyNow : Images → Type 0
OnlyNow i = (image : Sides) → i.since i.moment image → i.now image

pub untouched-leaves : (d d' : DiskView) (i i' : Images) → OnlyNow i → IsUntouched d d' i i' → LeavesOnly i i' i.now
untouched-leaves d d' i i' only h = record {
  later = omega (arith, h.moment);
  each = λ image since. only image (h.since i.moment image since);
  before = λ t image within since. inl (h.since t image since);
}

pub looked-leaves : (d d' : DiskView) (i i' : Images) → OnlyLooks d d' i i' → LeavesOnly i i' i.now
looked-leaves d d' i i' h = h.moments

-- nothing is left besides after another trace that leaves nothing but what has P
pub leaves-then : (P : Sides → Type 0) (i j k : Images) → LeavesOnly i j i.now → LeavesOnly j k P → LeavesOnly i k (λ image. i.now image ⊎ P image)
leaves-then P i j k h g = record {
  later = omega (arith, h.later, g.later);
  each = λ image since. by-each image (g.before i.moment image h.later since);
  before = λ t image within since. by-before t image within (g.before t image (omega (arith, within, h.later)) since);
}
  where
    by-each : (image : Sides) → j.since i.moment image ⊎ P image → i.now image ⊎ P image
    by-each image (inl since) = inl (h.each image since)
    by-each image (inr p) = inr p

    one-or : (t : ℕ) (image : Sides) → i.since t image ⊎ i.now image → i.since t image ⊎ (i.now image ⊎ P image)
    one-or t image (inl since) = inl since
    one-or t image (inr now) = inr (inl now)

    by-before : (t : ℕ) (image : Sides) → t ≤ i.moment → j.since t image ⊎ P image → i.since t image ⊎ (i.now image ⊎ P image)
    by-before t image within (inl since) = one-or t image (h.before t image within since)
    by-before t image within (inr p) = inr (inr p)

-- nothing is left besides where the disk isn't touched any more
pub leaves-still : (d d' : DiskView) (P : Sides → Type 0) (i j k : Images) → LeavesOnly i j P → IsUntouched d d' j k → LeavesOnly i k P
leaves-still d d' P i j k h u = record {
  later = omega (arith, h.later, u.moment);
  each = λ image since. h.each image (u.since i.moment image since);
  before = λ t image within since. h.before t image within (u.since t image since);
}
