-- That a crash leaves only what has P, from call to call.
use Rattle.std.proofs.Common.{◌⊎◌, ℕ, ◌≤◌, inl, inr, arith}
use Rattle.ga_disk.specs.Sides.{Sides}
use Rattle.ga_disk.specs.Images.{Images, Elapses, LeavesOnly, LeavesSame}

-- from one moment on, at that moment
pub only-now : (images : Images) (P : Sides → Type 0) → ((image : Sides) → images.since images.moment image → images.now image)
    → ((image : Sides) → images.now image → P image) → LeavesOnly images images P
only-now images P law each = record {
  later = omega arith;
  each = λ image since. each image (law image since);
  before = λ t image le since. inl since;
}

-- one call more
pub only-further : {old mid new : Images} {P : Sides → Type 0} → LeavesOnly old mid P → Elapses mid new → ((image : Sides) → new.now image → P image)
    → LeavesOnly old new P
only-further {old} {mid} {new} {P} only time each = record {
  later = omega (arith, only.later, time.later);
  each = λ image since. at-each image (time.nothing_else old.moment image only.later since);
  before = λ t image le since. at-before t image le (time.nothing_else t image (omega (arith, le, only.later)) since);
}
  where
    at-each : (image : Sides) → mid.since old.moment image ⊎ new.now image → P image
    at-each image (inl since) = only.each image since
    at-each image (inr now) = each image now

    at-before : (t : ℕ) (image : Sides) → t ≤ old.moment → mid.since t image ⊎ new.now image → old.since t image ⊎ P image
    at-before t image le (inl since) = only.before t image le since
    at-before t image le (inr now) = inr (each image now)

-- one trace of calls and then another
pub only-then : {old mid new : Images} {P : Sides → Type 0} → LeavesOnly old mid P → LeavesOnly mid new P → LeavesOnly old new P
only-then {old} {mid} {new} {P} first second = record {
  later = omega (arith, first.later, second.later);
  each = λ image since. at-each image (second.before old.moment image first.later since);
  before = λ t image le since. at-before t image le (second.before t image (omega (arith, le, first.later)) since);
}
  where
    at-each : (image : Sides) → mid.since old.moment image ⊎ P image → P image
    at-each image (inl since) = first.each image since
    at-each image (inr has) = has

    at-before : (t : ℕ) (image : Sides) → t ≤ old.moment → mid.since t image ⊎ P image → old.since t image ⊎ P image
    at-before t image le (inl since) = first.before t image le since
    at-before t image le (inr has) = inr has

-- what has P has Q
pub only-wider : {old new : Images} {P Q : Sides → Type 0} → ((image : Sides) → P image → Q image) → LeavesOnly old new P → LeavesOnly old new Q
only-wider {old} {new} {P} {Q} wider only = record {
  later = only.later;
  each = λ image since. wider image (only.each image since);
  before = λ t image le since. either t image (only.before t image le since);
}
  where
    either : (t : ℕ) (image : Sides) → old.since t image ⊎ P image → old.since t image ⊎ Q image
    either t image (inl since) = inl since
    either t image (inr has) = inr (wider image has)

-- two stretches that change no side
pub same-then : {old mid new : Images} → ((t : ℕ) (image : Sides) → t ≤ old.moment → old.now image → old.since t image) → LeavesSame old mid
    → LeavesSame mid new → LeavesSame old new
same-then {old} {mid} {new} law first second = record {
  none_added = λ image now. first.none_added image (second.none_added image now);
  time = record {
    later = omega (arith, first.time.later, second.time.later);
    nothing_else = λ t image le since. at-before t image le (second.time.nothing_else t image (omega (arith, le, first.time.later)) since);
    keeps = λ t image le since. second.time.keeps t image (omega (arith, le, first.time.later)) (first.time.keeps t image le since);
  };
}
  where
    was : (t : ℕ) (image : Sides) → t ≤ old.moment → old.since t image ⊎ mid.now image → old.since t image
    was t image le (inl since) = since
    was t image le (inr now) = law t image le (first.none_added image now)

    at-before : (t : ℕ) (image : Sides) → t ≤ old.moment → mid.since t image ⊎ new.now image → old.since t image ⊎ new.now image
    at-before t image le (inl since) = inl (was t image le (first.time.nothing_else t image le since))
    at-before t image le (inr now) = inr now

-- they leave only what a crash might have left at the start
pub only-same : {old new : Images} → ((image : Sides) → old.since old.moment image → old.now image) → LeavesSame old new → LeavesOnly old new old.now
only-same {old} {new} law same = record {
  later = same.time.later;
  each = λ image since. at-each image (same.time.nothing_else old.moment image (omega arith) since);
  before = λ t image le since. at-before t image (same.time.nothing_else t image le since);
}
  where
    at-each : (image : Sides) → old.since old.moment image ⊎ new.now image → old.now image
    at-each image (inl since) = law image since
    at-each image (inr now) = same.none_added image now

    at-before : (t : ℕ) (image : Sides) → old.since t image ⊎ new.now image → old.since t image ⊎ old.now image
    at-before t image (inl since) = inl since
    at-before t image (inr now) = inr (same.none_added image now)
