-- What is left of a list after its parts were changed, where each item has a number.
use Rattle.std.specs.Prelude.{◌≡◌, ℕ, ◌+◌, List, ◌++◌, length, Result, Ok}
use Rattle.std.specs.Borrow.{MutBor}
use Rattle.std.specs.Fn.{Shared}
use Rattle.ga_base.specs.declared.no_memory.NoMemory.{NoMemory}

-- f may be called with each part of a list, and the number of the part's first item
pub record TakesParts {F T R : Type 0} (g : Shared F (ℕ × (MutBor (List T) × Unit {0})) (R × (MutBor (List T) × Unit {0}))) (f : F) (first : ℕ) (xs : List T) : Type 0 where
  pub each : (part : MutBor (List T)) (number : ℕ) (front back : List T) → xs ≡ front ++ part.now ++ back → number ≡ first + length front → g.pre f (number, (part, tt))

-- a call of f with xs and the number of its first item may answer r and leave ys there
pub record ChangesPart {F T : Type 0} (g : Shared F (ℕ × (MutBor (List T) × Unit {0})) (Result (Unit {0}) NoMemory × (MutBor (List T) × Unit {0}))) (f : F) (first : ℕ) (xs : List T) (r : Result (Unit {0}) NoMemory) (ys : List T) : Type 0 where
  pub shown : MutBor (List T)
  pub shows : shown.now ≡ xs
  pub left : MutBor (List T)
  pub call : g.post f (first, (shown, tt)) (r, (left, tt))
  pub leaves : left.now ≡ ys

-- the list is cut into parts, and calls of f that succeeded left ys of them
pub data ChangesParts {F T : Type 0} (g : Shared F (ℕ × (MutBor (List T) × Unit {0})) (Result (Unit {0}) NoMemory × (MutBor (List T) × Unit {0}))) (f : F) : ℕ → List T → List T → Type 0 where
  whole : {first : ℕ} {xs ys : List T} → ChangesPart g f first xs (Ok tt) ys → ChangesParts g f first xs ys
  halves : {first : ℕ} {xs ys : List T} (low high front back : List T) → xs ≡ low ++ high → length front ≡ length low → ChangesParts g f first low front
      → ChangesParts g f (first + length low) high back → ys ≡ front ++ back → ChangesParts g f first xs ys
