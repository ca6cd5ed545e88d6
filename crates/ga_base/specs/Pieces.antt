-- What is made of a list in pieces.
use Rattle.std.specs.Prelude.{◌≡◌, List, ◌++◌, Result, Ok}
use Rattle.std.specs.Fn.{FnReturnsAt, Shared}
use Rattle.std.specs.Global.{Vec}
use Rattle.std.specs.Borrow.{Bor}
use Rattle.ga_base.specs.declared.no_memory.NoMemory.{NoMemory}

-- f may be called with each piece of a list
pub record TakesPieces {F T R : Type 0} (g : Shared F (Bor (List T) × Unit {0}) R) (f : F) (xs : List T) : Type 0 where
  pub each : (piece : Bor (List T)) (front back : List T) → xs ≡ front ++ piece.now ++ back → g.pre f (piece, tt)

-- the list is cut into pieces, and ys is what calls of f make of each, one after the other
pub data MakesPieces {F T Y : Type 0} (g : Shared F (Bor (List T) × Unit {0}) (Result (Vec Y) NoMemory)) (f : F) : List T → List Y → Type 0 where
  whole : {xs : List T} {ys : List Y} (made : Vec Y) → FnReturnsAt g f xs (Ok made) → ys ≡ made.items → MakesPieces g f xs ys
  halves : {xs : List T} {ys : List Y} (low high : List T) (front back : List Y) → xs ≡ low ++ high → MakesPieces g f low front → MakesPieces g f high back → ys ≡ front ++ back → MakesPieces g f xs ys
