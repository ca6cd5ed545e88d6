-- What holds of what is made of each piece of a list, and of two lists that are joined, holds of the whole.
use Rattle.std.proofs.Common.{◌≡◌, ◌+◌, ◌<◌, List, ◌++◌, Ok, Err, IfOk, All, refl, append_assoc, ap, sym, subst, ◌∙◌, get_or, length, length-append, arith}
use Rattle.std.specs.Prelude.{Result}
use Rattle.std.specs.Borrow.{Bor}
use Rattle.std.specs.Fn.{FnReturnsAt, Shared}
use Rattle.std.specs.Global.{Vec}
use Rattle.std.proofs.lemmas.List.{get_or-append-add, get_or_append_left}
use Rattle.ga_base.specs.Pieces.{MakesPieces, TakesPieces, whole, halves}
use Rattle.ga_base.specs.declared.no_memory.NoMemory.{NoMemory}

module _ {F T Y : Type 0} (g : Shared F (Bor (List T) × Unit {0}) (Result (Vec Y) NoMemory)) (f : F) where
  pub whole-of : (P : List T → List Y → Type 0) → ((xs : List T) (made : Vec Y) → FnReturnsAt g f xs (Ok made) → P xs made.items)
      → ((low high : List T) (front back : List Y) → P low front → P high back → P (low ++ high) (front ++ back)) → {xs : List T} {ys : List Y} → MakesPieces g f xs ys → P xs ys
  whole-of P each both {xs} {ys} (whole made call is) = subst (P xs) (sym is) (each xs made call)
  whole-of P each both {xs} {ys} (halves low high front back cut some others is) =
      subst (λ (l : List T). P l ys) (sym cut) (subst (P (low ++ high)) (sym is) (both low high front back (whole-of P each both some) (whole-of P each both others)))

  -- where each call makes of its piece what a function does that goes over the joint of two lists
  pub made-as : (make : List T → List Y) → ((low high : List T) → make (low ++ high) ≡ make low ++ make high) → ((xs : List T) (made : Vec Y) → FnReturnsAt g f xs (Ok made) → made.items ≡ make xs)
      → {xs : List T} {ys : List Y} → MakesPieces g f xs ys → ys ≡ make xs
  made-as make joint each made =
      whole-of (λ xs ys. ys ≡ make xs) each (λ low high front back e h. (λ i. e i ++ h i) ∙ sym (joint low high)) made

  -- a call at the whole list
  pub one-piece : (xs : List T) (r : Result (Vec Y) NoMemory) → FnReturnsAt g f xs r → IfOk r (λ made. MakesPieces g f xs made.items)
  one-piece xs (Ok made) call = whole made call refl
  one-piece xs (Err e) call = tt

module _ {F T R : Type 0} (g : Shared F (Bor (List T) × Unit {0}) R) (f : F) (xs low high : List T) (cut : xs ≡ low ++ high) (takes : TakesPieces g f xs) where
  pub takes-low : TakesPieces g f low
  takes-low = record {
    each = λ piece front back is. takes.each piece front (back ++ high) (cut ∙ ap (λ (l : List T). l ++ high) is ∙ append_assoc (front ++ piece.now) back high);
  }

  pub takes-high : TakesPieces g f high
  takes-high = record {
    each = λ piece front back is. takes.each piece (low ++ front) back
        (cut ∙ ap (λ (l : List T). low ++ l) is ∙ sym (append_assoc low (front ++ piece.now) back) ∙ ap (λ (l : List T). l ++ back) (sym (append_assoc low front piece.now)));
  }

-- what holds of each item holds of each item of a piece
pub all-piece : {X : Type 0} (P : X → Type 0) (xs front piece back : List X) → xs ≡ front ++ piece ++ back → All P xs → All P piece
all-piece {X} P xs front piece back cut all k d less =
    let at : get_or xs (length front + k) d ≡ get_or piece k d =
    ap (λ (l : List X). get_or l (length front + k) d) cut ∙ get_or_append_left (front ++ piece) back d (length front + k) (omega (arith, length-append front piece)) ∙ get_or-append-add front piece k d in
    let within : length front + k < length xs = omega (arith, ap length cut, length-append (front ++ piece) back, length-append front piece) in
    subst P at (all (length front + k) d within)
