-- What holds of each part that was changed, and of two that are joined, holds of the whole.
use Rattle.std.proofs.Common.{◌≡◌, ℕ, ◌+◌, List, ◌++◌, [], Ok, Err, OnOk, ap, append_assoc, arith, length, length-append, refl, sym, subst, ◌∙◌}
use Rattle.std.specs.Prelude.{Result}
use Rattle.std.specs.Borrow.{MutBor}
use Rattle.std.specs.Fn.{Shared}
use Rattle.ga_base.specs.Parts.{ChangesPart, ChangesParts, TakesParts, whole, halves}
use Rattle.ga_base.specs.declared.no_memory.NoMemory.{NoMemory}

module _ {F T : Type 0} (g : Shared F (ℕ × (MutBor (List T) × Unit {0})) (Result (Unit {0}) NoMemory × (MutBor (List T) × Unit {0}))) (f : F) where
  pub whole-parts : (P : ℕ → List T → List T → Type 0) → ((first : ℕ) (xs ys : List T) → ChangesPart g f first xs (Ok tt) ys → P first xs ys)
      → ((first : ℕ) (low high front back : List T) → length front ≡ length low → P first low front → P (first + length low) high back → P first (low ++ high) (front ++ back))
      → {first : ℕ} {xs ys : List T} → ChangesParts g f first xs ys → P first xs ys
  whole-parts P each both {first} {xs} {ys} (whole call) = each first xs ys call
  whole-parts P each both {first} {xs} {ys} (halves low high front back cut same some others is) =
      subst (λ (l : List T). P first l ys) (sym cut)
      (subst (P first (low ++ high)) (sym is) (both first low high front back same (whole-parts P each both some) (whole-parts P each both others)))

  -- a call at the whole list
  pub one-part : (first : ℕ) (xs ys : List T) (r : Result (Unit {0}) NoMemory) → ChangesPart g f first xs r ys → OnOk r (ChangesParts g f first xs ys)
  one-part first xs ys (Ok tt) call = whole call
  one-part first xs ys (Err e) call = tt

  -- two parts that succeeded
  pub both-parts : {E : Type 0} (r : Result (Unit {0}) E) (first : ℕ) (xs low high front back : List T) → xs ≡ low ++ high → length front ≡ length low → OnOk r (ChangesParts g f first low front)
      → OnOk r (ChangesParts g f (first + length low) high back) → OnOk r (ChangesParts g f first xs (front ++ back))
  both-parts (Ok v) first xs low high front back cut same some others = halves low high front back cut same some others refl
  both-parts (Err e) first xs low high front back cut same some others = tt

module _ {F T R : Type 0} (g : Shared F (ℕ × (MutBor (List T) × Unit {0})) (R × (MutBor (List T) × Unit {0}))) (f : F) (first : ℕ) (xs low high : List T) (cut : xs ≡ low ++ high) (takes : TakesParts g f first xs) where
  pub takes-first : TakesParts g f first low
  takes-first = record {
    each = λ part n front back is at. takes.each part n front (back ++ high) (cut ∙ ap (λ (l : List T). l ++ high) is ∙ append_assoc (front ++ part.now) back high) at;
  }

  pub takes-next : TakesParts g f (first + length low) high
  takes-next = record {
    each = λ part n front back is at.
        takes.each part n (low ++ front) back
        (cut ∙ ap (λ (l : List T). low ++ l) is ∙ sym (append_assoc low (front ++ part.now) back) ∙ ap (λ (l : List T). l ++ back) (sym (append_assoc low front part.now)))
        (omega (arith, at, length-append low front));
  }
