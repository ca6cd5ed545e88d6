-- The lines of parts of a log that adjoin are those of one pass over it.
use Rattle.std.proofs.Common.{◌≡◌, ◌⊎◌, ◌<◌, ◌≤◌, ℕ, zero, suc, false, List, [], ◌∷◌, ◌++◌, take, drop, refl, ap, sym, ◌∙◌, subst, inl, inr, arith}
use Rattle.std.proofs.lemmas.List.{append-nil, append_assoc, take-append-drop}
use Rattle.std.specs.List.{flat_map}
use Rattle.ga_base.specs.Lines.{IsEnded}
use Rattle.ga_line.specs.Lines.{KeepsItsLines, lines}
use Rattle.ga_run.specs.Parts.{Adjoin, AreOnePass, EndsAt, Part, end_of, part_lines}
use Rattle.ga_run.proofs.Lists.{take-take}

drop-all : (n : ℕ) (bytes : List ℕ) → drop n (take n bytes) ≡ []
drop-all zero bytes = refl
drop-all (suc n) [] = refl
drop-all (suc n) (byte ∷ bytes) = drop-all n bytes

module _ (law : (text : List ℕ) → IsEnded text → KeepsItsLines text) (log : List ℕ) where
  -- the lines of a part come after those up to its beginning
  one-more : (offset : ℕ) (part : Part) → IsEnded (take offset log) → part.from ≡ offset → (part.to ≡ offset) ⊎ ((offset < part.to) × EndsAt log part.to)
      → lines (take offset log) false ++ part_lines log part ≡ lines (take part.to log) false
  one-more offset part ended from (inl e) =
      ap (λ (n : ℕ). lines (take offset log) false ++ lines (drop n (take part.to log)) false) (from ∙ sym e)
      ∙ ap (λ (piece : List ℕ). lines (take offset log) false ++ lines piece false) (drop-all part.to log)
      ∙ append-nil (lines (take offset log) false) ∙ ap (λ (n : ℕ). lines (take n log) false) (sym e)
  one-more offset part ended from (inr (less, ends)) =
      let le : offset ≤ part.to = omega (arith, less) in
      ap (λ (n : ℕ). lines (take offset log) false ++ lines (drop n (take part.to log)) false) from
      ∙ sym (law (take offset log) ended (drop offset (take part.to log)) false)
      ∙ ap (λ (front : List ℕ). lines (front ++ drop offset (take part.to log)) false) (sym (take-take offset part.to log le))
      ∙ ap (λ (text : List ℕ). lines text false) (take-append-drop offset (take part.to log))

  ended-at : (offset : ℕ) (part : Part) → IsEnded (take offset log) → (part.to ≡ offset) ⊎ ((offset < part.to) × EndsAt log part.to) → IsEnded (take part.to log)
  ended-at offset part ended (inl e) = subst (λ (n : ℕ). IsEnded (take n log)) (sym e) ended
  ended-at offset part ended (inr (less, ends)) = ends.ended

  all-more : (parts : List Part) (offset : ℕ) → IsEnded (take offset log) → Adjoin log offset parts
      → lines (take offset log) false ++ flat_map (part_lines log) parts ≡ lines (take (end_of offset parts) log) false
  all-more [] offset ended h = append-nil (lines (take offset log) false)
  all-more (part ∷ parts) offset ended h =
      sym (append_assoc (lines (take offset log) false) (part_lines log part) (flat_map (part_lines log) parts))
      ∙ ap (λ (front : List (List ℕ)). front ++ flat_map (part_lines log) parts) (one-more offset part ended h.0 h.1)
      ∙ all-more parts part.to (ended-at offset part ended h.1) h.2

  pub one-pass : (parts : List Part) → Adjoin log 0 parts → AreOnePass log parts
  one-pass parts h = all-more parts 0 (inl refl) h
