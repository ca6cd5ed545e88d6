-- The database along a commit: at each step an image has the old one, or at the last the new one.
use Rattle.std.proofs.Common.{◌≡◌, ◌⊎◌, ℕ, ◌+◌, ◌<◌, Bool, true, false, List, [], ◌∷◌, length, refl, sym, ◌∙◌, ap, subst, inl, inr, arith, length-append}
use Rattle.std.specs.Prelude.{if◌then◌else◌}
use Rattle.ga_disk.specs.Disk.{Steps, TornAt, written}
use Rattle.ga_disk.specs.Sides.{Sides, of_side, with_side}
use Rattle.ga_store.specs.Commit.{Makes, Work, must_close}
use Rattle.ga_store.specs.Commit.Makes.{by_generation, by_record}
use Rattle.ga_store.specs.Commits.{HasEither, after_work}
use Rattle.ga_store.specs.Steps.Committing.{IsClosing, SameFront, after_byte, after_closing, after_tail, with_tail}
use Rattle.ga_store.specs.Database.{DbOf, DbValue}
use Rattle.ga_store.specs.Database.Reading.{stored}
use Rattle.ga_store.specs.SideParts.{StandsAt, closed_gate, is_open_at, open_gate, part_bytes}
use Rattle.ga_store.proofs.CommitBytes.{ClosedOff, closed-front, closed-off, closing, less-front, open-or-not, opened-byte, stands-torn, tail-front, tail-stands, then-front, torn-closing, torn-written, whole-work}
use Rattle.ga_store.proofs.CommitDisk.{of-with, steps-over, with-of, with-with}
use Rattle.ga_store.proofs.CommitPlan.{IsPlanned}
use Rattle.ga_store.proofs.Torn.{torn-front}

-- a commit's work has a tail
pub some-tail : {w : Work} {old new : DbValue} → Makes w old new → 0 < length w.tail
some-tail {w} (by_record r limits both) = let size = ap length r.tail in omega (arith, length-append (part_bytes r.body) (closed_gate ∷ []))
some-tail {w} (by_generation r) = let size = ap length r.tail in omega (arith, length-append (part_bytes r.body) (closed_gate ∷ []))

pub closing-by : (must : Bool) (n gate : ℕ) (sides : Sides) → (if must then after_byte n gate closed_gate sides else sides)
    ≡ with_side n (if must then written gate (closed_gate ∷ []) (of_side n sides) else of_side n sides) sides
closing-by true n gate sides = refl
closing-by false n gate sides = with-of n sides

module _ (w : Work) (old new : DbValue) (sides : Sides) (plan : IsPlanned w.side w.gate w.tail old new sides) (some : 0 < length w.tail) where
  was : List ℕ
  was = of_side w.side sides

  -- ---- the gate is closed

  pub closing-sides : after_closing w.side w.gate sides ≡ with_side w.side (closing w.gate (of_side w.side sides)) sides
  closing-sides = closing-by (must_close w.gate (of_side w.side sides)) w.side w.gate sides

  pub off : ClosedOff w.gate (of_side w.side sides) (closing w.gate (of_side w.side sides))
  off = closed-off w.gate (of_side w.side sides) plan.reaches

  pub old-closing : (image : Sides) → IsClosing w.side w.gate sides image → DbOf image (stored old)
  old-closing image (inl same) = subst (λ (s : Sides). DbOf s (stored old)) (sym same) plan.has
  old-closing image (inr (must, steps)) = by (torn-closing w.gate (of_side w.side sides) (of_side w.side image) plan.reaches must steps.one)
    where
      by : (of_side w.side image ≡ of_side w.side sides) ⊎ (is_open_at (of_side w.side image) w.gate ≡ false) → DbOf image (stored old)
      by (inl same) =
          let is : image ≡ sides = steps.other ∙ ap (λ (b : List ℕ). with_side w.side b sides) same ∙ sym (with-of w.side sides) in
          subst (λ (s : Sides). DbOf s (stored old)) (sym is) plan.has
      by (inr shut) =
          subst (λ (s : Sides). DbOf s (stored old)) (sym steps.other)
          (plan.keeps (of_side w.side image) (torn-front w.gate 1 (of_side w.side sides) (of_side w.side image) plan.reaches steps.one) shut)

  -- ---- the tail is written

  abbrev shut : List ℕ
  shut = closing w.gate (of_side w.side sides)

  pub old-filling : (image : Sides) → Steps w.side (SameFront (w.gate + 1)) (with_side w.side (closing w.gate (of_side w.side sides)) sides) image
      → DbOf image (stored old)
  old-filling image steps =
      let over = steps-over w.side (SameFront (w.gate + 1)) (closing w.gate (of_side w.side sides)) sides image steps in
      let front = then-front w.gate (of_side w.side sides) _ (of_side w.side image) off.front (less-front w.gate (w.gate + 1) _ (of_side w.side image) (omega arith) over.0) in
      let gate = closed-front w.gate _ (of_side w.side image) off.within off.byte over.0 in
      subst (λ (s : Sides). DbOf s (stored old)) (sym over.1) (plan.keeps (of_side w.side image) front gate)

  pub filling-sides : after_tail w (with_side w.side (closing w.gate (of_side w.side sides)) sides)
      ≡ with_side w.side (with_tail w (closing w.gate (of_side w.side sides))) sides
  filling-sides =
      ap (λ (b : List ℕ). with_side w.side (with_tail w b) (with_side w.side (closing w.gate (of_side w.side sides)) sides)) (of-with w.side (closing w.gate (of_side w.side sides)) sides)
      ∙ with-with w.side _ _ sides

  -- ---- the gate is opened

  abbrev filled : List ℕ
  filled = with_tail w (closing w.gate (of_side w.side sides))

  filled-front : SameFront w.gate (of_side w.side sides) (with_tail w (closing w.gate (of_side w.side sides)))
  filled-front = then-front w.gate (of_side w.side sides) _ _ off.front (less-front w.gate (w.gate + 1) _ _ (omega arith) (tail-front w _ off.within))

  filled-stands : StandsAt (with_tail w (closing w.gate (of_side w.side sides))) (w.gate + 1) w.tail
  filled-stands = tail-stands w _ off.within

  torn-either : (bytes : List ℕ) → TornAt w.gate 1 (with_tail w (closing w.gate (of_side w.side sides))) bytes
      → HasEither old new (with_side w.side bytes sides)
  torn-either bytes torn = by (open-or-not bytes w.gate)
    where
      front : SameFront w.gate (of_side w.side sides) bytes
      front = then-front w.gate (of_side w.side sides) _ bytes filled-front (torn-front w.gate 1 _ bytes (filled-front.reaches) torn)

      by : (is_open_at bytes w.gate ≡ true) ⊎ (is_open_at bytes w.gate ≡ false) → HasEither old new (with_side w.side bytes sides)
      by (inl gate) = inr (plan.comes bytes front gate (stands-torn w.gate w.tail _ bytes some torn filled-stands))
      by (inr gate) = inl (plan.keeps bytes front gate)

  pub either-opening : (image : Sides) → Steps w.side (TornAt w.gate 1) (with_side w.side (with_tail w (closing w.gate (of_side w.side sides))) sides) image
      → HasEither old new image
  either-opening image steps =
      let over = steps-over w.side (TornAt w.gate 1) (with_tail w (closing w.gate (of_side w.side sides))) sides image steps in
      subst (λ (s : Sides). HasEither old new s) (sym over.1) (torn-either (of_side w.side image) over.0)

  pub old-filled : DbOf (with_side w.side (with_tail w (closing w.gate (of_side w.side sides))) sides) (stored old)
  old-filled = plan.keeps _ filled-front (closed-front w.gate _ _ off.within off.byte (tail-front w _ off.within))

  -- the side with its gate open
  opened-front : SameFront w.gate (of_side w.side sides) (written w.gate (open_gate ∷ []) (with_tail w (closing w.gate (of_side w.side sides))))
  opened-front = then-front w.gate (of_side w.side sides) _ _ filled-front
      (torn-front w.gate 1 _ _ filled-front.reaches (torn-written w.gate (open_gate ∷ []) _ filled-front.reaches))

  opened-stands : StandsAt (written w.gate (open_gate ∷ []) (with_tail w (closing w.gate (of_side w.side sides)))) (w.gate + 1) w.tail
  opened-stands = stands-torn w.gate w.tail _ _ some (torn-written w.gate (open_gate ∷ []) _ filled-front.reaches) filled-stands

  opened-is : is_open_at (written w.gate (open_gate ∷ []) (with_tail w (closing w.gate (of_side w.side sides)))) w.gate ≡ true
  opened-is = opened-byte w.gate w.tail _ filled-stands some

  pub whole : with_side w.side (written w.gate (open_gate ∷ []) (with_tail w (closing w.gate (of_side w.side sides)))) sides ≡ after_work w sides
  whole = ap (λ (b : List ℕ). with_side w.side b sides) (whole-work w (of_side w.side sides) _ off)

  pub new-opened : DbOf (after_work w sides) (stored new)
  new-opened = subst (λ (s : Sides). DbOf s (stored new)) whole (plan.comes _ opened-front opened-is opened-stands)

  pub not-old : DbOf (after_work w sides) (stored old) → ⊥
  not-old still = plan.apart _ opened-is opened-stands (subst (λ (s : Sides). DbOf s (stored old)) (sym whole) still)

  pub opening-sides : after_byte w.side w.gate open_gate (with_side w.side (with_tail w (closing w.gate (of_side w.side sides))) sides) ≡ after_work w sides
  opening-sides =
      ap (λ (b : List ℕ). with_side w.side (written w.gate (open_gate ∷ []) b) (with_side w.side (with_tail w (closing w.gate (of_side w.side sides))) sides))
      (of-with w.side (with_tail w (closing w.gate (of_side w.side sides))) sides)
      ∙ with-with w.side _ _ sides ∙ whole
