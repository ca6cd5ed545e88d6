-- What the steps of a commit ask for, from the work being ready.
use Rattle.std.proofs.Common.{◌≡◌, ℕ, zero, suc, ◌+◌, ◌^◌, ◌<◌, ◌≤◌, length, Option, Some, None, IfSome, option_map, sym, ◌∙◌, ap, subst, arith}
use Rattle.ga_disk.specs.Disk.{DiskView, Reaches, max_size}
use Rattle.ga_disk.specs.Images.{Images}
use Rattle.ga_disk.specs.Sides.{Sides, of_side}
use Rattle.ga_store.specs.Commit.{Work, must_close}
use Rattle.ga_store.specs.Commits.{IsReady}
use Rattle.ga_store.specs.Steps.Committing.{after_closing, after_tail, with_tail}
use Rattle.ga_store.proofs.CommitBytes.{closed-off, closing, tail-front}
use Rattle.ga_store.proofs.CommitDb.{closing-by}
use Rattle.ga_store.proofs.CommitDisk.{of-with}
use Rattle.ga_store.proofs.CommitPlan.{IsPlanned, planned}

module _ {w : Work} {v : DiskView} {i : Images} (ready : IsReady w v i) where
  plan : IsPlanned w.side w.gate w.tail ready.old ready.new ready.holds.sides
  plan = planned w ready.old ready.new ready.holds.sides ready.holds.has ready.makes

  pub ready-side : w.side < 2
  ready-side = plan.side

  side-fits : (n : ℕ) → length (of_side n ready.holds.sides) ≤ max_size
  side-fits zero = ready.holds.size0
  side-fits (suc n) = ready.holds.size1

  pub ready-fits : w.gate < 2 ^ 63
  ready-fits = let fits = side-fits w.side in let reaches = plan.reaches in omega (arith, fits, reaches)

  reaches-by : (seen : Option Sides) → IfSome seen (λ s. s ≡ ready.holds.sides) → Reaches w.side w.gate seen
  reaches-by None told = tt
  reaches-by (Some s) told = subst (λ (x : Sides). w.gate ≤ length (of_side w.side x)) (sym told) plan.reaches

  pub ready-reaches : Reaches w.side w.gate v.seen
  ready-reaches = reaches-by v.seen ready.holds.told

-- a closed gate is there
pub closed-reaches : (side gate : ℕ) (seen seen' : Option Sides) → Reaches side gate seen → seen' ≡ option_map (after_closing side gate) seen
    → Reaches side (gate + 1) seen'
closed-reaches side gate seen seen' reaches is = subst (λ (o : Option Sides). Reaches side (gate + 1) o) (sym is) (by seen reaches)
  where
    by : (seen : Option Sides) → Reaches side gate seen → Reaches side (gate + 1) (option_map (after_closing side gate) seen)
    by None reaches = tt
    by (Some s) reaches =
        let off = closed-off gate (of_side side s) reaches in
        let same : of_side side (after_closing side gate s) ≡ closing gate (of_side side s) =
        ap (λ (x : Sides). of_side side x) (closing-by (must_close gate (of_side side s)) side gate s) ∙ of-with side _ s in
        let within = off.within in
        omega (arith, ap length same)

-- and still is, with the tail after it
pub tail-reaches : (w : Work) (seen seen' : Option Sides) → Reaches w.side (w.gate + 1) seen → seen' ≡ option_map (after_tail w) seen
    → Reaches w.side w.gate seen'
tail-reaches w seen seen' reaches is = subst (λ (o : Option Sides). Reaches w.side w.gate o) (sym is) (by seen reaches)
  where
    by : (seen : Option Sides) → Reaches w.side (w.gate + 1) seen → Reaches w.side w.gate (option_map (after_tail w) seen)
    by None reaches = tt
    by (Some s) reaches =
        let within : w.gate < length (of_side w.side s) = omega arith in
        let front = (tail-front w (of_side w.side s) within).reaches in
        let same = of-with w.side (with_tail w (of_side w.side s)) s in
        omega (arith, ap length same)
