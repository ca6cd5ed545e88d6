-- What the workers of a batch gave back, together.
use Rattle.std.proofs.Common.{◌≡◌, ℕ, suc, ◌<◌, List, [], ◌∷◌, length, map, get_or, sym, ap, subst, arith, Result, Ok, IfOk}
use Rattle.std.specs.List.{AllZip, flat_map}
use Rattle.std.proofs.lemmas.List.{length-map}
use Rattle.std.proofs.lemmas.List.Folds.{flat_map-map}
use Rattle.ga_draws.specs.Draws.{AreAllBelow}
use Rattle.ga_workers.specs.declared.drawing.Drawn.{Drawn}
use Rattle.ga_workers.specs.declared.drawing.Turn.{Turn}
use Rattle.ga_workers.specs.Steps.Drawing.{AllCount, CountsDrawn, all_lines}
use Rattle.ga_workers.specs.Together.{CountsOn}
use Rattle.ga_workers.proofs.DrawnPieces.{tallies-of-lines}
use Rattle.ga_tallies.specs.Tallies.{TallySeen}
use Rattle.ga_tallies.specs.declared.fault.TallyFault.{TallyFault}
use Rattle.ga_outcomes.specs.declared.setup.Setup.{Setup}

-- what a worker gave back, for the turn that it had
abbrev pub Gave : Setup → List (List ℕ) → Turn → Drawn → Type 0
Gave setup pieces turn one = IfOk one.tally (CountsDrawn setup pieces one.seat.view.drawn turn.tally)

-- by place is one by one
pub each-gave : (setup : Setup) (pieces : List (List ℕ)) (turns : List Turn) (ds : List Drawn) → length ds ≡ length turns
    → ((i : ℕ) (t : Turn) (d : Drawn) → i < length ds → Gave setup pieces (get_or turns i t) (get_or ds i d)) → AllZip (Gave setup pieces) turns ds
each-gave setup pieces [] [] many each = tt
each-gave setup pieces [] (d ∷ ds) many each = absurd (omega (arith, many))
each-gave setup pieces (t ∷ turns) [] many each = absurd (omega (arith, many))
each-gave setup pieces (t ∷ turns) (d ∷ ds) many each = (each 0 t d (omega arith), each-gave setup pieces turns ds (omega (arith, many)) (λ i t' d' lt. each (suc i) t' d' (omega (arith, lt))))

counts-each : (setup : Setup) (pieces : List (List ℕ)) (turns : List Turn) (ds : List Drawn) (new : List TallySeen) → AllZip (Gave setup pieces) turns ds
    → map (λ (d : Drawn). d.tally) ds ≡ map Ok new → AllCount setup pieces (map (λ (d : Drawn). d.seat.view.drawn) ds) (map (λ (t : Turn). t.tally) turns) new
counts-each setup pieces [] [] [] all is = tt
counts-each setup pieces [] [] (n ∷ new) all is = absurd (omega (arith, ap length is))
counts-each setup pieces [] (d ∷ ds) new all is = absurd all
counts-each setup pieces (t ∷ turns) [] new all is = absurd all
counts-each setup pieces (t ∷ turns) (d ∷ ds) [] all is = absurd (omega (arith, ap length is))
counts-each setup pieces (t ∷ turns) (d ∷ ds) (n ∷ new) all is =
    let first : d.tally ≡ Ok n = cc in
    let rest : map (λ (x : Drawn). x.tally) ds ≡ map Ok new = cc in (
      subst (λ (r : Result TallySeen TallyFault). IfOk r (CountsDrawn setup pieces d.seat.view.drawn t.tally)) first all.0,
      counts-each setup pieces turns ds new all.1 rest,
    )

pub workers-count : (setup : Setup) (pieces : List (List ℕ)) (turns : List Turn) (ds : List Drawn) (old new : List TallySeen) → 0 < length ds
    → map (λ (t : Turn). t.tally) turns ≡ old → AllZip (Gave setup pieces) turns ds → map (λ (d : Drawn). d.tally) ds ≡ map Ok new
    → AreAllBelow (flat_map (λ (d : Drawn). d.seat.view.drawn) ds) → CountsOn setup (all_lines pieces) old new
workers-count setup pieces turns ds old new some were all is below =
    subst (λ (ts : List TallySeen). CountsOn setup (all_lines pieces) ts new) were
    (tallies-of-lines setup pieces (map (λ (d : Drawn). d.seat.view.drawn) ds) (map (λ (t : Turn). t.tally) turns) new (omega (arith, length-map ds (λ (d : Drawn). d.seat.view.drawn), some)) (counts-each setup pieces turns ds new all is)
    (subst AreAllBelow (sym (flat_map-map (λ (x : List ℕ). x) (λ (d : Drawn). d.seat.view.drawn) ds)) below))
