use Rattle.std.proofs.Common.{◌≡◌, ℕ, List, Bor, Ok, length, map, get_or, arith, ◌∙◌, ap, sym, subst}
use Rattle.std.proofs.lemmas.List.{length-map}
use Rattle.std.specs.List.{flat_map}
use Rattle.ga_draws.specs.Draws.{AreAllBelow}
use Rattle.ga_workers.specs.declared.drawing.Drawn.{Drawn}
use Rattle.ga_workers.specs.declared.drawing.Turn.{Turn}
use Rattle.ga_workers.specs.Steps.Drawing.{all_lines}
use Rattle.ga_workers.specs.Together.{CountsOn}
use Rattle.ga_workers.proofs.Answers.{both-some, told-ok}
use Rattle.ga_workers.proofs.GivenBack.{Gave, each-gave, workers-count}
use Rattle.ga_workers.proofs.drawing.count_pieces.Goals as goal

pub returns-in-Ok-drawn-clause-counts : goal.returns-in-Ok-drawn-clause-counts
returns-in-Ok-drawn-clause-counts g c =
    let setup = c.args.crew.now.setup.now in
    let pieces : List (List ℕ) = map (λ (piece : Bor (List ℕ)). piece.now) c.args.pieces.now in
    let ds : List Drawn = c.in-Ok-drawn.drawn.items in
    let begun = c.in-Ok-turns_of.turns in
    let done = c.map_meanwhile-drawn.ensures in
    let many_done = told-ok c.map_meanwhile-drawn.result.0 c.in-Ok-drawn.drawn _ c.in-Ok-drawn.is done.len in
    let each_done = told-ok c.map_meanwhile-drawn.result.0 c.in-Ok-drawn.drawn _ c.in-Ok-drawn.is done.work in
    let turns : List Turn = begun.items in
    let old = c.args.tallies.items in
    let long : length ds ≡ length turns = omega (arith, many_done, c.in-Ok-drawn.drawn.ok, begun.ok) in
    let many : length turns ≡ length old = sym (length-map turns (λ (t : Turn). t.tally)) ∙ ap length c.in-Ok-turns_of.ensures.tallies in
    let each = each-gave setup pieces turns ds long (λ i t d lt.
    let job = (each_done i d (omega (arith, long, begun.ok, lt))).1 in
    subst (λ (turn : Turn). Gave setup pieces turn (get_or ds i d)) (sym (job.job_is t)) job.call.met.2) in
    both-some c.join_seats.result (λ v. map (λ (d : Drawn). d.tally) ds ≡ map Ok v.items) (λ v. AreAllBelow (flat_map (λ (d : Drawn). d.seat.view.drawn) ds))
    (λ v. CountsOn setup (all_lines pieces) old v.items)
    (λ v is below. workers-count setup pieces turns ds old v.items (omega (arith, long, many, c.requires.some, c.args.tallies.ok)) c.in-Ok-turns_of.ensures.tallies each is below)
    c.join_seats.ensures.tallies c.join_seats.ensures.all
