use Rattle.std.proofs.Common.{◌≡◌, ℕ, ◌<◌, ◌≤◌, ◌∷◌, [], List, Bor, true, length, map, inl, inr, sym, ap, ◌∙◌, subst, arith, length-append}
use Rattle.ga_draws.specs.Draws.{SeatSeen}
use Rattle.ga_draws.specs.declared.view.DrawView.{DrawView}
use Rattle.ga_workers.specs.Steps.Drawing.{CountsDrawn, TalliesDrawn}
use Rattle.ga_workers.proofs.DrawnPieces.{counts-more, counts-none, counts-past}
use Rattle.ga_workers.proofs.drawing.count_drawn.Goals as goal
use Rattle.ga_workers.proofs.drawing.count_drawn.Goals.{else-loop-at-test, then-loop-at-test+then-number-pieces}
use Rattle.std.proofs.lemmas.List.{get_or-map, length-map}
use Rattle.std.proofs.lemmas.List.Elements.{Contains-push}
use Rattle.ga_line.specs.Lines.{lines}
use Rattle.ga_tallies.specs.Tallies.{TakesIn}

pub loop-at-init : goal.loop-at-init
loop-at-init g c =
    let pieces = map (λ (piece : Bor (List ℕ)). piece.now) c.args.pieces.now in
    let seat = c.requires.seat in
    let none : c.args.turn.seat.view.drawn ≡ [] = ap (λ (v : DrawView). v.drawn) seat in
    record {
      table = c.requires.table;
      share = ap (λ (v : DrawView). v.share) seat;
      allowance = omega (arith, ap (λ (v : DrawView). v.allowance) seat);
      drawn = ap (λ (v : DrawView). length v.drawn) seat;
      agents = c.new-agents.ensures c.args.crew.now.setup.now.panels.rules;
      counts = subst (λ (drawn : List ℕ). TalliesDrawn c.args.crew.now.setup.now pieces drawn c.args.turn.tally c.args.turn.tally) (sym none) (counts-none c.args.crew.now.setup.now pieces c.args.turn.tally);
    }

pub loop-at-preserved : goal.loop-at-preserved
loop-at-preserved g c =
    let before = c.loop-at.invariant in
    let seat = c.draw-number.ensures.seat in
    let takes = c.in_default.ensures.counted in
    let within : c.draw-number.result < length (map (λ (piece : Bor (List ℕ)). piece.now) c.args.pieces.now) = omega (arith, length-map c.args.pieces.now (λ (piece : Bor (List ℕ)). piece.now), c.if-number-pieces.false) in
    record {
      table = ap (λ (s : SeatSeen). s.table) seat ∙ before.table;
      share = ap (λ (s : SeatSeen). s.view.share) seat ∙ before.share;
      allowance = omega (arith, ap (λ (s : SeatSeen). s.view.allowance) seat, before.allowance);
      drawn = omega (arith, ap (λ (s : SeatSeen). length s.view.drawn) seat, before.drawn, length-append c.loop-at.seat.view.drawn (c.draw-number.result ∷ []));
      agents = c.in_default.ensures.known;
      counts =
          subst (λ (drawn : List ℕ). TalliesDrawn c.args.crew.now.setup.now (map (λ (piece : Bor (List ℕ)). piece.now) c.args.pieces.now) drawn c.args.turn.tally c.count.new.self) (sym (ap (λ (s : SeatSeen). s.view.drawn) seat))
          (counts-more c.args.crew.now.setup.now (map (λ (piece : Bor (List ℕ)). piece.now) c.args.pieces.now) c.loop-at.seat.view.drawn c.draw-number.result c.args.turn.tally c.loop-at.tally c.count.new.self within before.counts
          (subst (λ (piece : List ℕ). TakesIn c.args.crew.now.setup.now (lines piece true) c.loop-at.tally c.count.new.self)
          (sym (get_or-map (λ (piece : Bor (List ℕ)). piece.now) c.args.pieces.now c.draw-number.result _ [] c.if-number-pieces.false)) takes));
    }

pub returns-clause-tally : goal.returns-clause-tally
returns-clause-tally g c =
    let pieces = map (λ (piece : Bor (List ℕ)). piece.now) c.args.pieces.now in
    let many = length-map c.args.pieces.now (λ (piece : Bor (List ℕ)). piece.now) in
    let before = c.loop-at.invariant in
    let t = c.loop-at.tally in
    elim c.loop-at-test.branch [
      | else-loop-at-test w ↦
          subst (λ (s : SeatSeen). CountsDrawn c.args.crew.now.setup.now pieces s.view.drawn c.args.turn.tally t) (sym w.seat-is)
          record { done = inl (omega (arith, many, before.drawn, w.loop-at-test.false)); counts = before.counts }
      | then-loop-at-test+then-number-pieces w ↦
          let past : length pieces ≤ w.draw-number.result = omega (arith, many, w.if-number-pieces.true) in
          subst (λ (s : SeatSeen). CountsDrawn c.args.crew.now.setup.now pieces s.view.drawn c.args.turn.tally t) (sym (w.seat-is ∙ w.draw-number.ensures.seat))
          record {
            done = inr (w.draw-number.result, past, Contains-push c.loop-at.seat.view.drawn w.draw-number.result);
            counts = counts-past c.args.crew.now.setup.now pieces c.loop-at.seat.view.drawn w.draw-number.result c.args.turn.tally t past before.counts;
          }
    ]
