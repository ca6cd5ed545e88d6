use Rattle.std.proofs.Common.{◌≡◌, ◌+◌, ◌-◌, length, map}
use Rattle.ga_workers.specs.Steps.Drawing.{TalliesDrawn}
use Rattle.ga_tallies.specs.Agents.{AreAgents}
use Rattle.ga_workers.proofs.drawing.count_drawn.Given as goal

abbrev pub invariant-loop-at : goal.invariant-loop-at
invariant-loop-at g l = record {
  table : l.seat.table ≡ l.draws.table;
  share : l.seat.view.share ≡ 1;
  allowance : l.seat.view.allowance ≡ length l.pieces + 1 - l.at;
  drawn : length l.seat.view.drawn ≡ l.at;
  agents : AreAgents l.crew.setup.now.panels.rules l.agents;
  counts : TalliesDrawn l.crew.setup.now (map (λ piece. piece.now) l.pieces) l.seat.view.drawn l.fn.turn.tally l.tally;
}
