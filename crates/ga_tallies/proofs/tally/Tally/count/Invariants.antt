use Rattle.std.proofs.Common.{true}
use Rattle.ga_line.specs.Lines.{lines}
use Rattle.ga_tallies.specs.Agents.{AreAgents}
use Rattle.ga_tallies.specs.Tallies.{Overfills, TakesIn, TallySeen}
use Rattle.ga_tallies.proofs.tally.Tally.count.Given as goal

-- what the lines that are left make of the tally is what all make of the one at the start
abbrev pub invariant-loop-line : goal.invariant-loop-line
invariant-loop-line l = record {
  counted : (new : TallySeen) → TakesIn l.setup l.line-iterator l.self new → TakesIn l.setup (lines l.bytes true) l.initial.self new;
  known : AreAgents l.setup.panels.rules l.agents;
  full : Overfills l.setup l.line-iterator l.self → Overfills l.setup (lines l.bytes true) l.initial.self;
}
