use Rattle.std.proofs.Common.{◌≤◌, length, take, vec_capacity, vec_len}
use Rattle.ga_run.specs.History.{History}
use Rattle.ga_run.proofs.history.run_all.Given as goal

abbrev pub invariant-loop-step : goal.invariant-loop-step
invariant-loop-step g l = record {
  history : History (take l.step-index l.steps) l.statuses.items l.fn.world l.world;
  few : vec_len l.statuses ≤ l.step-index;
  room : length l.steps ≤ vec_capacity l.statuses;
}
