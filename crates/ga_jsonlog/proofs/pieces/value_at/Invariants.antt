use Rattle.std.proofs.Common.{◌≡◌, drop}
use Rattle.serde_json.specs.View.{view}
use Rattle.ga_jsonlog.specs.Pieces.{value_at}
use Rattle.ga_jsonlog.proofs.pieces.value_at.Given as goal

abbrev pub invariant-loop-step : goal.invariant-loop-step
invariant-loop-step l = value_at (drop l.step-index l.path) (view l.at) ≡ value_at l.path (view l.initial.at)
