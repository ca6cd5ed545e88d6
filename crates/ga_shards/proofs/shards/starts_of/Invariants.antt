use Rattle.std.proofs.Common.{ℕ, ◌≡◌, ◌<◌, ◌≤◌, length, get_or}
use Rattle.ga_shards.specs.Steps.{start_of}
use Rattle.ga_shards.proofs.shards.starts_of.Given as goal

abbrev pub invariant-loop-part : goal.invariant-loop-part
invariant-loop-part g l = record {
  within : l.part-index ≤ length l.parts;
  many : length l.starts.items ≡ l.part-index;
  start : l.start ≡ start_of l.parts l.part-index;
  each : (s : ℕ) → s < l.part-index → get_or l.starts.items s 0 ≡ start_of l.parts s;
}
