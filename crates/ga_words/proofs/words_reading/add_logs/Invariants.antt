use Rattle.std.proofs.Common.{take}
use Rattle.ga_words.specs.Units.{AddsLogs}
use Rattle.ga_words.proofs.words_reading.add_logs.Given as goal

abbrev pub invariant-loop-log : goal.invariant-loop-log
invariant-loop-log l = AddsLogs (take l.log-index l.logs) l.initial.settings l.settings
