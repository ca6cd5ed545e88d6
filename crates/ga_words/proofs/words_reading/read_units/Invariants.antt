use Rattle.std.proofs.Common.{length}
use Rattle.ga_words.specs.Steps.Words.{HasRead}
use Rattle.ga_words.proofs.words_reading.read_units.Given as goal

abbrev pub invariant-loop-word : goal.invariant-loop-word
invariant-loop-word l = HasRead l.words l.rest l.reading

abbrev pub decreases-loop-word : goal.decreases-loop-word
decreases-loop-word l = length l.rest
