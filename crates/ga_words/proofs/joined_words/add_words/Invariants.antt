use Rattle.std.proofs.Common.{◌≡◌, ◌++◌, take}
use Rattle.ga_words.proofs.joined_words.add_words.Given as goal

abbrev pub invariant-loop-word : goal.invariant-loop-word
invariant-loop-word l = l.words ≡ l.initial.words ++ take l.word-index l.more
