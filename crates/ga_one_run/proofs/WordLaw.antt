-- Words have one answer.
use Rattle.std.proofs.Common.{◌≡◌, ℕ, List, ap, Result, Ok, Err}
use Rattle.ga_words.specs.Joined.{JoinedOf}
use Rattle.ga_words.specs.WordsOf.{IsSame}
use Rattle.ga_words.specs.declared.fault.WordFault.{WordFault}
use Rattle.ga_words.specs.declared.settings.Settings.{Settings}

same-is : (a b : Result Settings WordFault) → IsSame a b → a ≡ b
same-is (Ok s) (Ok t) same = ap Ok same
same-is (Ok s) (Err fault) same = absurd same
same-is (Err fault) (Ok t) same = absurd same
same-is (Err fault) (Err other) same = ap Err same

-- what the law of words says of them
abbrev pub OneWords : Type 0
OneWords = (conf words : List (List ℕ)) (a b : Result Settings WordFault) → JoinedOf conf words a → JoinedOf conf words b → a ≡ b

pub one-words : ((conf words : List (List ℕ)) (answer other : Result Settings WordFault) → JoinedOf conf words answer → JoinedOf conf words other → IsSame answer other)
    → OneWords
one-words law conf words a b h k = same-is a b (law conf words a b h k)
