-- A fault of words that others precede, as one of these words alone: the other way round than `among_all` of specs/Joined.antt.
use Rattle.std.specs.Prelude.{ℕ, ◌-◌}
use Rattle.ga_words.specs.declared.fault.WordFault.{WordFault}
use Rattle.ga_words.specs.declared.fault.WordFault.TheVariants.{UnknownOption, MissingValue, BadValue, NoFormat, NoInput, Conflict, NoMemory}

abbrev pub alone : ℕ → WordFault → WordFault
alone others (UnknownOption at) = UnknownOption at
alone others (MissingValue at) = MissingValue at
alone others (BadValue at) = BadValue at
alone others NoFormat = NoFormat
alone others NoInput = NoInput
alone others (Conflict at) = Conflict (at - others)
alone others NoMemory = NoMemory
