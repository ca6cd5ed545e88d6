-- How a run follows its logs.
use Rattle.std.specs.Prelude.{Bool, true, false}
use Rattle.ga_resume.specs.declared.follow.Follow.{Follow}
use Rattle.ga_resume.specs.declared.follow.Follow.TheVariants.{Whole, ToEnd, ToLastLine}

-- what follows the last line feed of a log is counted, as a line
abbrev pub keeps : Follow → Bool
keeps Whole = true
keeps ToEnd = true
keeps ToLastLine = false
