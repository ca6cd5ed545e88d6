-- What the program does with the arguments of its command line, and the exit status that it ends with.
use Rattle.std.specs.Prelude.{◌≡◌, ◌⊎◌, ℕ, List, map, drop, String, string_bytes, Option, Some, None}
use Rattle.std.specs.declared.io.Error.{Error}
use Rattle.ga_ports.specs.declared.outs.To.TheVariants.{Stderr}
use Rattle.ga_targets.specs.Printing.{ChangesOnly, TakesOrStops}
use Rattle.ga_one_run.specs.Configured.{IsRun}
use Rattle.ga_one_run.specs.Run.{NothingWasRead}
use Rattle.ga_one_run.specs.Statuses.{code_of}
use Rattle.ga_one_run.specs.Outside.{Outside}
use Rattle.ga_one_run.specs.declared.status.Status.{Status}
use Rattle.goaccess.specs.Answers.{answer_to, Shows}
use Rattle.goaccess.specs.Words.{IsFaultOf, words_line, words_code}
use Rattle.goaccess.specs.declared.answers.Answer.{Answer}
use Rattle.goaccess.specs.declared.words.WordsFault.{WordsFault}
use Rattle.goaccess.specs.declared.words.WordsFault.TheVariants.{NoMemory as WordsNoMemory}

-- the words can't be had: a line on standard error says why, and nothing else is touched
pub record LacksWords (fault : WordsFault) (old new : Outside) (code : ℕ) : Type 0 where
  pub line : TakesOrStops (words_line fault) old.outs.stderr new.outs.stderr
  pub others : ChangesOnly Stderr old.outs new.outs
  pub untouched : NothingWasRead old new
  pub code_is : code ≡ words_code fault

-- the words are a run, and the exit status is that of the run
pub record Runs (words : List (List ℕ)) (old new : Outside) (code : ℕ) : Type 0 where
  pub status : Status
  pub run : IsRun words old new status
  pub code_is : code ≡ code_of status

-- the program is asked for what it says of itself, or for a run
abbrev pub Answers : Option Answer → List (List ℕ) → Outside → Outside → ℕ → Type 0
Answers (Some answer) words old new code = Shows answer old.outs new.outs code × NothingWasRead old new
Answers None words old new code = Runs words old new code

-- the program over these words
abbrev pub EndsOver : List (List ℕ) → Outside → Outside → ℕ → Type 0
EndsOver words old new code = Answers (answer_to words) words old new code

-- the program over a command line with these words, or without memory for them
abbrev pub EndsWith : List (List ℕ) → Outside → Outside → ℕ → Type 0
EndsWith words old new code = EndsOver words old new code ⊎ LacksWords WordsNoMemory old new code

-- the program over a command line that can't be had
abbrev pub Lacks : Error → Outside → Outside → ℕ → Type 0
Lacks error old new code = (fault : WordsFault) × IsFaultOf error fault × LacksWords fault old new code

-- the words of a command line are its arguments but the first, which is the program's name
abbrev pub words_in : {A : Type 0} → List (String A) → List (List ℕ)
words_in arguments = map string_bytes (drop 1 arguments)
