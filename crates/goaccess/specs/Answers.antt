-- What the program answers of itself, to one word.
use Rattle.std.specs.Prelude.{◌≡◌, ◌≢◌, ℕ, List, [], ◌∷◌, codes, Option, Some, None, if◌then◌else◌}
use Rattle.std.specs.Str.{bytes_eq}
use Rattle.ga_counters.specs.Counts.{raised}
use Rattle.ga_ports.specs.Outs.{OutsView, takes}
use Rattle.ga_ports.specs.declared.outs.To.TheVariants.{Stdout}
use Rattle.ga_targets.specs.Printing.{ChangesOnly, TakesOrStops}
use Rattle.goaccess.specs.declared.answers.Answer.{Answer}
use Rattle.goaccess.specs.declared.answers.Answer.TheVariants.{Help, Version}
use Rattle.goaccess.specs.declared.answers.TheConstants.{HELP, VERSION}

abbrev pub answer_to : List (List ℕ) → Option Answer
answer_to [] = None
answer_to (word ∷ next ∷ more) = None
answer_to (word ∷ []) = if bytes_eq word (codes "--help") then Some Help else (if bytes_eq word (codes "--version") then Some Version else None)

abbrev pub text_of : Answer → List ℕ
text_of Help = HELP.now
text_of Version = VERSION.now

-- the text was taken whole, or a front of it before standard output failed, once
pub record Shows (answer : Answer) (old new : OutsView) (code : ℕ) : Type 0 where
  pub shown : code ≡ 0 → new.stdout ≡ takes (text_of answer) old.stdout
  pub failed : code ≢ 0 → (code ≡ 4) × (new.stdout.faults ≡ raised old.stdout.faults 1)
  pub text : TakesOrStops (text_of answer) old.stdout new.stdout
  pub others : ChangesOnly Stdout old new
