-- What may follow the name of an option, for those that write words and don't set anything by them.
use Rattle.std.specs.Prelude.{◌≡◌, ℕ, Some, List}
use Rattle.ga_words.specs.declared.option_form.OptionForm.{OptionForm}
use Rattle.ga_words.specs.declared.option_form.OptionForm.TheVariants as O
use Rattle.ga_words.specs.Options.{IsFlag, IsTaken, Takes, TakesValue, takes_of}

abbrev pub IsFormOf : Takes → OptionForm → Type 0
IsFormOf takes O.Flag = IsFlag takes
IsFormOf takes O.Value = TakesValue takes

-- the option of this name takes this value
pub record Accepts (name value : List ℕ) : Type 0 where
  pub takes : Takes
  pub option : takes_of name ≡ Some takes
  pub taken : IsTaken takes value
