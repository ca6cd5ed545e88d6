-- What an option found in the code's table takes, and whether it takes a value.
use Rattle.std.proofs.Common.{◌≡◌, ℕ, Bool, false, MatchBool, List, Option, Some, None, option_map, Result, Ok, Err, IfOk, sym, ap, ◌∙◌, subst, inl, inr}
use Rattle.ga_base.specs.declared.no_memory.NoMemory.{NoMemory as NoMemoryFault}
use Rattle.ga_words.specs.declared.settings.Settings.{Settings}
use Rattle.ga_words.specs.declared.fault.WordFault.{WordFault}
use Rattle.ga_words.specs.declared.fault.WordFault.TheVariants.{NoMemory}
use Rattle.ga_words.specs.declared.options.Takes.{Takes as CodeTakes}
use Rattle.ga_words.specs.declared.options.Takes.TheVariants as C
use Rattle.ga_words.specs.declared.options.Flag.{Flag as CodeFlag}
use Rattle.ga_words.specs.Forms.{Accepts}
use Rattle.ga_words.specs.Options.{IsFlag, Sets, Takes, TakesValue, takes_of}
use Rattle.ga_words.specs.Steps.Settings.{IsValueFault, meaning, with_flag}
use Rattle.ga_words.proofs.UnitLemmas.{takes-value}

in-table : (name : List ℕ) (found : Option CodeTakes) (takes : CodeTakes) → option_map meaning found ≡ takes_of name → found ≡ Some takes → takes_of name ≡ Some (meaning takes)
in-table name found takes is some = sym is ∙ ap (option_map meaning) some

-- no option of the name takes anything
pub accepts-none : (name value : List ℕ) (found : Option CodeTakes) → option_map meaning found ≡ takes_of name → found ≡ None → ¬ Accepts name value
accepts-none name value found is none accepts = let absent : takes_of name ≡ None = sym is ∙ ap (option_map meaning) none in let there = accepts.option in cc

pub accepts-value : (name value : List ℕ) (found : Option CodeTakes) (takes : CodeTakes) (old new : Settings) → option_map meaning found ≡ takes_of name → found ≡ Some takes
    → Sets (meaning takes) value old new → Accepts name value
accepts-value name value found takes old new is some sets = record { takes = meaning takes; option = in-table name found takes is some; taken = (old, new, sets) }

pub accepts-not : (name value : List ℕ) (found : Option CodeTakes) (takes : CodeTakes) (at : ℕ) (fault : WordFault) → option_map meaning found ≡ takes_of name → found ≡ Some takes
    → (fault ≡ NoMemory → ⊥) → IsValueFault takes value at fault → ¬ Accepts name value
accepts-not name value found takes at fault is some other (inl memory) accepts = other memory
accepts-not name value found takes at fault is some other (inr bad) accepts =
    let same : Some accepts.takes ≡ Some (meaning takes) = sym accepts.option ∙ in-table name found takes is some in
    let here : accepts.takes ≡ meaning takes = cc in
    bad.1 accepts.taken.0 accepts.taken.1 (subst (λ t. Sets t value accepts.taken.0 accepts.taken.1) here accepts.taken.2)

-- a value that isn't taken, as the code answers
pub refused-answer : (name value : List ℕ) (found : Option CodeTakes) (takes : CodeTakes) (at : ℕ) (fault : WordFault) (r : Result Bool NoMemoryFault)
    → option_map meaning found ≡ takes_of name → found ≡ Some takes → IsValueFault takes value at fault → IfOk r (λ answer. (answer ≡ false) × (fault ≡ NoMemory → ⊥))
    → IfOk r (λ answer. MatchBool answer (Accepts name value) (¬ Accepts name value))
refused-answer name value found takes at fault (Err e) is some bad h = tt
refused-answer name value found takes at fault (Ok answer) is some bad h =
    subst (λ (b : Bool). MatchBool b (Accepts name value) (¬ Accepts name value)) (sym h.0) (accepts-not name value found takes at fault is some h.1 bad)

-- ---- its form

pub form-flag : (name : List ℕ) (found : Option CodeTakes) (takes : CodeTakes) (flag : CodeFlag) → option_map meaning found ≡ takes_of name → found ≡ Some takes → takes ≡ C.Flag flag
    → (t : Takes) × (takes_of name ≡ Some t) × IsFlag t
form-flag name found takes flag is some flagged = (meaning takes, in-table name found takes is some, (with_flag flag, ap meaning flagged))

pub form-value : (name : List ℕ) (found : Option CodeTakes) (takes : CodeTakes) → option_map meaning found ≡ takes_of name → found ≡ Some takes
    → ((flag : CodeFlag) → takes ≡ C.Flag flag → ⊥) → (t : Takes) × (takes_of name ≡ Some t) × TakesValue t
form-value name found takes is some none = (meaning takes, in-table name found takes is some, takes-value takes none)
