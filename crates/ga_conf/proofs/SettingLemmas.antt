-- A setting gives one list of words at most.
use Rattle.std.proofs.Common.{◌≡◌, ℕ, Bool, false, List, [], ◌∷◌, ◌++◌, Option, Some, None, MatchOption, refl, sym, ap, ◌∙◌, subst, inl, inr, ⊎_elim, Result, Ok, Err}
use Rattle.std.specs.Prelude.{codes, ◌||◌}
use Rattle.std.specs.Result.{IfOk}
use Rattle.std.specs.Str.{bytes_eq}
use Rattle.std.proofs.lemmas.Bool.{cond-true, cond-false, cases_Bool}
use Rattle.ga_base.specs.declared.no_memory.NoMemory.{NoMemory}
use Rattle.ga_words.specs.Forms.{Accepts, IsFormOf}
use Rattle.ga_words.specs.Options.{IsFlag, IsTaken, Sets, Takes, TakesValue, takes_of}
use Rattle.ga_conf.specs.ConfFile.{FlagGives, IsOtherName, OptionGives, SettingGives, option_of, takes_in_file}
use Rattle.ga_conf.specs.Steps.{GivesAs, GivesFlag, GivesValue, words_of}
use Rattle.ga_words.specs.declared.option_form.OptionForm.{OptionForm}
use Rattle.ga_words.specs.declared.option_form.OptionForm.TheVariants as O
use Rattle.ga_conf.specs.declared.setting.Setting.{Setting}

-- a flag takes no value
pub flag_takes_none : (takes : Takes) (value : List ℕ) → IsFlag takes → ¬ IsTaken takes value
flag_takes_none takes value flag taken = subst (λ t. Sets t value taken.0 taken.1) flag.1 taken.2

one_flag : (option value : List ℕ) (one two : List (List ℕ)) → FlagGives option value one → FlagGives option value two → one ≡ two
one_flag option value one two (inl (on, is)) (inl (on', is')) = is ∙ sym is'
one_flag option value one two (inl (on, is)) (inr (off, is')) = absurd (let clash : codes "true" ≡ codes "false" = sym on ∙ off in cc)
one_flag option value one two (inr (off, is)) (inl (on, is')) = absurd (let clash : codes "true" ≡ codes "false" = sym on ∙ off in cc)
one_flag option value one two (inr (off, is)) (inr (off', is')) = is ∙ sym is'

one_option : (takes : Takes) (option value : List ℕ) (one two : List (List ℕ)) → OptionGives takes option value one → OptionGives takes option value two → one ≡ two
one_option takes option value one two (inl (flag, gives)) (inl (flag', gives')) = one_flag option value one two gives gives'
one_option takes option value one two (inl (flag, gives)) (inr (taken, is)) = absurd (flag_takes_none takes value flag taken)
one_option takes option value one two (inr (taken, is)) (inl (flag, gives)) = absurd (flag_takes_none takes value flag taken)
one_option takes option value one two (inr (taken, is)) (inr (taken', is')) = is ∙ sym is'

one_given : (found : Option Takes) (name value : List ℕ) (one two : List (List ℕ))
    → MatchOption found (IsOtherName name × (one ≡ [])) (λ takes. OptionGives takes (option_of name) value one)
    → MatchOption found (IsOtherName name × (two ≡ [])) (λ takes. OptionGives takes (option_of name) value two) → one ≡ two
one_given None name value one two gives other = gives.1 ∙ sym other.1
one_given (Some takes) name value one two gives other = one_option takes (option_of name) value one two gives other

pub one_list_of_words : (name value : List ℕ) (one two : List (List ℕ)) → SettingGives name value one → SettingGives name value two → one ≡ two
one_list_of_words name value one two gives other = one_given (takes_in_file name) name value one two gives other

-- ---- what the code finds

-- a name that is no option of a file
by_none : (name value : List ℕ) (words : List (List ℕ)) → takes_in_file name ≡ None → IsOtherName name × (words ≡ []) → SettingGives name value words
by_none name value words none is =
    subst (λ (found : Option Takes). MatchOption found (IsOtherName name × (words ≡ [])) (λ takes. OptionGives takes (option_of name) value words)) (sym none) is

pub other_given : (name value : List ℕ) → takes_in_file name ≡ None → IsOtherName name → SettingGives name value []
other_given name value none is = by_none name value [] none (is, refl)

pub none_given : (name value : List ℕ) → takes_in_file name ≡ None → ¬ IsOtherName name → (words : List (List ℕ)) → ¬ SettingGives name value words
none_given name value none bad words gives =
    let here = subst (λ (found : Option Takes). MatchOption found (IsOtherName name × (words ≡ [])) (λ takes. OptionGives takes (option_of name) value words)) none gives in bad here.0

-- what an option gives is what its setting gives
by_option : (name value : List ℕ) (takes : Takes) → takes_in_file name ≡ Some takes → (words : List (List ℕ)) → OptionGives takes (option_of name) value words → SettingGives name value words
by_option name value takes is words gives =
    subst (λ (found : Option Takes). MatchOption found (IsOtherName name × (words ≡ [])) (λ takes. OptionGives takes (option_of name) value words)) (sym is) gives

to_option : (name value : List ℕ) (takes : Takes) → takes_in_file name ≡ Some takes → (words : List (List ℕ)) → SettingGives name value words → OptionGives takes (option_of name) value words
to_option name value takes is words gives =
    subst (λ (found : Option Takes). MatchOption found (IsOtherName name × (words ≡ [])) (λ takes. OptionGives takes (option_of name) value words)) is gives

-- a setting as another relation has it
as-by : (One Two : List (List ℕ) → Type 0) (found : Option (List (List ℕ))) → ((words : List (List ℕ)) → One words → Two words) → ((words : List (List ℕ)) → Two words → One words)
    → MatchOption found ((words : List (List ℕ)) → ¬ One words) One → MatchOption found ((words : List (List ℕ)) → ¬ Two words) Two
as-by One Two None there back h = λ words two. h words (back words two)
as-by One Two (Some words) there back h = there words h

pub flag_given : (name value : List ℕ) (takes : Takes) (setting : Setting) → takes_in_file name ≡ Some takes → IsFlag takes → GivesFlag (option_of name) value setting → GivesAs name value setting
flag_given name value takes setting is flag h =
    as-by (FlagGives (option_of name) value) (SettingGives name value) (words_of setting) (λ words gives. by_option name value takes is words (inl (flag, gives)))
    (λ words gives. back words (to_option name value takes is words gives)) h
  where
    back : (words : List (List ℕ)) → OptionGives takes (option_of name) value words → FlagGives (option_of name) value words
    back words (inl (flag', gives)) = gives
    back words (inr (taken, gives)) = absurd (flag_takes_none takes value flag taken)

pub value_given : (name value : List ℕ) (takes : Takes) (setting : Setting) → takes_in_file name ≡ Some takes → takes_of (option_of name) ≡ Some takes → TakesValue takes
    → GivesValue (option_of name) value setting → GivesAs name value setting
value_given name value takes setting is in_table with_value h =
    as-by (λ words. Accepts (option_of name) value × (words ≡ (option_of name ++ codes "=" ++ value) ∷ [])) (SettingGives name value) (words_of setting)
    (λ words gives. by_option name value takes is words (inr (taken gives.0, gives.1)))
    (λ words gives. back words (to_option name value takes is words gives)) h
  where
    taken : Accepts (option_of name) value → IsTaken takes value
    taken accepts = let same : Some accepts.takes ≡ Some takes = sym accepts.option ∙ in_table in let here : accepts.takes ≡ takes = cc in subst (λ t. IsTaken t value) here accepts.taken

    back : (words : List (List ℕ)) → OptionGives takes (option_of name) value words → Accepts (option_of name) value × (words ≡ (option_of name ++ codes "=" ++ value) ∷ [])
    back words (inl (flag, gives)) = absurd (with_value flag.0 flag.1)
    back words (inr (taken, gives)) = (record { takes = takes; option = in_table; taken = taken }, gives)

-- an option of a file is one of the command line
pub in_table : (name : List ℕ) (takes : Takes) → takes_in_file name ≡ Some takes → takes_of (option_of name) ≡ Some takes
in_table name takes is = ⊎_elim
    (λ left. let clash : None ≡ Some takes = sym (cond-true _ _ _ left) ∙ is in cc)
    (λ kept. sym (cond-false _ _ _ kept) ∙ is)
    (cases_Bool (bytes_eq name (codes "generate") || bytes_eq name (codes "config-file")))

-- what the code finds of an option of this form
pub flag_answer : (name value shown : List ℕ) (form : OptionForm) (r : Result Setting NoMemory) → form ≡ O.Flag → shown ≡ option_of name
    → ((takes : Takes) × (takes_in_file name ≡ Some takes) × IsFormOf takes form) → IfOk r (GivesFlag shown value) → IfOk r (GivesAs name value)
flag_answer name value shown form (Err e) flag is found h = tt
flag_answer name value shown form (Ok setting) flag is found h =
    flag_given name value found.0 setting found.1 (subst (IsFormOf found.0) flag found.2) (subst (λ option. GivesFlag option value setting) is h)

pub value_answer : (name value shown : List ℕ) (form : OptionForm) (r : Result Setting NoMemory) → form ≡ O.Value → shown ≡ option_of name
    → ((takes : Takes) × (takes_in_file name ≡ Some takes) × IsFormOf takes form) → IfOk r (GivesValue shown value) → IfOk r (GivesAs name value)
value_answer name value shown form (Err e) is_value is found h = tt
value_answer name value shown form (Ok setting) is_value is found h =
    value_given name value found.0 setting found.1 (in_table name found.0 found.1) (subst (IsFormOf found.0) is_value found.2) (subst (λ option. GivesValue option value setting) is h)

-- the form of an option whose name a file may have
neither : (a b : Bool) → a ≡ false → b ≡ false → (a || b) ≡ false
neither a b first second = subst (λ c. (c || b) ≡ false) (sym first) second

pub form_in_file : (name option : List ℕ) (found : Option OptionForm) → option ≡ option_of name → bytes_eq name (codes "generate") ≡ false → bytes_eq name (codes "config-file") ≡ false
    → MatchOption found (takes_of option ≡ None) (λ form. (takes : Takes) × (takes_of option ≡ Some takes) × IsFormOf takes form)
    → MatchOption found (takes_in_file name ≡ None) (λ form. (takes : Takes) × (takes_in_file name ≡ Some takes) × IsFormOf takes form)
form_in_file name option found is other none form =
    let same : takes_of option ≡ takes_in_file name =
    ap takes_of is ∙ sym (cond-false _ _ _ (neither (bytes_eq name (codes "generate")) (bytes_eq name (codes "config-file")) other none)) in
    subst (λ (takes : Option Takes). MatchOption found (takes ≡ None) (λ form. (t : Takes) × (takes ≡ Some t) × IsFormOf t form)) same form
