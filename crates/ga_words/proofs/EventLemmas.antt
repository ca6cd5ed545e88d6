-- What is at the front of words: a unit, a fault, or `--` with logs after it, and always one of these alone.
use Rattle.std.proofs.Common.{◌≡◌, ◌+◌, ℕ, Option, Some, None, List, [], ◌∷◌, ◌++◌, codes, refl, sym, ap, subst, inl, inr, ◌⊎◌}
use Rattle.ga_words.specs.declared.settings.Settings.{Settings}
use Rattle.ga_words.specs.declared.fault.WordFault.{WordFault}
use Rattle.ga_words.specs.declared.fault.WordFault.TheVariants.{UnknownOption, MissingValue, BadValue, NoFormat, NoInput, Conflict, NoMemory}
use Rattle.ga_words.specs.Options.{Takes, Sets, IsOutside, TakesValue}
use Rattle.ga_words.specs.Options.Takes.{Flag, Format, Name, Number, Status, Target, Addresses, OfPanel, OneOf}
use Rattle.ga_words.specs.Units.{WordUnit, written, Makes, AreNamed}
use Rattle.ga_words.specs.Units.WordUnit.{Alone, Joined, Separate, Log}
use Rattle.ga_words.specs.WordsOf.{BeginsWithFault, IsBadTail}
use Rattle.ga_words.proofs.ClassLemmas.{Class, class_of, is-log, is-option, is-joined, is-no_option}
use Rattle.ga_words.proofs.ClassLemmas.Class.{Nameless, Tail, LogName, OptionName, WithValue, NoOption}

pub data Event : Type 0 where
  Reads : WordUnit → List (List ℕ) → Settings → Event
  Faults : WordFault → Event
  Ends : List (List ℕ) → Event

abbrev pub flag_of : Takes → Option (Settings → Settings)
flag_of (Flag set) = Some set
flag_of _ = None

value-no_flag : (takes : Takes) → TakesValue takes → flag_of takes ≡ None
value-no_flag (Flag set) h = absurd (h set refl)
value-no_flag (Format set) h = refl
value-no_flag (Name set) h = refl
value-no_flag (Number low high set) h = refl
value-no_flag (Status set) h = refl
value-no_flag (Target set) h = refl
value-no_flag (Addresses set) h = refl
value-no_flag (OfPanel set) h = refl
value-no_flag (OneOf words) h = refl

sets-no_flag : (takes : Takes) (value : List ℕ) (old new : Settings) → Sets takes value old new → flag_of takes ≡ None
sets-no_flag (Flag set) value old new h = absurd h
sets-no_flag (Format set) value old new h = refl
sets-no_flag (Name set) value old new h = refl
sets-no_flag (Number low high set) value old new h = refl
sets-no_flag (Status set) value old new h = refl
sets-no_flag (Target set) value old new h = refl
sets-no_flag (Addresses set) value old new h = refl
sets-no_flag (OfPanel set) value old new h = refl
sets-no_flag (OneOf words) value old new h = refl

-- an option with this value: a unit, or a bad value
abbrev pub HasValue : WordUnit → List (List ℕ) → ℕ → Takes → List ℕ → Settings → Event → Type 0
HasValue unit rest at takes value old event =
    ((new : Settings) × Sets takes value old new × (event ≡ Reads unit rest new)) ⊎ (IsOutside takes value × (event ≡ Faults (BadValue at)))

abbrev pub HasOption : Option (Settings → Settings) → Takes → List ℕ → List (List ℕ) → ℕ → Settings → Event → Type 0
HasOption (Some set) takes word after at old event = event ≡ Reads (Alone word) after (set old)
HasOption None takes word [] at old event = event ≡ Faults (MissingValue at)
HasOption None takes word (value ∷ more) at old event = HasValue (Separate word value) more (at + 1) takes value old event

abbrev pub HasTail : List (List ℕ) → ℕ → Event → Type 0
HasTail after at event = ((event ≡ Ends after) × AreNamed after) ⊎ ((k : ℕ) × (event ≡ Faults (BadValue (at + 1 + k))) × IsBadTail (codes "--" ∷ after) k)

abbrev pub Has : Class → List ℕ → List (List ℕ) → ℕ → Settings → Event → Type 0
Has Nameless word after at old event = event ≡ Faults (BadValue at)
Has Tail word after at old event = HasTail after at event
Has LogName word after at old event = event ≡ Reads (Log word) after (record old { logs = old.logs ++ word ∷ [] })
Has (OptionName takes) word after at old event = HasOption (flag_of takes) takes word after at old event
Has (WithValue name takes value) word after at old event = HasValue (Joined name value) after at takes value old event
Has NoOption word after at old event = event ≡ Faults (UnknownOption at)

abbrev pub HasEvent : ℕ → List (List ℕ) → Settings → Event → Type 0
HasEvent at [] old event = ⊥
HasEvent at (word ∷ after) old event = Has (class_of word) word after at old event

of-class : (word : List ℕ) (after : List (List ℕ)) (at : ℕ) (old : Settings) (event : Event) (class : Class) → class_of word ≡ class → Has class word after at old event → Has (class_of word) word after at old event
of-class word after at old event class e h = subst (λ (k : Class). Has k word after at old event) (sym e) h

-- a unit at the front is the event
pub unit-event : (at : ℕ) (unit : WordUnit) (rest : List (List ℕ)) (old new : Settings) → Makes unit old new → HasEvent at (written unit ++ rest) old (Reads unit rest new)
unit-event at (Alone name) rest old new h =
    of-class name rest at old (Reads (Alone name) rest new) (OptionName (Flag h.0)) (is-option name (Flag h.0) h.1) (ap (Reads (Alone name) rest) h.2)
unit-event at (Joined name value) rest old new h =
    of-class (name ++ codes "=" ++ value) rest at old (Reads (Joined name value) rest new) (WithValue name h.0 value) (is-joined name value h.0 h.1 h.2) (inl (new, h.3, refl))
unit-event at (Separate name value) rest old new h =
    of-class name (value ∷ rest) at old (Reads (Separate name value) rest new) (OptionName h.0) (is-option name h.0 h.1)
    (subst (λ (o : Option (Settings → Settings)). HasOption o h.0 name (value ∷ rest) at old (Reads (Separate name value) rest new)) (sym (sets-no_flag h.0 value old new h.2)) (inl (new, h.2, refl)))
unit-event at (Log name) rest old new h =
    of-class name rest at old (Reads (Log name) rest new) LogName (is-log name h.0 h.1) (ap (Reads (Log name) rest) h.2)

-- a fault at the front is the event
pub fault-event : (at : ℕ) (words : List (List ℕ)) (fault : WordFault) (old : Settings) → BeginsWithFault at words fault → HasEvent at words old (Faults fault)
fault-event at words (UnknownOption place) old (same, (word, more, is, none)) =
    subst (λ (w : List (List ℕ)). HasEvent at w old (Faults (UnknownOption place))) (sym is)
    (of-class word more at old (Faults (UnknownOption place)) NoOption (is-no_option word none) (ap (λ (n : ℕ). Faults (UnknownOption n)) same))
fault-event at words (MissingValue place) old (same, lacks) =
    subst (λ (w : List (List ℕ)). HasEvent at w old (Faults (MissingValue place))) (sym lacks.last)
    (of-class lacks.name [] at old (Faults (MissingValue place)) (OptionName lacks.takes) (is-option lacks.name lacks.takes lacks.option)
    (subst (λ (o : Option (Settings → Settings)). HasOption o lacks.takes lacks.name [] at old (Faults (MissingValue place))) (sym (value-no_flag lacks.takes lacks.value))
    (ap (λ (n : ℕ). Faults (MissingValue n)) same)))
fault-event at words (BadValue place) old (inl (same, bad)) =
    subst (λ (w : List (List ℕ)). HasEvent at w old (Faults (BadValue place))) (sym bad.words_are)
    (of-class (bad.name ++ codes "=" ++ bad.value) bad.more at old (Faults (BadValue place)) (WithValue bad.name bad.takes bad.value) (is-joined bad.name bad.value bad.takes bad.option bad.long)
    (inr (bad.outside, ap (λ (n : ℕ). Faults (BadValue n)) same)))
fault-event at words (BadValue place) old (inr (inl (same, bad))) =
    subst (λ (w : List (List ℕ)). HasEvent at w old (Faults (BadValue place))) (sym bad.words_are)
    (of-class bad.name (bad.value ∷ bad.more) at old (Faults (BadValue place)) (OptionName bad.takes) (is-option bad.name bad.takes bad.option)
    (subst (λ (o : Option (Settings → Settings)). HasOption o bad.takes bad.name (bad.value ∷ bad.more) at old (Faults (BadValue place))) (sym (value-no_flag bad.takes bad.with_value))
    (inr (bad.outside, ap (λ (n : ℕ). Faults (BadValue n)) same))))
fault-event at words (BadValue place) old (inr (inr (inl (same, (more, is))))) =
    subst (λ (w : List (List ℕ)). HasEvent at w old (Faults (BadValue place))) (sym is) (ap (λ (n : ℕ). Faults (BadValue n)) same)
fault-event at words (BadValue place) old (inr (inr (inr (k, same, bad)))) =
    subst (λ (w : List (List ℕ)). HasEvent at w old (Faults (BadValue place))) (sym bad.words_are)
    (inr (k, ap (λ (n : ℕ). Faults (BadValue n)) same, record { named = bad.named; more = bad.more; words_are = refl; are_named = bad.are_named; count = bad.count }))
fault-event at words NoFormat old h = absurd h
fault-event at words NoInput old h = absurd h
fault-event at words (Conflict place) old h = absurd h
fault-event at words NoMemory old h = absurd h

pub tail-event : (at : ℕ) (logs : List (List ℕ)) (old : Settings) → AreNamed logs → HasEvent at (codes "--" ∷ logs) old (Ends logs)
tail-event at logs old named = inl (refl, named)
