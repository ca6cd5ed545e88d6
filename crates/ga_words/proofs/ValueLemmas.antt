-- A value that names no number, no target of the report, no addresses, no panel and none of the option's words is none of
-- the option's.
use Rattle.std.proofs.Common.{◌≡◌, ◌∙◌, ℕ, List, ◌↔◌, refl, sym, ap, inr, Result, Ok, Err, Bool, Option, Some, None, option_map}
use Rattle.std.specs.Map.{lookup}
use Rattle.std.specs.Str.{bytes_eq}
use Rattle.ga_hosts.specs.Ranges.{SpellsRange}
use Rattle.ga_hosts.specs.declared.range.Range.{Range}
use Rattle.ga_words.specs.declared.settings.Output.{Output}
use Rattle.ga_words.specs.declared.settings.Settings.{Settings}
use Rattle.ga_words.specs.declared.fault.WordFault.TheVariants.{BadValue}
use Rattle.ga_words.specs.declared.options.Number.{Number as CodeNumber}
use Rattle.ga_words.specs.declared.options.Takes.TheVariants as C
use Rattle.ga_words.specs.Options.{IsOutside, Sets}
use Rattle.ga_words.specs.Options.Takes.{OneOf}
use Rattle.ga_words.specs.Values.{IsNumber, NamesOutput, panel_named}
use Rattle.ga_words.specs.Steps.Settings.{IsValueFault}

module _ (value : List ℕ) (at : ℕ) where
  pub no-number : (number : CodeNumber) (low high : ℕ) → ((n : ℕ) → ¬ IsNumber 1 10 low high value n) → IsValueFault (C.Number number low high) value at (BadValue at)
  no-number number low high none = inr (refl, λ old new set. none set.0 set.1)

  pub no-status : ((n : ℕ) → ¬ IsNumber 3 3 100 599 value n) → IsValueFault C.Status value at (BadValue at)
  no-status none = inr (refl, λ old new set. none set.0 set.1)

  pub no-target : ((output : Output) → ¬ NamesOutput value output) → IsValueFault C.Target value at (BadValue at)
  no-target none = inr (refl, λ old new set. none set.0 set.1)

  pub no-addresses : ((range : Range) → ¬ SpellsRange value range) → IsValueFault C.Addresses value at (BadValue at)
  no-addresses none = inr (refl, λ old new set. none set.0 set.1)

  pub no-panel : (on : Bool) → panel_named value ≡ None → IsValueFault (C.OfPanel on) value at (BadValue at)
  no-panel on none = inr (refl, λ old new set. let named = set.1 in cc)

-- one of the words of an option, found in a table of what they name
module _ {X : Type 0} (set : X → Settings → Settings) (words : List (List ℕ × (Settings → Settings))) (value : List ℕ) where
  pub sets-one : (found : Option X) (x : X) (old : Settings) → option_map set found ≡ lookup (λ word. bytes_eq word value) words → found ≡ Some x → Sets (OneOf words) value old (set x old)
  sets-one found x old named is = (set x, sym named ∙ ap (option_map set) is, refl)

  pub sets-none : (found : Option X) → option_map set found ≡ lookup (λ word. bytes_eq word value) words → found ≡ None → IsOutside (OneOf words) value
  sets-none found named is old new sets = let none = sym named ∙ ap (option_map set) is in let some = sets.1 in cc

pub no-range : {E : Type 0} (read : Result Range E) (e : E) (text : List ℕ) → read ≡ Err e → ((range : Range) → (read ≡ Ok range) ↔ SpellsRange text range) → (range : Range) → ¬ SpellsRange text range
no-range read e text is ok range spells = let own = (ok range).1 spells in cc
