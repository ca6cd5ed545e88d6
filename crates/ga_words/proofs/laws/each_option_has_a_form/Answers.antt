use Rattle.std.proofs.Common.{◌⊎◌, refl, inl, inr}
use Rattle.ga_words.specs.Options.{IsFlag, Takes, TakesValue}
use Rattle.ga_words.specs.Options.Takes.{Flag, Format, Name, Number, Status, Target, Addresses, OfPanel, OneOf}
use Rattle.ga_words.proofs.laws.each_option_has_a_form.Goals as goal

form : (takes : Takes) → IsFlag takes ⊎ TakesValue takes
form (Flag set) = inl (set, refl)
form (Format set) = inr (λ flag e. cc)
form (Name set) = inr (λ flag e. cc)
form (Number low high set) = inr (λ flag e. cc)
form (Status set) = inr (λ flag e. cc)
form (Target set) = inr (λ flag e. cc)
form (Addresses set) = inr (λ flag e. cc)
form (OfPanel set) = inr (λ flag e. cc)
form (OneOf words) = inr (λ flag e. cc)

pub returns : goal.returns
returns c = form
