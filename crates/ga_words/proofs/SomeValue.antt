-- By each value an option makes one thing of all settings, or the value is outside its column.
use mathlib.Core.Logic.Dec.{and, of_iff}
use Rattle.std.proofs.Common.{◌≡◌, ◌≢◌, ℕ, ◌≤◌, ◌⊎◌, Option, Some, None, List, [], ◌++◌, length, codes, refl, ap, ◌∙◌, subst, inl, inr}
use Rattle.std.specs.Map.{lookup}
use Rattle.std.specs.Str.{bytes_eq}
use Rattle.std.specs.Str.Parse.{IsNumeral, digits_value}
use Rattle.ga_base.specs.declared.panel.Panel.{Panel}
use Rattle.ga_words.specs.declared.settings.Settings.{Settings}
use Rattle.ga_words.specs.declared.settings.Output.{Output}
use Rattle.ga_words.specs.declared.settings.Kind.{Kind}
use Rattle.ga_words.specs.declared.settings.Kind.TheVariants.{Json, Csv}
use Rattle.ga_words.specs.Values.{IsNumber, NamesFile, NamesOutput, panel_named}
use Rattle.ga_words.specs.Options.{Takes, Sets, IsOutside}
use Rattle.ga_words.specs.Options.Takes.{Flag, Format, Name, Number, Status, Target, Addresses, OfPanel, OneOf}
use Rattle.ga_words.proofs.Decided.{either, has-items, same-text, at-most, Cut, some-cut}
use Rattle.ga_words.proofs.SomeRange.{OneAddress, is-numeral, some-range}

module _ (shortest longest low high : ℕ) (text : List ℕ) where
  abbrev Fits : Type 0
  Fits = (IsNumeral 10 text × ((shortest ≤ length text) × (length text ≤ longest))) × ((low ≤ digits_value 10 text) × (digits_value 10 text ≤ high))

  fits-number : Fits → (n : ℕ) × IsNumber shortest longest low high text n
  fits-number h = (digits_value 10 text, record { digits = h.0.0; count = h.0.1; value = refl; between = h.1 })

  number-fits : (n : ℕ) → IsNumber shortest longest low high text n → Fits
  number-fits n h = ((h.digits, h.count), subst (λ (m : ℕ). (low ≤ m) × (m ≤ high)) h.value h.between)

  some-number : Dec ((n : ℕ) × IsNumber shortest longest low high text n)
  some-number =
      of_iff (fits-number, λ h. number-fits h.0 h.1)
      (and
      (and (is-numeral 10 text) (and (at-most shortest (length text)) (at-most (length text) longest)))
      (and (at-most low (digits_value 10 text)) (at-most (digits_value 10 text) high)))

-- the text ends so, and has a byte before that
abbrev EndsSo : List ℕ → List ℕ → Type 0
EndsSo ending text = Cut text (λ front back. (front ≢ []) × (back ≡ ending))

ends-so : (ending text : List ℕ) → Dec (EndsSo ending text)
ends-so ending text = some-cut text _ (λ front back. and (has-items front) (same-text back ending))

abbrev Targets : List ℕ → Type 0
Targets text = ((text ≡ codes "json") ⊎ (text ≡ codes "csv")) ⊎ (EndsSo (codes ".json") text ⊎ EndsSo (codes ".csv") text)

abbrev SomeOutput : List ℕ → Type 0
SomeOutput text = (output : Output) × NamesOutput text output

file-of : (kind : Kind) (ending text : List ℕ) → EndsSo ending text → NamesFile text ending kind (record { kind = kind; name = text })
file-of kind ending text (front, back, split, (some, is)) =
    record { front = front; some = some; spelled = split ∙ ap (λ (x : List ℕ). front ++ x) is; is = refl }

target-output : (text : List ℕ) → Targets text → SomeOutput text
target-output text (inl (inl e)) = (record { kind = Json; name = [] }, inl record { spelled = e; is = refl })
target-output text (inl (inr e)) = (record { kind = Csv; name = [] }, inr (inl record { spelled = e; is = refl }))
target-output text (inr (inl h)) = (record { kind = Json; name = text }, inr (inr (inl (file-of Json (codes ".json") text h))))
target-output text (inr (inr h)) = (record { kind = Csv; name = text }, inr (inr (inr (file-of Csv (codes ".csv") text h))))

output-target : (text : List ℕ) → SomeOutput text → Targets text
output-target text (output, inl h) = inl (inl h.spelled)
output-target text (output, inr (inl h)) = inl (inr h.spelled)
output-target text (output, inr (inr (inl h))) = inr (inl (h.front, codes ".json", h.spelled, (h.some, refl)))
output-target text (output, inr (inr (inr h))) = inr (inr (h.front, codes ".csv", h.spelled, (h.some, refl)))

some-output : (text : List ℕ) → Dec (SomeOutput text)
some-output text =
    of_iff (target-output text, output-target text)
    (either
    (either (same-text text (codes "json")) (same-text text (codes "csv")))
    (either (ends-so (codes ".json") text) (ends-so (codes ".csv") text)))

some-setting : (found : Option (Settings → Settings)) → Dec ((set : Settings → Settings) × (found ≡ Some set))
some-setting None = no (λ h. let e = h.1 in cc)
some-setting (Some set) = yes (set, refl)

some-panel : (found : Option Panel) → Dec ((panel : Panel) × (found ≡ Some panel))
some-panel None = no (λ h. let e = h.1 in cc)
some-panel (Some panel) = yes (panel, refl)

-- the option makes something of these settings by this value, or the value is outside its column
abbrev pub IsJudged : Takes → List ℕ → Settings → Type 0
IsJudged takes value old = ((new : Settings) × Sets takes value old new) ⊎ IsOutside takes value

pub judged : (one_address : OneAddress) (takes : Takes) (value : List ℕ) (old : Settings) → IsJudged takes value old
judged one_address (Flag set) value old = inr (λ before after h. h)
judged one_address (Format set) value old = inl (set value old, refl)
judged one_address (Name set) value old = elim (has-items value) [ yes some ↦ inl (set value old, (some, refl)) | no none ↦ inr (λ before after h. none h.0) ]
judged one_address (Number low high set) value old =
    elim (some-number 1 10 low high value) [ yes h ↦ inl (set h.0 old, (h.0, h.1, refl)) | no none ↦ inr (λ before after h. none (h.0, h.1)) ]
judged one_address (Status set) value old =
    elim (some-number 3 3 100 599 value) [ yes h ↦ inl (set h.0 old, (h.0, h.1, refl)) | no none ↦ inr (λ before after h. none (h.0, h.1)) ]
judged one_address (Target set) value old =
    elim (some-output value) [ yes h ↦ inl (set h.0 old, (h.0, h.1, refl)) | no none ↦ inr (λ before after h. none (h.0, h.1)) ]
judged one_address (Addresses set) value old =
    elim (some-range one_address value) [ yes h ↦ inl (set h.0 old, (h.0, h.1, refl)) | no none ↦ inr (λ before after h. none (h.0, h.1)) ]
judged one_address (OfPanel set) value old =
    elim (some-panel (panel_named value)) [ yes h ↦ inl (set h.0 old, (h.0, h.1, refl)) | no none ↦ inr (λ before after h. none (h.0, h.1)) ]
judged one_address (OneOf words) value old =
    elim (some-setting (lookup (λ word. bytes_eq word value) words)) [ yes h ↦ inl (h.0 old, (h.0, h.1, refl)) | no none ↦ inr (λ before after h. none (h.0, h.1)) ]
