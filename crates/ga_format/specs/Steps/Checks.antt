-- What the steps of the compiler promise to one another.
use Rattle.std.specs.Prelude.{◌≡◌, ℕ, Bool, true, false, List, Option, Some, None}
use Rattle.ga_base.specs.declared.formats.FormatItem.{FormatItem}
use Rattle.ga_base.specs.declared.formats.FormatItem.TheVariants.{Literal, Skip, Field, Forwarded}
use Rattle.ga_base.specs.declared.formats.FormatFault.{FormatFault}
use Rattle.ga_base.specs.declared.formats.FormatFault.TheVariants.{UnknownSpecifier, Repeated, NoDelimiter, Missing, BadDirective, NotJson, BadShape, Leaf, NoMemory}
use Rattle.ga_format.specs.Units.{FormatUnit, Begins, item_of}
use Rattle.ga_format.specs.FieldKinds.{repeats}

-- the unit at the front of the text gives this item, and these bytes come after it
pub record GivesUnit (text : List ℕ) (item : FormatItem) (after : List ℕ) : Type 0 where
  pub unit : FormatUnit
  pub begins : Begins unit text after
  pub is_item : item ≡ item_of unit

-- whether the item is a literal, whose byte has to come next
abbrev pub is_literal : FormatItem → Bool
is_literal (Literal byte) = true
is_literal Skip = false
is_literal (Field letter) = false
is_literal (Forwarded separators) = false

-- the item may come next: where a field has to end here, it is a literal
abbrev pub Ends : Option ℕ → FormatItem → Type 0
Ends None item = Unit {0}
Ends (Some field) item = is_literal item ≡ true

-- the fault for which an item may not come next: the place of the field that it should end, or its own
abbrev pub IsRefused : List FormatItem → Option ℕ → FormatItem → ℕ → FormatFault → Type 0
IsRefused earlier field item at (NoDelimiter place) = (field ≡ Some place) × (is_literal item ≡ false)
IsRefused earlier field item at (Repeated place) = (place ≡ at) × Ends field item × (repeats earlier item ≡ true)
IsRefused earlier field item at (UnknownSpecifier place) = ⊥
IsRefused earlier field item at (Missing need) = ⊥
IsRefused earlier field item at (BadDirective place) = ⊥
IsRefused earlier field item at NotJson = ⊥
IsRefused earlier field item at (BadShape number) = ⊥
IsRefused earlier field item at (Leaf number kind place) = ⊥
IsRefused earlier field item at NoMemory = ⊥
