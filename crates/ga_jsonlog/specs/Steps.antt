-- What the functions of this crate promise to one another. No public contract names it.
use Rattle.std.specs.Prelude.{◌≡◌, ℕ, List}
use Rattle.ga_base.specs.declared.formats.FormatItem.{FormatItem}
use Rattle.ga_base.specs.declared.formats.FormatFault.{FormatFault}
use Rattle.ga_base.specs.declared.formats.FormatFault.TheVariants.{UnknownSpecifier, Repeated, NoDelimiter, Missing, BadDirective, NotJson, BadShape, Leaf, NoMemory}
use Rattle.ga_base.specs.declared.formats.LeafFault.TheVariants as kinds
use Rattle.ga_format.specs.FormatOf.{IsFirstPlaced}
use Rattle.ga_jsonlog.specs.declared.places.Place.{Place}
use Rattle.ga_jsonlog.specs.JsonFormats.{HasBadLeaf, HasBadShape, fault_at}

-- the fault of a format that a fault of leaf number `leaf` is; what no text of a leaf has becomes lack of memory
abbrev pub IsFaultIn : ℕ → FormatFault → FormatFault → Type 0
IsFaultIn leaf (UnknownSpecifier at) told = told ≡ Leaf leaf kinds.Unknown at
IsFaultIn leaf (Repeated at) told = told ≡ Leaf leaf kinds.Repeated at
IsFaultIn leaf (NoDelimiter at) told = told ≡ Leaf leaf kinds.NoDelimiter at
IsFaultIn leaf _ told = told ≡ NoMemory

-- the fault of a leaf's text, by the leaf's number
abbrev pub IsLeafFault : List FormatItem → List ℕ → ℕ → FormatFault → Type 0
IsLeafFault given text leaf (Leaf number kind at) = (number ≡ leaf) × IsFirstPlaced given text (fault_at kind at)
IsLeafFault given text leaf _ = ⊥

-- the fault of the first place that isn't good
abbrev pub IsPlaceFault : List Place → FormatFault → Type 0
IsPlaceFault places (BadShape leaf) = HasBadShape places leaf
IsPlaceFault places (Leaf leaf kind at) = HasBadLeaf places leaf kind at
IsPlaceFault places _ = ⊥
