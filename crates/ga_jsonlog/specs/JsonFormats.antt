-- What a JSON format means: its leaves, or its first fault.
use Rattle.std.specs.Prelude.{◌≡◌, ℕ, true, List, [], ◌∷◌, ◌++◌, length, Result, Ok, Err}
use Rattle.std.specs.List.{flat_map, list_any}
use Rattle.serde_json.specs.Data.{Members, object}
use Rattle.ga_base.specs.declared.formats.FormatItem.{FormatItem}
use Rattle.ga_base.specs.declared.formats.FormatFault.{FormatFault}
use Rattle.ga_base.specs.declared.formats.FormatFault.TheVariants.{UnknownSpecifier, Repeated, NoDelimiter, Missing, BadDirective, NotJson, BadShape, Leaf, NoMemory}
use Rattle.ga_base.specs.declared.formats.LeafFault.{LeafFault}
use Rattle.ga_base.specs.declared.formats.LeafFault.TheVariants as kinds
use Rattle.ga_base.specs.declared.formats.Needed.{Needed}
use Rattle.ga_format.specs.FieldKinds.{IsFirstMissing, gives}
use Rattle.ga_format.specs.FormatOf.{IsFirstPlaced, ItemsOf}
use Rattle.ga_jsonlog.specs.declared.leaf.JsonLeaf.{JsonLeaf}
use Rattle.ga_jsonlog.specs.declared.leaf.PathStep.{PathStep}
use Rattle.ga_jsonlog.specs.declared.places.Place.{Place}
use Rattle.ga_jsonlog.specs.declared.places.Place.TheVariants as spots
use Rattle.ga_jsonlog.specs.Objects.{IsObject}
use Rattle.ga_jsonlog.specs.Places.{places}

-- the places of an object
abbrev pub places_of : Members → List Place
places_of members = places [] (object members)

-- the items of all these leaves
abbrev pub all_items : List JsonLeaf → List FormatItem
all_items leaves = flat_map (λ leaf. leaf.items) leaves

-- These places are good ones, with these leaves: each is a text, and has items after the earlier items and those of the leaves
-- before it.
abbrev pub AreLeaves : List FormatItem → List Place → List JsonLeaf → Type 0
AreLeaves earlier [] leaves = leaves ≡ []
AreLeaves earlier (spots.Leaf path text ∷ more) leaves = (items : List FormatItem) × (later : List JsonLeaf)
    × (leaves ≡ record { path = path; items = items } ∷ later) × ItemsOf earlier text (Ok items) × AreLeaves (earlier ++ items) more later
AreLeaves earlier (spots.Bad ∷ more) leaves = ⊥

-- the places before this one are good, and there are so many
pub record IsFirstBad (all : List Place) (place : Place) (leaves : List JsonLeaf) (number : ℕ) : Type 0 where
  pub before : List Place
  pub after : List Place
  pub split : all ≡ before ++ place ∷ after
  pub good : AreLeaves [] before leaves
  pub count : number ≡ length before

-- what stands where leaf number `number` would come is no place for one
abbrev pub HasBadShape : List Place → ℕ → Type 0
HasBadShape all number = (leaves : List JsonLeaf) × IsFirstBad all spots.Bad leaves number

-- the fault of a text that a leaf's fault of this kind is
abbrev pub fault_at : LeafFault → ℕ → FormatFault
fault_at kinds.Unknown at = UnknownSpecifier at
fault_at kinds.Repeated at = Repeated at
fault_at kinds.NoDelimiter at = NoDelimiter at

-- the text of leaf number `number` has this first fault, after the items of the leaves before it
abbrev pub HasBadLeaf : List Place → ℕ → LeafFault → ℕ → Type 0
HasBadLeaf all number kind at = (path : List PathStep) × (text : List ℕ) × (leaves : List JsonLeaf)
    × IsFirstBad all (spots.Leaf path text) leaves number × IsFirstPlaced (all_items leaves) text (fault_at kind at)

-- all places are good, and no leaf gives this
abbrev pub LacksPart : List Place → Needed → Type 0
LacksPart all need = (leaves : List JsonLeaf) × AreLeaves [] all leaves × IsFirstMissing (all_items leaves) need

-- what is wrong with these places
abbrev pub HasFault : List Place → FormatFault → Type 0
HasFault all (BadShape leaf) = HasBadShape all leaf
HasFault all (Leaf leaf kind at) = HasBadLeaf all leaf kind at
HasFault all (Missing need) = LacksPart all need
HasFault all (UnknownSpecifier at) = ⊥
HasFault all (Repeated at) = ⊥
HasFault all (NoDelimiter at) = ⊥
HasFault all (BadDirective at) = ⊥
HasFault all NotJson = ⊥
HasFault all NoMemory = ⊥

-- the text is an object with these leaves, which give a host, a date and a request
pub record IsJsonFormat (text : List ℕ) (leaves : List JsonLeaf) : Type 0 where
  pub members : Members
  pub is_object : IsObject text members
  pub good : AreLeaves [] (places_of members) leaves
  pub given : (need : Needed) → list_any (gives need) (all_items leaves) ≡ true

-- why a text is no JSON format: it is no object, or its places have this fault
abbrev pub IsFaultOf : List ℕ → FormatFault → Type 0
IsFaultOf text NotJson = (members : Members) → ¬ IsObject text members
IsFaultOf text fault = (members : Members) × IsObject text members × HasFault (places_of members) fault

-- the JSON format that a text means, or the fault for which it means none
abbrev pub JsonFormatOf : List ℕ → Result (List JsonLeaf) FormatFault → Type 0
JsonFormatOf text (Ok leaves) = IsJsonFormat text leaves
JsonFormatOf text (Err fault) = IsFaultOf text fault
