-- What a format text means: its items, or its first fault; alone, or after the items of earlier texts.
use Rattle.std.specs.Prelude.{◌≡◌, ◌+◌, ◌<◌, ℕ, true, false, List, [], ◌++◌, length, ◌⊎◌, Option, Some, None, Result, Ok, Err}
use Rattle.std.specs.List.{list_any}
use Rattle.ga_base.specs.FormatFaults.{fault_place}
use Rattle.ga_base.specs.declared.formats.FormatItem.{FormatItem}
use Rattle.ga_base.specs.declared.formats.FormatFault.{FormatFault}
use Rattle.ga_base.specs.declared.formats.FormatFault.TheVariants.{UnknownSpecifier, Repeated, NoDelimiter, Missing, BadDirective, NotJson, BadShape, Leaf, NoMemory}
use Rattle.ga_base.specs.declared.formats.Needed.{Needed}
use Rattle.ga_base.specs.declared.formats.Needed.TheVariants.{Host, Date, Request}
use Rattle.ga_format.specs.Units.{FormatUnit, Begins, IsRow, IsUnknown, item_of, items_of}
use Rattle.ga_format.specs.FieldKinds.{runs_into, repeats, gives}

-- this place of the text is the end of a row of units, and these bytes stand from it on
pub record IsPlace (text : List ℕ) (at : ℕ) (before : List FormatUnit) (rest : List ℕ) : Type 0 where
  pub row : IsRow before text rest
  pub place : at + length rest ≡ length text

-- at this place stands a `%` or `~h{` that begins no specifier
pub record HasUnknown (text : List ℕ) (at : ℕ) : Type 0 where
  pub before : List FormatUnit
  pub rest : List ℕ
  pub is_place : IsPlace text at before rest
  pub unknown : IsUnknown rest

-- at this place stands a unit that may not follow the earlier items and the units before it
pub record HasRepeated (earlier : List FormatItem) (text : List ℕ) (at : ℕ) : Type 0 where
  pub before : List FormatUnit
  pub rest : List ℕ
  pub is_place : IsPlace text at before rest
  pub unit : FormatUnit
  pub after : List ℕ
  pub begins : Begins unit rest after
  pub repeated : repeats (earlier ++ items_of before) (item_of unit) ≡ true

-- at this place stands a field, and the next unit is a field or `%~`
pub record HasUndelimited (text : List ℕ) (at : ℕ) : Type 0 where
  pub before : List FormatUnit
  pub rest : List ℕ
  pub is_place : IsPlace text at before rest
  pub unit : FormatUnit
  pub after : List ℕ
  pub begins : Begins unit rest after
  pub next : FormatUnit
  pub last : List ℕ
  pub follows : Begins next after last
  pub undelimited : runs_into (item_of unit) (item_of next) ≡ true

-- the whole text is a row of units, and none of them gives this
pub record Lacks (text : List ℕ) (need : Needed) : Type 0 where
  pub row : List FormatUnit
  pub whole : IsRow row text []
  pub none : list_any (gives need) (items_of row) ≡ false

-- what is wrong at a place of a text that comes after these items
abbrev pub HasPlaced : List FormatItem → List ℕ → FormatFault → Type 0
HasPlaced earlier text (UnknownSpecifier at) = HasUnknown text at
HasPlaced earlier text (Repeated at) = HasRepeated earlier text at
HasPlaced earlier text (NoDelimiter at) = HasUndelimited text at
HasPlaced earlier text (Missing need) = ⊥
HasPlaced earlier text (BadDirective at) = ⊥
HasPlaced earlier text NotJson = ⊥
HasPlaced earlier text (BadShape leaf) = ⊥
HasPlaced earlier text (Leaf leaf kind at) = ⊥
HasPlaced earlier text NoMemory = ⊥

-- what is wrong with a text
abbrev pub HasFault : List ℕ → FormatFault → Type 0
HasFault text (UnknownSpecifier at) = HasUnknown text at
HasFault text (Repeated at) = HasRepeated [] text at
HasFault text (NoDelimiter at) = HasUndelimited text at
HasFault text (Missing need) = Lacks text need
HasFault text (BadDirective at) = ⊥
HasFault text NotJson = ⊥
HasFault text (BadShape leaf) = ⊥
HasFault text (Leaf leaf kind at) = ⊥
HasFault text NoMemory = ⊥

-- the order of the faults at one place, and of what is missing
abbrev pub rank_of : FormatFault → ℕ
rank_of (UnknownSpecifier at) = 0
rank_of (Repeated at) = 1
rank_of (NoDelimiter at) = 2
rank_of (BadDirective at) = 3
rank_of (Missing Host) = 4
rank_of (Missing Date) = 5
rank_of (Missing Request) = 6
rank_of NoMemory = 7
rank_of NotJson = 8
rank_of (BadShape leaf) = 9
rank_of (Leaf leaf kind at) = 10

-- by place first, then by rank, and what has no place comes last
abbrev pub IsBefore : Option ℕ → ℕ → Option ℕ → ℕ → Type 0
IsBefore (Some a) i (Some b) j = (a < b) ⊎ ((a ≡ b) × (i < j))
IsBefore (Some a) i None j = Unit {0}
IsBefore None i (Some b) j = ⊥
IsBefore None i None j = i < j

abbrev pub Precedes : FormatFault → FormatFault → Type 0
Precedes fault other = IsBefore (fault_place fault) (rank_of fault) (fault_place other) (rank_of other)

-- the text is a row of units with these items, and nothing is wrong with it
pub record IsFormat (text : List ℕ) (items : List FormatItem) : Type 0 where
  pub row : List FormatUnit
  pub whole : IsRow row text []
  pub gives_items : items ≡ items_of row
  pub faultless : (fault : FormatFault) → HasFault text fault → ⊥

-- the text has this fault, and none before it
pub record IsFirstFault (text : List ℕ) (fault : FormatFault) : Type 0 where
  pub stands : HasFault text fault
  pub first : (other : FormatFault) → HasFault text other → Precedes other fault → ⊥

-- the text is a row of units with these items, and nothing is wrong at any place of it
pub record AreItems (earlier : List FormatItem) (text : List ℕ) (items : List FormatItem) : Type 0 where
  pub row : List FormatUnit
  pub whole : IsRow row text []
  pub gives_items : items ≡ items_of row
  pub faultless : (fault : FormatFault) → HasPlaced earlier text fault → ⊥

-- this is wrong at a place of the text, and nothing is before it
pub record IsFirstPlaced (earlier : List FormatItem) (text : List ℕ) (fault : FormatFault) : Type 0 where
  pub stands : HasPlaced earlier text fault
  pub first : (other : FormatFault) → HasPlaced earlier text other → Precedes other fault → ⊥

-- the items of a text that comes after these items, or the fault for which it has none; they needn't give all that a format needs
abbrev pub ItemsOf : List FormatItem → List ℕ → Result (List FormatItem) FormatFault → Type 0
ItemsOf earlier text (Ok items) = AreItems earlier text items
ItemsOf earlier text (Err fault) = IsFirstPlaced earlier text fault

-- the format that a text means, or the fault for which it means none
abbrev pub FormatOf : List ℕ → Result (List FormatItem) FormatFault → Type 0
FormatOf text (Ok items) = IsFormat text items
FormatOf text (Err fault) = IsFirstFault text fault
