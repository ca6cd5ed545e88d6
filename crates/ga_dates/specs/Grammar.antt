-- Which items the text of a format represents.
use Rattle.std.specs.Prelude.{ℕ, ◌≡◌, ◌≢◌, ◌≤◌, ◌⊎◌, count_by, length, List, [], ◌∷◌, ◌++◌, map, codes, Option, IsSome, MatchOption, unwrap_or, Result, Ok, Err}
use Rattle.std.specs.List.{flat_map, AllByRecursion}
use Rattle.std.specs.Map.{lookup}
use Rattle.std.specs.Option.{option_map, option_or}
use Rattle.std.specs.Str.{bytes_eq}
use Rattle.ga_base.specs.Bytes.{byte_of}
use Rattle.ga_base.specs.declared.formats.FormatFault.{FormatFault}
use Rattle.ga_base.specs.declared.formats.FormatFault.TheVariants.{BadDirective, NoMemory}
use Rattle.ga_dates.specs.declared.item.Item.{Item}
use Rattle.ga_dates.specs.declared.item.Item.TheVariants.{Literal, Day, SpacedDay, Month, MonthName, Year, ShortYear, Hour, Minute, Second}
use Rattle.ga_dates.specs.declared.item.Part.{Part}
use Rattle.ga_dates.specs.declared.kind.Kind.{Kind}
use Rattle.ga_dates.specs.declared.kind.Kind.TheVariants.{Date, Time}
use Rattle.ga_dates.specs.Items.{gives, AreOnce, IsComplete}

-- the byte that begins a directive
abbrev pub percent : ℕ
percent = byte_of (codes "%")

-- The directives of a date format by their letters, each with its item.
abbrev pub date_letters : List (List ℕ × Item)
date_letters =
    (codes "d", Day)
    ∷ (codes "e", SpacedDay)
    ∷ (codes "m", Month)
    ∷ (codes "b", MonthName)
    ∷ (codes "Y", Year)
    ∷ (codes "y", ShortYear)
    ∷ (codes "%", Literal percent)
    ∷ []

-- Those of a time format.
abbrev pub time_letters : List (List ℕ × Item)
time_letters =
    (codes "H", Hour)
    ∷ (codes "M", Minute)
    ∷ (codes "S", Second)
    ∷ (codes "%", Literal percent)
    ∷ []

-- The directives that are short for a longer form: `%F` for `%Y-%m-%d`, which stands here without its percent signs.
abbrev pub date_forms : List (List ℕ × List ℕ)
date_forms = (codes "F", codes "Y-m-d") ∷ (codes "D", codes "m/d/y") ∷ []

-- Those of a time format.
abbrev pub time_forms : List (List ℕ × List ℕ)
time_forms = (codes "T", codes "H:M:S") ∷ (codes "R", codes "H:M") ∷ []

-- what is in a table's row of this letter
abbrev pub at_letter : {X : Type 0} → ℕ → List (List ℕ × X) → Option X
at_letter letter table = lookup (λ name. bytes_eq name (letter ∷ [])) table

-- the items of a form: a letter of the table is its directive, any other byte represents itself
abbrev pub form_items : List (List ℕ × Item) → List ℕ → List Item
form_items letters form = map (λ byte. unwrap_or (at_letter byte letters) (Literal byte)) form

-- what the letter after a % represents by these tables: its item, or the items of its form
abbrev pub named_items : List (List ℕ × Item) → List (List ℕ × List ℕ) → ℕ → Option (List Item)
named_items letters forms letter =
    option_or (option_map (λ item. item ∷ []) (at_letter letter letters)) (option_map (form_items letters) (at_letter letter forms))

abbrev pub directive_of : Kind → ℕ → Option (List Item)
directive_of Date letter = named_items date_letters date_forms letter
directive_of Time letter = named_items time_letters time_forms letter

-- a format's text is a row of tokens: a byte other than %, which represents itself, or % and a letter
pub data Token : Type 0 where
  Byte : ℕ → Token
  Directive : ℕ → Token

abbrev pub text_of : Token → List ℕ
text_of (Byte byte) = byte ∷ []
text_of (Directive letter) = percent ∷ letter ∷ []

abbrev pub IsNamed : Kind → Token → Type 0
IsNamed kind (Byte byte) = byte ≢ percent
IsNamed kind (Directive letter) = IsSome (directive_of kind letter)

abbrev pub items_of : Kind → Token → List Item
items_of kind (Byte byte) = Literal byte ∷ []
items_of kind (Directive letter) = unwrap_or (directive_of kind letter) []

-- the text is a row of named tokens that represent these items, and no part is given twice
pub record IsRow (kind : Kind) (tokens : List Token) (text : List ℕ) (items : List Item) : Type 0 where
  pub spelt : text ≡ flat_map text_of tokens
  pub given : items ≡ flat_map (items_of kind) tokens
  pub named : AllByRecursion (IsNamed kind) tokens
  pub once : AreOnce items

-- the text is a row that gives each part that is needed: a format of the kind, and these are its items
pub record IsFormat (kind : Kind) (text : List ℕ) (items : List Item) : Type 0 where
  pub tokens : List Token
  pub row : IsRow kind tokens text items
  pub complete : IsComplete kind items

-- some part is given by items before and by items that are added
abbrev pub GivesAgain : List Item → List Item → Type 0
GivesAgain before added = (part : Part) × (1 ≤ count_by (gives part) before) × (1 ≤ count_by (gives part) added)

-- after the items before, the rest begins with a % that no letter follows, or one that isn't named, or one whose
-- directive gives a part again
abbrev pub IsBadDirective : Kind → List Item → List ℕ → Type 0
IsBadDirective kind before [] = ⊥
IsBadDirective kind before (byte ∷ []) = byte ≡ percent
IsBadDirective kind before (byte ∷ letter ∷ _) =
    (byte ≡ percent) × MatchOption (directive_of kind letter) (Unit {0}) (λ added. GivesAgain before added)

-- the text is a row up to a bad directive, which is at this place
pub record BreaksAt (kind : Kind) (text : List ℕ) (at : ℕ) : Type 0 where
  pub front : List ℕ
  pub rest : List ℕ
  pub tokens : List Token
  pub before : List Item
  pub parted : text ≡ front ++ rest
  pub row : IsRow kind tokens front before
  pub bad : IsBadDirective kind before rest
  pub place : at ≡ length front

-- the text is a row that lacks a needed part; the place is its end
pub record LacksAt (kind : Kind) (text : List ℕ) (at : ℕ) : Type 0 where
  pub tokens : List Token
  pub items : List Item
  pub row : IsRow kind tokens text items
  pub lacks : ¬ IsComplete kind items
  pub place : at ≡ length text

abbrev pub IsFaultAt : Kind → List ℕ → ℕ → Type 0
IsFaultAt kind text at = BreaksAt kind text at ⊎ LacksAt kind text at

-- the answer to a text: the items of the format that it is, or its fault
abbrev pub IsAnswer : Kind → List ℕ → Result (List Item) FormatFault → Type 0
IsAnswer kind text (Ok items) = IsFormat kind text items
IsAnswer kind text (Err (BadDirective at)) = IsFaultAt kind text at
IsAnswer kind text (Err _) = ⊥

-- an error is a bad directive at its place, or lack of memory
abbrev pub IsFormatFault : Kind → List ℕ → FormatFault → Type 0
IsFormatFault kind text (BadDirective at) = IsFaultAt kind text at
IsFormatFault kind text NoMemory = Unit {0}
IsFormatFault kind text _ = ⊥

-- the result is this answer, unless memory ran out
abbrev pub UnlessNoMemory : {T : Type 0} → Result T FormatFault → Result T FormatFault → Type 0
UnlessNoMemory result answer = (result ≡ answer) ⊎ (result ≡ Err NoMemory)
