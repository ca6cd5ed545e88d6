-- The grammar of a format text: it is a row of units, one after the other.
use Rattle.std.specs.Prelude.{◌≡◌, ◌≢◌, ◌==◌, ℕ, true, false, if◌then◌else◌, List, [], ◌∷◌, ◌++◌, map, codes, ◌⊎◌}
use Rattle.ga_format.specs.Specifiers.{has, letters}
use Rattle.ga_base.specs.Bytes.{byte_of}
use Rattle.ga_base.specs.declared.formats.FormatItem.{FormatItem}
use Rattle.ga_base.specs.declared.formats.FormatItem.TheVariants.{Literal, Skip, Field, Forwarded}

-- a unit of a format text, as the user writes it
pub data FormatUnit : Type 0 where
  Plain : ℕ → FormatUnit  -- a byte that stands for itself
  Tab : FormatUnit  -- `\t`
  Specifier : ℕ → FormatUnit  -- `%x`: a percent sign and a letter
  ForwardedFor : List ℕ → FormatUnit  -- `~h{C}` with the bytes C

-- the bytes that spell a unit
abbrev pub written : FormatUnit → List ℕ
written (Plain byte) = byte ∷ []
written Tab = codes "\\t"
written (Specifier letter) = codes "%" ++ (letter ∷ [])
written (ForwardedFor separators) = codes "~h{" ++ (separators ++ codes "}")

-- the item that a unit gives: `\t` is a literal tab, `%~` passes white space over, any other letter names a field
abbrev pub item_of : FormatUnit → FormatItem
item_of (Plain byte) = Literal byte
item_of Tab = Literal 9
item_of (Specifier letter) = if letter == byte_of (codes "~") then Skip else Field letter
item_of (ForwardedFor separators) = Forwarded separators

abbrev pub items_of : List FormatUnit → List FormatItem
items_of = map item_of

-- the text has these bytes at its front
abbrev pub StartsWith : List ℕ → List ℕ → Type 0
StartsWith text front = (rest : List ℕ) × (text ≡ front ++ rest)

-- Whether this is a unit of the grammar where these bytes come after it. A byte represents itself only where no other
-- unit's beginning stands. C has a byte, and runs to the first `}`.
abbrev pub IsUnit : FormatUnit → List ℕ → Type 0
IsUnit (Plain byte) after = ¬ StartsWith (byte ∷ after) (codes "%") × ¬ StartsWith (byte ∷ after) (codes "\\t") × ¬ StartsWith (byte ∷ after) (codes "~h{")
IsUnit Tab after = Unit {0}
IsUnit (Specifier letter) after = has letter letters ≡ true
IsUnit (ForwardedFor separators) after = (separators ≢ []) × (has (byte_of (codes "}")) separators ≡ false)

-- the text begins with this unit, and these bytes come after it
pub record Begins (unit : FormatUnit) (text after : List ℕ) : Type 0 where
  pub spelled : text ≡ written unit ++ after
  pub is_unit : IsUnit unit after

-- the text begins with this row of units, and these bytes come after it
abbrev pub IsRow : List FormatUnit → List ℕ → List ℕ → Type 0
IsRow [] text after = text ≡ after
IsRow (unit ∷ units) text after = (more : List ℕ) × Begins unit text more × IsRow units more after

-- the text begins with a `%` or a `~h{` that begins no unit
pub record IsUnknown (text : List ℕ) : Type 0 where
  pub begun : StartsWith text (codes "%") ⊎ StartsWith text (codes "~h{")
  pub none : (unit : FormatUnit) (after : List ℕ) → Begins unit text after → ⊥
