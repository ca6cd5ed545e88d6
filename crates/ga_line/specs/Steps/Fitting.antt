-- What the steps promise in which a line is fitted: the fields so far, and what is left of the items and of the line.
use Rattle.std.specs.Prelude.{◌≡◌, ℕ, Bool, false, ◌-◌, ◌==◌, ◌<◌, ◌≤◌, ◌+◌, List, ◌∷◌, ◌++◌, Option, Some, None, slice_index_or, length, if◌then◌else◌}
use Rattle.std.specs.Borrow.{Bor}
use Rattle.std.specs.Option.{option_copied, option_map}
use Rattle.ga_base.specs.declared.formats.FormatItem.{FormatItem}
use Rattle.ga_base.specs.declared.formats.FormatItem.TheVariants.{Literal}
use Rattle.ga_line.specs.declared.fields.Fields.{Fields}
use Rattle.ga_line.specs.declared.fields.TheConstants.{FIRST_LETTER, LETTERS}
use Rattle.ga_jsonlog.specs.declared.leaf.JsonLeaf.{JsonLeaf}
use Rattle.ga_jsonlog.specs.declared.pieces.Pieces.{Pieces}
use Rattle.ga_jsonlog.specs.Pieces.{PiecesOf}
use Rattle.ga_line.specs.declared.setup.Shape.{Shape}
use Rattle.ga_line.specs.declared.setup.Shape.TheVariants.{Plain, Json}
use Rattle.ga_line.specs.Fits.{Part, Fits, EndsAt, NeverEnds, field}
use Rattle.ga_line.specs.Shapes.{FitsLeaves, read_parts}
use Rattle.ga_line.specs.Letters.{is_taken_letter}
use Rattle.ga_line.specs.Records.{taken_part}

-- the letters under which a field's text is asked for: all but those of the time taken, of which the first alone is
pub record IsLetter (letter : ℕ) : Type 0 where
  pub first : FIRST_LETTER ≤ letter
  pub last : letter < FIRST_LETTER + LETTERS
  pub untaken : is_taken_letter letter ≡ false

-- what is known of the field with a letter after one more field: the first is kept
abbrev pub noted : ℕ → Option (List ℕ) → Part → Option (List ℕ)
noted letter None part = if part.0 == letter then Some part.1 else None
noted letter (Some text) part = Some text

-- the text that is noted for a letter
abbrev pub noted_text : ℕ → Fields → Option (List ℕ)
noted_text letter fields = option_copied (slice_index_or fields.texts (letter - FIRST_LETTER) None)

-- a field as it is kept: its letter and its text
abbrev pub part_of : (ℕ × Bor (List ℕ)) → Part
part_of part = (part.0, part.1.now)

-- the first field with the time taken, after one more field
abbrev pub first_taken : Option Part → Part → Option Part
first_taken None part = if is_taken_letter part.0 then Some part else None
first_taken (Some first) part = Some first

-- the fields that are noted
pub record AreNoted (parts : List Part) (fields : Fields) : Type 0 where
  pub room : length fields.texts ≡ LETTERS
  pub texts : (letter : ℕ) → IsLetter letter → noted_text letter fields ≡ field letter parts
  pub taken : option_map part_of fields.taken ≡ taken_part parts

-- the field that begins `rest` goes up to the literal that the next item is, with which `after` begins
pub record EndsBefore (next : Option FormatItem) (rest text after : List ℕ) : Type 0 where
  pub stop : ℕ
  pub behind : List ℕ
  pub next_is : next ≡ Some (Literal stop)
  pub ends : EndsAt stop rest text behind
  pub after_is : after ≡ stop ∷ behind

-- the field that begins `rest` goes up to the end of the line: no literal comes next, or it doesn't end there
abbrev pub EndsLine : Option FormatItem → List ℕ → Type 0
EndsLine next rest = (stop : ℕ) → next ≡ Some (Literal stop) → NeverEnds stop rest

-- the line fits all the items, with these fields first, exactly where the rest fits the items that are left
pub record IsReadTo (items : List FormatItem) (line : List ℕ) (left : List FormatItem) (rest : List ℕ) (before : List Part) : Type 0 where
  pub back : (later : List Part) → Fits left rest later → Fits items line (before ++ later)
  pub only : (parts : List Part) → Fits items line parts → (later : List Part) × Fits left rest later × (parts ≡ before ++ later)

-- The texts fit all the leaves, with these fields first, exactly where those that are left fit the leaves that are left. `taken`
-- says whether a leaf before these has the time taken.
pub record AreReadTo (leaves : List JsonLeaf) (pieces : List (Option (List ℕ))) (left : List JsonLeaf) (rest : List (Option (List ℕ))) (taken : Bool) (before : List Part) : Type 0 where
  pub back : (later : List Part) → FitsLeaves left rest later → FitsLeaves leaves pieces (before ++ read_parts taken later)
  pub only : (parts : List Part) → FitsLeaves leaves pieces parts → (later : List Part) × FitsLeaves left rest later × (parts ≡ before ++ read_parts taken later)

-- for a JSON format these are the line's pieces
abbrev pub ArePieces : Shape → List ℕ → Pieces → Type 0
ArePieces (Plain items) line pieces = Unit {0}
ArePieces (Json leaves) line pieces = PiecesOf leaves line pieces
