-- When a line fits a log format, plain or JSON, and which fields it then has.
use Rattle.std.specs.Prelude.{◌≡◌, ℕ, Bool, false, not, List, [], ◌∷◌, ◌++◌, Option, Some, None, filter, if◌then◌else◌}
use Rattle.std.specs.List.{list_any}
use Rattle.ga_base.specs.declared.formats.FormatItem.{FormatItem}
use Rattle.ga_base.specs.declared.formats.FormatItem.TheVariants.{Literal, Skip, Field, Forwarded}
use Rattle.ga_jsonlog.specs.declared.leaf.JsonLeaf.{JsonLeaf}
use Rattle.ga_jsonlog.specs.declared.pieces.Pieces.TheVariants.{Leaves}
use Rattle.ga_jsonlog.specs.Pieces.{PiecesOf}
use Rattle.ga_line.specs.declared.setup.Shape.{Shape}
use Rattle.ga_line.specs.declared.setup.Shape.TheVariants.{Plain, Json}
use Rattle.ga_line.specs.Fits.{Part, Fits}
use Rattle.ga_line.specs.Letters.{is_taken_letter}

-- whether the item has the time that the answer took
abbrev pub is_taken_item : FormatItem → Bool
is_taken_item (Literal byte) = false
is_taken_item Skip = false
is_taken_item (Field letter) = is_taken_letter letter
is_taken_item (Forwarded separators) = false

abbrev pub has_taken : List FormatItem → Bool
has_taken items = list_any is_taken_item items

-- The fields that are read: of the time taken the first of the format counts, so where an earlier leaf has it those of later
-- leaves aren't read, even if the line has nothing at the earlier one.
abbrev pub read_parts : Bool → List Part → List Part
read_parts earlier parts = if earlier then filter (λ part. not (is_taken_letter part.0)) parts else parts

-- The texts of a line at the leaves fit, and these are its fields, leaf after leaf: a text has to fit its leaf's items as a plain
-- line does, and where there is none all the leaf's fields are absent.
abbrev pub FitsLeaves : List JsonLeaf → List (Option (List ℕ)) → List Part → Type 0
FitsLeaves [] [] parts = parts ≡ []
FitsLeaves [] (piece ∷ pieces) parts = ⊥
FitsLeaves (leaf ∷ leaves) [] parts = ⊥
FitsLeaves (leaf ∷ leaves) (None ∷ pieces) parts =
    (later : List Part) × FitsLeaves leaves pieces later × (parts ≡ read_parts (has_taken leaf.items) later)
FitsLeaves (leaf ∷ leaves) (Some piece ∷ pieces) parts = (own later : List Part) × Fits leaf.items piece own
    × FitsLeaves leaves pieces later × (parts ≡ own ++ read_parts (has_taken leaf.items) later)

-- a line fits the format, and these are its fields; for a JSON format it is an object whose texts fit
abbrev pub FitsShape : Shape → List ℕ → List Part → Type 0
FitsShape (Plain items) line parts = Fits items line parts
FitsShape (Json leaves) line parts = (pieces : List (Option (List ℕ))) × PiecesOf leaves line (Leaves pieces) × FitsLeaves leaves pieces parts
