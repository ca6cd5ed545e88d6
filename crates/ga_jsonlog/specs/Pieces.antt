-- The texts that a line has at the leaves of a JSON format.
use Rattle.std.specs.Prelude.{◌≡◌, ℕ, List, [], ◌∷◌, map, Bool, ◌||◌, is_some, if◌then◌else◌, Option, Some, None}
use Rattle.std.specs.Option.{option_and_then}
use Rattle.serde_json.specs.Data.{Num, Data, null, boolean, number, string, array, object, Members}
use Rattle.serde_json.specs.Find.{as_bool, as_number, as_i64, as_u64, at, get}
use Rattle.serde_json.specs.Written.{compact_text}
use Rattle.ga_jsonlog.specs.declared.leaf.JsonLeaf.{JsonLeaf}
use Rattle.ga_jsonlog.specs.declared.leaf.PathStep.{PathStep}
use Rattle.ga_jsonlog.specs.declared.leaf.PathStep.TheVariants.{Member, First}
use Rattle.ga_jsonlog.specs.declared.pieces.Pieces.{Pieces}
use Rattle.ga_jsonlog.specs.declared.pieces.Pieces.TheVariants.{NoObject, Leaves}
use Rattle.ga_jsonlog.specs.Objects.{IsObject}

-- the value to which one step leads: an object's member of that name, or a list's first element
abbrev pub step_in : PathStep → Data → Option Data
step_in (Member name) value = get name value
step_in First value = at 0 value

-- the value to which a path leads
abbrev pub value_at : List PathStep → Data → Option Data
value_at [] value = Some value
value_at (step ∷ path) value = option_and_then (value_at path) (step_in step value)

-- a number is whole where `serde_json` gives it as one of 64 bits
abbrev pub is_whole : Num → Bool
is_whole n = is_some (as_u64 n) || is_some (as_i64 n)

-- the text of a value: a text as it is, a truth value and a whole number as JSON writes them; no other value has one
abbrev pub piece_of : Data → Option (List ℕ)
piece_of null = None
piece_of (boolean b) = Some (compact_text (boolean b))
piece_of (number n) = if is_whole n then Some (compact_text (number n)) else None
piece_of (string text) = Some text
piece_of (array _) = None
piece_of (object _) = None

-- whether the value is a truth value or a whole number
abbrev pub is_written : Data → Bool
is_written value =
    is_some (as_bool value) || (is_some (option_and_then as_u64 (as_number value)) || is_some (option_and_then as_i64 (as_number value)))

-- the text at a leaf
abbrev pub piece_at : Data → JsonLeaf → Option (List ℕ)
piece_at line leaf = option_and_then piece_of (value_at leaf.path line)

-- what a line has at these leaves
abbrev pub PiecesOf : List JsonLeaf → List ℕ → Pieces → Type 0
PiecesOf leaves line NoObject = (members : Members) → ¬ IsObject line members
PiecesOf leaves line (Leaves pieces) = (members : Members) × IsObject line members × (pieces ≡ map (piece_at (object members)) leaves)
