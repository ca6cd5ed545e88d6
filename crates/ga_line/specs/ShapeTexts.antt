-- What the text of a log format means: a plain or a JSON format, or its first fault.
use Rattle.std.specs.Prelude.{◌==◌, ℕ, Bool, true, false, List, [], ◌∷◌, codes, Result, Ok, Err}
use Rattle.ga_base.specs.Bytes.{byte_of}
use Rattle.ga_base.specs.declared.formats.FormatFault.{FormatFault}
use Rattle.ga_format.specs.FormatOf.{FormatOf}
use Rattle.ga_jsonlog.specs.JsonFormats.{JsonFormatOf}
use Rattle.ga_line.specs.declared.setup.Shape.{Shape}
use Rattle.ga_line.specs.declared.setup.Shape.TheVariants.{Plain, Json}

-- a text whose first byte is `{` is a JSON format's
abbrev pub is_json : List ℕ → Bool
is_json [] = false
is_json (byte ∷ text) = byte == byte_of (codes "{")

abbrev pub ShapeBy : Bool → List ℕ → Result Shape FormatFault → Type 0
ShapeBy true text (Ok (Json leaves)) = JsonFormatOf text (Ok leaves)
ShapeBy true text (Ok (Plain items)) = ⊥
ShapeBy true text (Err fault) = JsonFormatOf text (Err fault)
ShapeBy false text (Ok (Json leaves)) = ⊥
ShapeBy false text (Ok (Plain items)) = FormatOf text (Ok items)
ShapeBy false text (Err fault) = FormatOf text (Err fault)

-- the format that a text means, or the fault for which it means none
abbrev pub ShapeOf : List ℕ → Result Shape FormatFault → Type 0
ShapeOf text answer = ShapeBy (is_json text) text answer
