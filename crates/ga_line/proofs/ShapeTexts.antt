-- The text of a log format means one thing, and something.
use Rattle.std.proofs.Common.{◌≡◌, ℕ, Bool, true, false, List, ap, Result, Ok, Err}
use Rattle.ga_base.specs.declared.formats.FormatFault.{FormatFault}
use Rattle.ga_base.specs.declared.formats.FormatItem.{FormatItem}
use Rattle.ga_format.specs.FormatOf.{FormatOf}
use Rattle.ga_jsonlog.specs.declared.leaf.JsonLeaf.{JsonLeaf}
use Rattle.ga_jsonlog.specs.JsonFormats.{JsonFormatOf}
use Rattle.ga_line.specs.declared.setup.Shape.{Shape}
use Rattle.ga_line.specs.declared.setup.Shape.TheVariants.{Plain, Json}
use Rattle.ga_line.specs.ShapeTexts.{ShapeBy, ShapeOf, is_json}

abbrev OnePlain : Type 0
OnePlain = (text : List ℕ) (a b : Result (List FormatItem) FormatFault) → FormatOf text a → FormatOf text b → a ≡ b

abbrev OneJson : Type 0
OneJson = (text : List ℕ) (a b : Result (List JsonLeaf) FormatFault) → JsonFormatOf text a → JsonFormatOf text b → a ≡ b

-- an answer as one of another kind of value
abbrev moved : {A B : Type 0} → (A → B) → Result A FormatFault → Result B FormatFault
moved f (Ok x) = Ok (f x)
moved f (Err fault) = Err fault

one-by : OnePlain → OneJson → (json : Bool) (text : List ℕ) (a b : Result Shape FormatFault) → ShapeBy json text a → ShapeBy json text b → a ≡ b
one-by plain leaves true text (Ok (Json x)) (Ok (Json y)) h k = ap (moved Json) (leaves text (Ok x) (Ok y) h k)
one-by plain leaves true text (Ok (Json x)) (Ok (Plain y)) h k = absurd k
one-by plain leaves true text (Ok (Json x)) (Err y) h k = ap (moved Json) (leaves text (Ok x) (Err y) h k)
one-by plain leaves true text (Ok (Plain x)) b h k = absurd h
one-by plain leaves true text (Err x) (Ok (Json y)) h k = ap (moved Json) (leaves text (Err x) (Ok y) h k)
one-by plain leaves true text (Err x) (Ok (Plain y)) h k = absurd k
one-by plain leaves true text (Err x) (Err y) h k = ap (moved Json) (leaves text (Err x) (Err y) h k)
one-by plain leaves false text (Ok (Json x)) b h k = absurd h
one-by plain leaves false text (Ok (Plain x)) (Ok (Json y)) h k = absurd k
one-by plain leaves false text (Ok (Plain x)) (Ok (Plain y)) h k = ap (moved Plain) (plain text (Ok x) (Ok y) h k)
one-by plain leaves false text (Ok (Plain x)) (Err y) h k = ap (moved Plain) (plain text (Ok x) (Err y) h k)
one-by plain leaves false text (Err x) (Ok (Json y)) h k = absurd k
one-by plain leaves false text (Err x) (Ok (Plain y)) h k = ap (moved Plain) (plain text (Err x) (Ok y) h k)
one-by plain leaves false text (Err x) (Err y) h k = ap (moved Plain) (plain text (Err x) (Err y) h k)

pub one-shape : OnePlain → OneJson → (text : List ℕ) (a b : Result Shape FormatFault) → ShapeOf text a → ShapeOf text b → a ≡ b
one-shape plain leaves text a b h k = one-by plain leaves (is_json text) text a b h k

every-by : ((text : List ℕ) → (a : Result (List FormatItem) FormatFault) × FormatOf text a) → ((text : List ℕ) → (a : Result (List JsonLeaf) FormatFault) × JsonFormatOf text a)
    → (json : Bool) (text : List ℕ) → (a : Result Shape FormatFault) × ShapeBy json text a
every-by plain leaves true text = by (leaves text)
  where
    by : (a : Result (List JsonLeaf) FormatFault) × JsonFormatOf text a → (a : Result Shape FormatFault) × ShapeBy true text a
    by (Ok x, h) = (Ok (Json x), h)
    by (Err fault, h) = (Err fault, h)
every-by plain leaves false text = by (plain text)
  where
    by : (a : Result (List FormatItem) FormatFault) × FormatOf text a → (a : Result Shape FormatFault) × ShapeBy false text a
    by (Ok x, h) = (Ok (Plain x), h)
    by (Err fault, h) = (Err fault, h)

pub every-shape : ((text : List ℕ) → (a : Result (List FormatItem) FormatFault) × FormatOf text a) → ((text : List ℕ) → (a : Result (List JsonLeaf) FormatFault) × JsonFormatOf text a)
    → (text : List ℕ) → (a : Result Shape FormatFault) × ShapeOf text a
every-shape plain leaves text = every-by plain leaves (is_json text) text
