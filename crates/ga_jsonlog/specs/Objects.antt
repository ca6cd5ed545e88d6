-- When bytes are a JSON object.
use Rattle.std.specs.Prelude.{◌≡◌, ℕ, List, Some}
use Rattle.std.specs.Str.{IsUtf8}
use Rattle.serde_json.specs.Data.{Members, object}
use Rattle.serde_json.specs.Read.{read}

-- The bytes are UTF-8, and `serde_json` reads an object with these members from them: the last of equal ones alone, in the
-- order of their names.
pub record IsObject (text : List ℕ) (members : Members) : Type 0 where
  pub utf8 : IsUtf8 text
  pub reads : read text ≡ Some (object members)
