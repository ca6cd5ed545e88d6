-- What the steps promise to one another: the words of functions that only this crate calls.
use Rattle.std.specs.Prelude.{ℕ, List}
use Rattle.std.specs.Str.Lossy.{utf8_lossy}
use Rattle.form_urlencoded.specs.Form.{decode}

-- the text that a name or a value of a query represents, decoded and made UTF-8
abbrev pub text_of : List ℕ → List ℕ
text_of bytes = utf8_lossy (decode bytes)
