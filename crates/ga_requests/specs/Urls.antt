-- From the target of a request to its URL, and which URLs are of static files. Percent-decoding is that of the
-- URL Standard; what static files are is this program's own rule, after GoAccess's options for them.
use Rattle.std.specs.Prelude.{◌≡◌, ℕ, zero, suc, ◌⊎◌, ◌==◌, Bool, IsTrue, List, ◌++◌, codes}
use Rattle.std.specs.List.{Contains, before_first}
use Rattle.std.specs.Str.Lossy.{utf8_lossy}
use Rattle.percent_encoding.specs.Percent.{percent_decode}
use Rattle.ga_base.specs.Bytes.{byte_of}
use Rattle.ga_requests.specs.Tables.{extensions}

-- the byte that begins a query
abbrev pub question_mark : ℕ
question_mark = byte_of (codes "?")

-- what stands before the first `?`, or all where there is none
abbrev pub without_query : List ℕ → List ℕ
without_query text = before_first (λ b. b == question_mark) text

-- the bytes, percent-decoded this many times
abbrev pub decoded : ℕ → List ℕ → List ℕ
decoded zero bytes = bytes
decoded (suc times) bytes = percent_decode (decoded times bytes)

-- the text of a URL: decoded as bytes, and then made UTF-8
abbrev pub url_text : ℕ → List ℕ → List ℕ
url_text times bytes = utf8_lossy (decoded times bytes)

-- the text ends in this one
abbrev pub EndsIn : List ℕ → List ℕ → Type 0
EndsIn text suffix = (front : List ℕ) × (text ≡ front ++ suffix)

-- the text ends in one of these
abbrev pub EndsInOneOf : List (List ℕ) → List ℕ → Type 0
EndsInOneOf suffixes text = (suffix : List ℕ) × Contains suffixes suffix × EndsIn text suffix

-- the URL is of a static file: what stands before its query ends in a known extension or in a text of the user's,
-- and where it has a query, queries are asked for
pub record IsStatic (url : List ℕ) (statics : List (List ℕ)) (all : Bool) : Type 0 where
  pub ending : EndsInOneOf extensions (without_query url) ⊎ EndsInOneOf statics (without_query url)
  pub plain : Contains url question_mark → IsTrue all
