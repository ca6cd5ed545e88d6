-- The letters that may follow a percent sign, and the kinds of field that each gives.
use Rattle.std.specs.Prelude.{◌==◌, ℕ, Bool, List, [], ◌∷◌, codes, unwrap_or}
use Rattle.std.specs.List.{flat_map, list_any}
use Rattle.std.specs.Map.{lookup}
use Rattle.std.specs.Str.{bytes_eq}

-- A kind of field is named by the letter of the specifier that gives it alone: `%x` gives what `%d` and `%t` give, and `%r`
-- what `%m`, `%U`, `%q` and `%H` give. What may stand any number of times gives no kind.
abbrev pub specifiers : List (List ℕ × List ℕ)
specifiers =
    (codes "x", codes "dt")  -- date and time
    ∷ (codes "t", codes "t")  -- time
    ∷ (codes "d", codes "d")  -- date
    ∷ (codes "v", codes "v")  -- virtual host
    ∷ (codes "e", codes "e")  -- remote user
    ∷ (codes "C", codes "C")  -- cache status
    ∷ (codes "h", codes "h")  -- client address
    ∷ (codes "r", codes "mUqH")  -- request line
    ∷ (codes "m", codes "m")  -- method
    ∷ (codes "U", codes "U")  -- URL path
    ∷ (codes "q", codes "q")  -- query string
    ∷ (codes "H", codes "H")  -- protocol
    ∷ (codes "s", codes "s")  -- status
    ∷ (codes "b", codes "b")  -- size
    ∷ (codes "R", codes "R")  -- referrer
    ∷ (codes "u", codes "u")  -- user agent
    ∷ (codes "K", codes "K")  -- TLS settings
    ∷ (codes "M", codes "M")  -- MIME type
    ∷ (codes "D", [])  -- microseconds
    ∷ (codes "T", [])  -- seconds with decimals
    ∷ (codes "L", [])  -- milliseconds with decimals
    ∷ (codes "^", [])  -- a field that is ignored
    ∷ (codes "~", [])  -- white space that is passed over
    ∷ []

-- the letters of the table
abbrev pub letters : List ℕ
letters = flat_map (λ row. row.0) specifiers

-- the kinds of field that stand beside a letter; none where it isn't in the table
abbrev pub kinds_of_letter : ℕ → List ℕ
kinds_of_letter letter = unwrap_or (lookup (λ name. bytes_eq name (letter ∷ [])) specifiers) []

-- whether the byte is among these
abbrev pub has : ℕ → List ℕ → Bool
has byte bytes = list_any (λ b. b == byte) bytes
