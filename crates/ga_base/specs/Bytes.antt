-- Bytes by their characters.
use Rattle.std.specs.Prelude.{ℕ, List, [], ◌∷◌}

-- the byte of a text of one ASCII character, as `byte_of (codes "%")`
abbrev pub byte_of : List ℕ → ℕ
byte_of [] = 0
byte_of (byte ∷ _) = byte
