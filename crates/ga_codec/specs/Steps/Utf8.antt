-- How far bytes begin a text of a given length.
use Rattle.std.specs.Prelude.{◌≡◌, ℕ, List, length, cond, nat_lt, ◌==◌, Bool}
use Rattle.std.specs.Str.{IsUtf8}
use Rattle.std.specs.Int.{is_in_range}

-- how many bytes a character has that begins with this byte, 0 where none does
abbrev pub char_size : ℕ → ℕ
char_size first = cond (nat_lt first 0x80) 1 (cond (nat_lt first 0xC2) 0 (cond (nat_lt first 0xE0) 2 (cond (nat_lt first 0xF0) 3 (cond (nat_lt first 0xF5) 4 0))))

-- a byte that continues a character
abbrev pub continues : ℕ → Bool
continues byte = is_in_range 0x80 0xBF byte

-- the byte may stand second, after this first one
abbrev pub may_follow : ℕ → ℕ → Bool
may_follow first byte = cond (first == 0xE0) (is_in_range 0xA0 0xBF byte) (cond (first == 0xED) (is_in_range 0x80 0x9F byte)
    (cond (first == 0xF0) (is_in_range 0x90 0xBF byte) (cond (first == 0xF4) (is_in_range 0x80 0x8F byte) (continues byte))))

-- the bytes are a text of this length
abbrev pub IsTextOf : ℕ → List ℕ → Type 0
IsTextOf size bytes = IsUtf8 bytes × (length bytes ≡ size)
