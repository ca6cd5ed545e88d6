-- Where a text keeps its bytes: in place, or in a string that its copies share.
use Rattle.std.specs.Prelude.{ℕ, ◌≤◌, List, take, string_bytes}
use Rattle.ga_base.specs.declared.text.Kept.{Kept}
use Rattle.ga_base.specs.declared.text.Kept.TheVariants.{Short, Full, Shared}

abbrev pub kept_bytes : Kept → List ℕ
kept_bytes (Short len bytes) = take len bytes
kept_bytes (Full bytes) = bytes
kept_bytes (Shared string) = string_bytes string.value

-- a short text has room for its bytes
abbrev pub FitsIn : Kept → Type 0
FitsIn (Short len bytes) = len ≤ 14
FitsIn (Full bytes) = Unit {0}
FitsIn (Shared string) = Unit {0}
