-- The places of the files that forms in memory keep, as names with their bytes.
use Rattle.std.specs.Prelude.{ℕ, Bool, List, map, slice_get, Option, option_map}
use Rattle.std.specs.List.{position}
use Rattle.std.specs.Option.{option_and_then}
use Rattle.std.specs.Str.{bytes_eq}
use Rattle.ga_ports.specs.declared.contents.Content.{Content}

abbrev pub pairs : List Content → List (List ℕ × List ℕ)
pairs cs = map (λ c. (c.name, c.bytes.items)) cs

abbrev pub is_named : List ℕ → Content → Bool
is_named name c = bytes_eq c.name name

-- the place of the first content of that name
abbrev pub place_of : List ℕ → List Content → Option ℕ
place_of name cs = position (is_named name) cs

-- the bytes of the content at a place, where there is one
abbrev pub bytes_at : Option ℕ → List (List ℕ × List ℕ) → Option (List ℕ)
bytes_at place cs = option_and_then (λ i. option_map (λ c. c.1) (slice_get cs i)) place
