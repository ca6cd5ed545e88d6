-- The word of a pair, and the cell at which the search for it begins.
use Rattle.std.specs.Prelude.{ℕ, ◌+◌, ◌*◌, ◌/◌, ◌%◌, ◌-◌, ◌^◌, ◌<◌, bit_xor, if◌then◌else◌, nat_lt}
use Rattle.ga_pairs.specs.declared.view.Pair.{Pair}

-- both numbers of a pair are below 2^32 - 1
pub record IsPair (pair : Pair) : Type 0 where
  pub key : pair.key < 2 ^ 32 - 1
  pub visitor : pair.visitor < 2 ^ 32 - 1

-- the word of a pair, which is not 0
abbrev pub word_of : Pair → ℕ
word_of pair = 4294967296 * pair.key + pair.visitor + 1

-- a product of 64 bits, in which each bit of the number reaches the higher ones
unfoldable pub spread : ℕ → ℕ
spread n = (n * 11400714819323198485) % 2 ^ 64

-- the home place of a word in a row of cells: it is spread twice, and its upper half is scaled to the row
unfoldable pub home : ℕ → ℕ → ℕ
home cells word = spread (bit_xor (spread word) (spread word / 4294967296)) / 4294967296 * cells / 4294967296

-- a place in a row of cells, counted on from its begin after its end
abbrev pub round : ℕ → ℕ → ℕ
round cells at = if nat_lt at cells then at else at - cells
