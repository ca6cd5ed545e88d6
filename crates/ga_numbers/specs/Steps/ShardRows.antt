-- Items but for what they share with others, which are called rows, and what they share, which is called their prefix.
use Rattle.std.specs.Prelude.{◌≡◌, ℕ, ◌<◌, ◌+◌, ◌*◌, ◌%◌, ◌^◌, ◌++◌, Bool, List, [], ◌∷◌, length, map, All, slice_index_or}
use Rattle.std.specs.Hash.{HashWrites, str, u64}
use Rattle.std.specs.List.{IsDistinct}
use Rattle.ga_numbers.specs.contracts.shard_row.ShardRowPartialEq.TheImpl.{ghosts as rows}
use Rattle.ga_numbers.specs.declared.shard_row.ShardRow.{ShardRow}
use Rattle.ga_numbers.specs.declared.shard_row.ShardRowRef.{ShardRowRef}
use Rattle.ga_shards.specs.Keys.{text_hash}

-- two rows are the same, as a dictionary tests
abbrev pub is_same_row : ShardRow → ShardRow → Bool
is_same_row a b = rows.eq a b

-- the row whose values a borrowed one has
abbrev pub row_in : ShardRowRef → ShardRow
row_in r = record { prefix = r.prefix; date = r.date; text = r.text.now }

-- what a hasher is fed of a row
abbrev pub fed_row : ShardRow → HashWrites
fed_row row = u64 (row.prefix * 2 ^ 32 + row.date) ++ str row.text

-- in which shard a row is: one of the four of its day, which some other days share, by its text
abbrev pub shard_at : ShardRow → ℕ
shard_at row = text_hash row.text % 4 * 16 + row.date % 16

-- each row's prefix is one of these
abbrev pub HavePrefixes : {F : Type 0} → List F → List ShardRow → Type 0
HavePrefixes prefixes rows = All (λ (row : ShardRow). row.prefix < length prefixes) rows

-- rows of different prefixes, which say nothing that rows say
pub record AreRowsOf {F : Type 0} (eq : F → F → Bool) (IsPlain : F → Type 0) (prefixes : List F) (rows : List ShardRow) : Type 0 where
  pub different : IsDistinct eq prefixes
  pub plain : All IsPlain prefixes
  pub prefixed : HavePrefixes prefixes rows

-- a row whose prefix has the number that is in this list
abbrev pub remapped_by : List ℕ → ShardRow → ShardRow
remapped_by numbers row = record { prefix = slice_index_or numbers row.prefix 0; date = row.date; text = row.text }

-- rows of others, list by list, whose prefixes have the numbers that are in the list of theirs, or in none where it is
-- missing
abbrev pub remapped_each : List (List ℕ) → List (List ShardRow) → List (List ShardRow)
remapped_each prefixes [] = []
remapped_each [] (rows ∷ others) = map (remapped_by []) rows ∷ remapped_each [] others
remapped_each (numbers ∷ prefixes) (rows ∷ others) = map (remapped_by numbers) rows ∷ remapped_each prefixes others

-- items that are made of these prefixes and rows
pub record AreMade {F T : Type 0} (eq : F → F → Bool) (IsPlain : F → Type 0) (made : List F → List ShardRow → List T) (items : List T) (prefixes : List F) (rows : List ShardRow) : Type 0 where
  pub whole : made prefixes rows ≡ items
  pub parts : AreRowsOf eq IsPlain prefixes rows
