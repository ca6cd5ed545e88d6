-- Rows that are an item by themselves, known by a bucket that no other row has.
use Rattle.std.specs.Prelude.{◌≡◌, ℕ, Bool, ◌-◌, ◌+◌, ◌<◌, ◌≤◌, ◌==◌, min, not, map, filter, List, length, set, slice_index_or, count_by}
use Rattle.std.specs.Int.Bits.{bit_and}
use Rattle.ga_report.specs.declared.row_index.RowIndex.{RowIndex}
use Rattle.ga_report.specs.Steps.RowPlaces.{AreIndexes, label_hash}
use Rattle.ga_report.specs.Source.{SourceRow}

-- the bucket of a hash, of this many
abbrev pub bucket_at : ℕ → ℕ → ℕ
bucket_at many hash = bit_and hash (many - 1)

-- how many of the hashes are in each bucket: none, one, or more
pub record AreBuckets (hashes : List ℕ) (counts : List ℕ) : Type 0 where
  pub some : 1 ≤ length counts
  pub each : (bucket : ℕ) → bucket < length counts → slice_index_or counts bucket 0 ≡ min 2 (count_by (λ hash. bucket_at (length counts) hash == bucket) hashes)

-- the counts with a hash more in a bucket
abbrev pub noted_bucket : List ℕ → ℕ → List ℕ
noted_bucket counts bucket = set counts bucket (min 2 (slice_index_or counts bucket 0 + 1))

-- whether a hash is alone in its bucket
abbrev pub is_alone : List ℕ → ℕ → Bool
is_alone counts hash = slice_index_or counts (bucket_at (length counts) hash) 0 == 1

-- whether a hash has none of some bits
abbrev pub has_none : ℕ → ℕ → Bool
has_none bits hash = bit_and hash bits == 0

-- the row indexes of rows with hashes that pass a test, and those of the others
pub record IsPartition (rows : List SourceRow) (passes : ℕ → Bool) (those : List SourceRow) (some others : List RowIndex) : Type 0 where
  pub passing : AreIndexes rows some (filter (λ row. passes (label_hash row)) those)
  pub failing : AreIndexes rows others (filter (λ row. not (passes (label_hash row))) those)

-- the row indexes of rows that are alone in their buckets, and those of the others
pub record IsAlonePartition (rows those : List SourceRow) (alone others : List RowIndex) : Type 0 where
  pub counts : List ℕ
  pub are_buckets : AreBuckets (map label_hash those) counts
  pub partition : IsPartition rows (is_alone counts) those alone others
