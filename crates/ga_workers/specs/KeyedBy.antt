-- How the maps of a run hash.
use Rattle.std.specs.Prelude.{ℕ, List, [], ◌∷◌, fold}
use Rattle.std.specs.Hash as hash
use Rattle.std.specs.Hash.DefaultHasher.{finish, initial, write}
use Rattle.ga_base.specs.declared.counts.Totals.{Totals}
use Rattle.ga_shards.specs.Keys.{keyed_with}
use Rattle.ga_shards.specs.declared.keyed.Keyed.{Keyed}

-- the words of a digest of the first batch, the size that its log answered and the totals that the run starts from; and of the
-- same with the first word
abbrev pub keyed_from : List ℕ → ℕ → Totals → Keyed
keyed_from batch size start =
    let read = fold (λ h n. write h (hash.le_bytes 8 n)) (write initial batch)
    (size ∷ start.lines ∷ start.failed ∷ start.excluded ∷ start.hits ∷ start.bytes ∷ start.micros ∷ []) in
    keyed_with (finish read) (finish (write read (hash.le_bytes 8 (finish read))))
