-- The rows of keys, one at a time.
use Rattle.std.proofs.Common.{◌≡◌, ℕ, zero, suc, ◌<◌, List, [], ◌∷◌, Some, get_or, length, map, refl, sym, ap, ◌∙◌, arith}
use Rattle.std.specs.Prelude.{slice_get}
use Rattle.std.proofs.lemmas.Simd.{map-map}
use Rattle.ga_base.specs.declared.counts.Sums.{Sums}
use Rattle.ga_base.specs.declared.key.Key.{Key}
use Rattle.ga_report.specs.Source.{SourceRow}
use Rattle.ga_summary.specs.SummaryRows.{no_sums}
use Rattle.ga_totals.specs.Steps.KeyRows.{NumberedKey}
use Rattle.ga_totals.specs.Steps.Sources.{source_rows}
use Rattle.ga_totals.proofs.Numbering.{next, numbered}

-- there is a row for each key
pub rows-many : (keys : List Key) (sums : List Sums) (visits : List ℕ) → length sums ≡ length keys → length visits ≡ length keys → length (source_rows keys sums visits) ≡ length keys
rows-many [] sums visits summed visited = refl
rows-many (key ∷ keys) [] visits summed visited = summed
rows-many (key ∷ keys) (own ∷ sums) [] summed visited = visited
rows-many (key ∷ keys) (own ∷ sums) (visitors ∷ visits) summed visited = ap suc (rows-many keys sums visits (omega (arith, summed)) (omega (arith, visited)))

-- a row is what is at its place
pub row-at : (keys : List Key) (sums : List Sums) (visits : List ℕ) (at : ℕ) (key : Key) (own : Sums) (visitors : ℕ) → at < length (source_rows keys sums visits)
    → slice_get (source_rows keys sums visits) at ≡ Some (record { key = get_or keys at key; sums = get_or sums at own; visitors = get_or visits at visitors })
row-at [] sums visits at k s v less = absurd (omega (arith, less))
row-at (key ∷ keys) [] visits at k s v less = absurd (omega (arith, less))
row-at (key ∷ keys) (own ∷ sums) [] at k s v less = absurd (omega (arith, less))
row-at (key ∷ keys) (own ∷ sums) (visitors ∷ visits) zero k s v less = refl
row-at (key ∷ keys) (own ∷ sums) (visitors ∷ visits) (suc at) k s v less = row-at keys sums visits at k s v (omega (arith, less))

-- the row of a key by its number
abbrev pub source_at : List Sums → List ℕ → NumberedKey → SourceRow
source_at sums visits n = record { key = n.key; sums = get_or sums n.number no_sums; visitors = get_or visits n.number 0 }

pub source-by-number : (keys : List Key) (sums : List Sums) (visits : List ℕ) → length sums ≡ length keys → length visits ≡ length keys
    → source_rows keys sums visits ≡ map (source_at sums visits) (numbered keys)
source-by-number [] sums visits summed visited = refl
source-by-number (key ∷ keys) [] visits summed visited = absurd (omega (arith, summed))
source-by-number (key ∷ keys) (own ∷ sums) [] summed visited = absurd (omega (arith, visited))
source-by-number (key ∷ keys) (own ∷ sums) (visitors ∷ visits) summed visited =
    ap (λ (rows : List SourceRow). record { key = key; sums = own; visitors = visitors } ∷ rows)
    (source-by-number keys sums visits (omega (arith, summed)) (omega (arith, visited)) ∙ sym (map-map (source_at (own ∷ sums) (visitors ∷ visits)) next (numbered keys)))
