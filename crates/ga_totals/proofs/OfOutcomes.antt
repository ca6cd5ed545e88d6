-- What holds of each tally of outcomes.
use Rattle.std.proofs.Common.{◌≡◌, ℕ, ◌<◌, List, [], get_or, length, ap, ◌∙◌, subst}
use Rattle.std.specs.List.{All, Contains}
use Rattle.std.proofs.lemmas.List.{length-map}
use Rattle.std.proofs.lemmas.List.Elements.{All-contains_itself, All-from_get_or, All-weaker}
use Rattle.std.proofs.lemmas.Option.{slice_get_within}
use Rattle.ga_base.specs.declared.counts.Sums.{Sums}
use Rattle.ga_base.specs.declared.key.Key.{Key}
use Rattle.ga_summary.specs.Outcomes.{Outcome, sums_of}
use Rattle.ga_tallies.specs.Tallies.{IsTallyOf, TallySeen, pairs_in}
use Rattle.ga_totals.specs.Steps.KeyRows.{AreWithin}
use Rattle.ga_tallies.proofs.PairRows.{pair-of-row}

-- each key has its sums
pub as-many : (outcomes : List Outcome) (t : TallySeen) → IsTallyOf outcomes t → length t.sums ≡ length t.keys
as-many outcomes t is = ap (λ (l : List Sums). length l) is.sums ∙ length-map t.keys (λ (key : Key). sums_of key outcomes)

-- its rows are of visitors that are there
pub rows-within : (outcomes : List Outcome) (t : TallySeen) (rows : List (List ℕ)) → IsTallyOf outcomes t → pairs_in rows ≡ t.pairs → AreWithin (length t.visitors) rows
rows-within outcomes t rows is same = All-from_get_or (All (λ v. v < length t.visitors)) rows [] (λ key less. row-within key (get_or rows key []) (λ v at. pair-of-row rows key v at))
  where
    row-within : (key : ℕ) (row : List ℕ) → ((v : ℕ) → Contains row v → Contains (pairs_in rows) (key, v)) → All (λ v. v < length t.visitors) row
    row-within key row into =
        All-weaker (Contains row) (λ v. v < length t.visitors) (λ v at.
        let p = is.pairs key v (subst (λ (l : List (ℕ × ℕ)). Contains l (key, v)) same (into v at)) in
        slice_get_within t.visitors v p.1 p.3) row (All-contains_itself row)
