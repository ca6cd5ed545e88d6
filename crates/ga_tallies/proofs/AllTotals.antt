-- The totals of tallies, added up.
use Rattle.std.proofs.Common.{List, [], ◌∷◌, ◌++◌, ◌≡◌, refl, arith}
use Rattle.ga_base.specs.declared.counts.Totals.{Totals}
use Rattle.ga_base.specs.Totals.{totals_plus, TotalsFit}
use Rattle.ga_tallies.specs.Tallies.{TallySeen, totals_from}

-- what they were added up to fits where all of them fit
pub first-fits : (start : Totals) (tallies : List TallySeen) → TotalsFit (totals_from start tallies) → TotalsFit start
first-fits start [] fit = fit
first-fits start (tally ∷ tallies) fit =
    let more = first-fits (totals_plus start tally.totals) tallies fit in
    record { lines = omega (arith, more.lines); bytes = omega (arith, more.bytes); micros = omega (arith, more.micros) }

-- and so do the first of them
pub some-fit : (start : Totals) (front back : List TallySeen) → TotalsFit (totals_from start (front ++ back)) → TotalsFit (totals_from start front)
some-fit start [] back fit = first-fits start back fit
some-fit start (tally ∷ front) back fit = some-fit (totals_plus start tally.totals) front back fit

pub totals-behind : (start : Totals) (tallies : List TallySeen) (last : TallySeen) → totals_from start (tallies ++ last ∷ []) ≡ totals_plus (totals_from start tallies) last.totals
totals-behind start [] last = refl
totals-behind start (tally ∷ tallies) last = totals-behind (totals_plus start tally.totals) tallies last
