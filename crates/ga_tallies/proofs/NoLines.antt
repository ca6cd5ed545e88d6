-- The tally of no lines.
use Rattle.std.proofs.Common.{[], refl, arith}
use Rattle.std.specs.List.{IsDistinct}
use Rattle.std.proofs.lemmas.Bool.{false≢true}
use Rattle.ga_base.specs.Totals.{no_totals}
use Rattle.ga_tallies.specs.Tallies.{TallySeen, IsTallyOf}

abbrev pub no_tally : TallySeen
no_tally = record { totals = no_totals; keys = []; visitors = []; sums = []; pairs = [] }

pub no-lines : IsTallyOf [] no_tally
unfolding IsDistinct
no-lines = record {
  totals = refl;
  different_keys = tt;
  different_visitors = tt;
  sums = refl;
  counted = λ key. refl;
  pairs = λ k v at. absurd (omega (arith, at.1));
  visits = λ key visitor has. absurd (false≢true has);
  used = λ v lt. absurd (omega (arith, lt));
}
