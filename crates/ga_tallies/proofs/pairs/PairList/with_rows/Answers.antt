use Rattle.std.proofs.Common.{ℕ, List, subst}
use Rattle.ga_tallies.specs.Steps.Adding.{HoldTheSame}
use Rattle.ga_tallies.specs.Tallies.{lists_in, pairs_in}
use Rattle.ga_tallies.proofs.pairs.PairList.with_rows.Goals as goal

pub returns : goal.returns
returns c = subst (λ (l : List (ℕ × ℕ)). HoldTheSame l (pairs_in (lists_in c.make_rows.new.rows.items))) c.self.view_is c.in_ok-make_rows.ensures.same
