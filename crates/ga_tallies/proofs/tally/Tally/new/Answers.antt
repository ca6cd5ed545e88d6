use Rattle.std.proofs.Common.{◌≡◌, [], sym, subst}
use Rattle.ga_base.specs.Totals.{no_totals}
use Rattle.ga_tallies.specs.Tallies.{TallySeen, IsTallyOf}
use Rattle.ga_tallies.proofs.NoLines.{no_tally, no-lines}
use Rattle.ga_tallies.proofs.tally.Tally.new.Goals as goal

pub returns : goal.returns
returns c =
    let keys = sym c.new.ensures in
    let visitors = sym c.new-2.ensures in
    let sums = sym c.new-3.ensures.items in
    let pairs = sym c.new-4.ensures in
    let made : TallySeen = record { totals = no_totals; keys = c.new.result; visitors = c.new-2.result; sums = c.new-3.result.items; pairs = c.new-4.result } in
    let same : no_tally ≡ made = λ i. record { totals = no_totals; keys = keys i; visitors = visitors i; sums = sums i; pairs = pairs i } in
    subst (IsTallyOf []) same no-lines
