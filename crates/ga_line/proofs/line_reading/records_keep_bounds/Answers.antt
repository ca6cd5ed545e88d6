use Rattle.ga_line.proofs.BoundLemmas.{good-bounds}
use Rattle.ga_line.proofs.line_reading.records_keep_bounds.Goals as goal

pub returns : goal.returns
returns c = λ line rec says.
    good-bounds c.dates_have_eight_digits.ensures c.minutes_are_below_1440.ensures c.args.setup.now line rec c.items.ensures.complete says
