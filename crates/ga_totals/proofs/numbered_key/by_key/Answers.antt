use Rattle.ga_totals.proofs.Numbering.{sorted-by-key}
use Rattle.ga_totals.proofs.numbered_key.by_key.Goals as goal

pub returns : goal.returns
returns c =
    sorted-by-key c.args.keys.now _ c.sort_by_key.result.items c.in_ok-number_keys.ensures.keys c.in_ok-number_keys.ensures.numbers c.sort_by_key.ensures.same c.sort_by_key.ensures.sorted
