use Rattle.std.proofs.Common.{◌+◌, List, sym, subst}
use Rattle.ga_totals.specs.Steps.KeyRows.{NumberedKey}
use Rattle.ga_totals.proofs.Numbering.{AreFirst, first-more}
use Rattle.ga_totals.proofs.numbered_key.number_keys.Goals as goal

pub loop-number-preserved : goal.loop-number-preserved
loop-number-preserved c =
    let keys = c.args.keys.now in
    let i = c.loop-number.number in
    let more = first-more keys c.loop-number.all.items i c.index-keys-number.result c.loop-number-test.true c.index-keys-number.is c.loop-number.invariant.keys c.loop-number.invariant.numbers in
    let here = subst (λ (l : List NumberedKey). AreFirst keys (i + 1) l) (sym c.in_ok-push.ensures.items) more in
    record { keys = here.keys_are; numbers = here.numbers }
