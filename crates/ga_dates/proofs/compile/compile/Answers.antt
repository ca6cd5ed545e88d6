use Rattle.ga_dates.proofs.RowLemmas.{completes}
use Rattle.ga_dates.proofs.compile.compile.Goals as goal

pub returns-then-gives_needed-clause-format : goal.returns-then-gives_needed-clause-format
returns-then-gives_needed-clause-format c =
    let row = c.in_ok-items.ensures.row in
    (completes c.args.kind c.args.text.now c.in_ok-items.items.items _ row.0 c.gives_needed.result c.deref.ensures.value c.gives_needed.ensures row.1).0 c.if-gives_needed.true

pub returns-else-gives_needed-clause-fault : goal.returns-else-gives_needed-clause-fault
returns-else-gives_needed-clause-fault c =
    let row = c.in_ok-items.ensures.row in
    (completes c.args.kind c.args.text.now c.in_ok-items.items.items _ row.0 c.gives_needed.result c.deref.ensures.value c.gives_needed.ensures row.1).1 c.if-gives_needed.false
