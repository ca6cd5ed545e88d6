use Rattle.ga_base.specs.Orders.{key_cmp}
use Rattle.ga_summary.specs.SummaryRows.{SummaryRow}
use Rattle.ga_summary.specs.Steps.Entries.{rows_of}
use Rattle.ga_summary.specs.Steps.Places.{StandsAt, GoesTo}
use Rattle.ga_summary.proofs.Placing.{takes_here, rows_taken, others_taken, closed_taken, rows_inserted, others_inserted, closed_inserted}
use Rattle.ga_summary.proofs.entries.place.Goals as goal

pub take-requires : goal.take-requires
take-requires c =
    let h : StandsAt key_cmp (λ (row : SummaryRow). row.key) c.args.more.value.key (rows_of c.args.entries.now.items) c.in-Ok.at = rw (← c.deref-2.ensures, ← c.deref.ensures.value) c.in-Ok.ensures in
    rw (c.into_inner.ensures, c.deref_mut-entry.ensures.value) (takes_here c.args.entries.now.items c.args.more.value c.in-Ok.at c.index_mut.result.now h c.index_mut.ensures.value c.requires.fits)

pub returns-in-Ok-clause-rows : goal.returns-in-Ok-clause-rows
returns-in-Ok-clause-rows c =
    let h : StandsAt key_cmp (λ (row : SummaryRow). row.key) c.args.more.value.key (rows_of c.args.entries.now.items) c.in-Ok.at = rw (← c.deref-2.ensures, ← c.deref.ensures.value) c.in-Ok.ensures in
    rows_taken c.args.entries.now.items c.args.more.value c.in-Ok.at c.index_mut.result.now h c.index_mut.ensures.value c.take.new.self (rw (← c.into_inner.ensures, ← c.deref_mut-entry.ensures.value) c.take.ensures.row)

pub returns-in-Ok-clause-others : goal.returns-in-Ok-clause-others
returns-in-Ok-clause-others c =
    let h : StandsAt key_cmp (λ (row : SummaryRow). row.key) c.args.more.value.key (rows_of c.args.entries.now.items) c.in-Ok.at = rw (← c.deref-2.ensures, ← c.deref.ensures.value) c.in-Ok.ensures in
    others_taken c.args.entries.now.items c.args.more.value c.in-Ok.at c.index_mut.result.now h c.index_mut.ensures.value c.take.new.self (rw (← c.into_inner.ensures, ← c.deref_mut-entry.ensures.value) c.take.ensures.row)

pub returns-in-Ok-clause-closed : goal.returns-in-Ok-clause-closed
returns-in-Ok-clause-closed c =
    let h : StandsAt key_cmp (λ (row : SummaryRow). row.key) c.args.more.value.key (rows_of c.args.entries.now.items) c.in-Ok.at = rw (← c.deref-2.ensures, ← c.deref.ensures.value) c.in-Ok.ensures in
    closed_taken c.args.entries.now.items c.args.more.value c.in-Ok.at c.index_mut.result.now h c.index_mut.ensures.value c.take.new.self (rw (← c.into_inner.ensures, ← c.deref_mut-entry.ensures.value) c.take.ensures.row) c.take.ensures.closed

pub returns-in-Ok-insert-clause-rows : goal.returns-in-Ok-insert-clause-rows
returns-in-Ok-insert-clause-rows c =
    let h : GoesTo key_cmp (λ (row : SummaryRow). row.key) c.args.more.value.key (rows_of c.args.entries.now.items) c.in-Err.at = rw (← c.deref-2.ensures, ← c.deref.ensures.value) c.in-Err.ensures in
    rw (c.in-Ok-insert.ensures.items) (rows_inserted c.args.entries.now.items c.args.more c.in-Err.at h)

pub returns-in-Ok-insert-clause-others : goal.returns-in-Ok-insert-clause-others
returns-in-Ok-insert-clause-others c = λ key apart. rw (c.in-Ok-insert.ensures.items) (others_inserted c.args.entries.now.items c.args.more c.in-Err.at key apart)

pub returns-in-Ok-insert-clause-closed : goal.returns-in-Ok-insert-clause-closed
returns-in-Ok-insert-clause-closed c =
    let h : GoesTo key_cmp (λ (row : SummaryRow). row.key) c.args.more.value.key (rows_of c.args.entries.now.items) c.in-Err.at = rw (← c.deref-2.ensures, ← c.deref.ensures.value) c.in-Err.ensures in
    rw (c.in-Ok-insert.ensures.items) (closed_inserted c.args.entries.now.items c.args.more c.in-Err.at c.requires.rising h c.requires.closed)
