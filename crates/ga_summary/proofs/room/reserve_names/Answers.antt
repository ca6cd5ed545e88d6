use Rattle.std.proofs.Common.{◌≡◌, OnOk, Ok, Err, Result, ap}
use Rattle.ga_base.specs.Orders.{key_cmp}
use Rattle.ga_summary.specs.SummaryRows.{SummaryRow}
use Rattle.ga_summary.specs.Steps.Entries.{row_of, rows_of}
use Rattle.ga_summary.specs.Steps.Places.{StandsAt, GoesTo}
use Rattle.ga_summary.proofs.RowLookups.{row_missing}
use Rattle.ga_summary.proofs.Placing.{rows_same, room_here, room_kept, others_set, room_missing}
use Rattle.ga_summary.proofs.room.reserve_names.Goals as goal

on_ok_then : {T E : Type 0} {P Q : Type 0} (r : Result T E) → (P → Q) → OnOk r P → OnOk r Q
on_ok_then (Ok x) f h = f h
on_ok_then (Err e) f h = tt

pub returns-in-Ok-clause-rows : goal.returns-in-Ok-clause-rows
returns-in-Ok-clause-rows c =
    let h : StandsAt key_cmp (λ (row : SummaryRow). row.key) c.args.more.now.key (rows_of c.args.entries.now.items) c.in-Ok.at = rw (← c.deref.ensures.value) c.in-Ok.ensures in
    rows_same c.args.entries.now.items c.args.more.now c.in-Ok.at c.index_mut.result.now h c.index_mut.ensures.value c.reserve.new.self
    (rw (← c.deref_mut-entry.ensures.value) c.reserve.ensures.row)

pub returns-in-Ok-clause-ok : goal.returns-in-Ok-clause-ok
returns-in-Ok-clause-ok c =
    let h : StandsAt key_cmp (λ (row : SummaryRow). row.key) c.args.more.now.key (rows_of c.args.entries.now.items) c.in-Ok.at = rw (← c.deref.ensures.value) c.in-Ok.ensures in
    on_ok_then c.reserve.result (room_here c.args.entries.now.items c.args.more.now c.in-Ok.at c.index_mut.result.now h c.index_mut.ensures.value c.reserve.new.self
    (rw (← c.deref_mut-entry.ensures.value) c.reserve.ensures.row)) c.reserve.ensures.ok

pub returns-in-Ok-clause-kept : goal.returns-in-Ok-clause-kept
returns-in-Ok-clause-kept c =
    let h : StandsAt key_cmp (λ (row : SummaryRow). row.key) c.args.more.now.key (rows_of c.args.entries.now.items) c.in-Ok.at = rw (← c.deref.ensures.value) c.in-Ok.ensures in
    on_ok_then c.reserve.result (room_kept c.args.entries.now.items c.args.more.now c.in-Ok.at c.index_mut.result.now h c.index_mut.ensures.value c.reserve.new.self
    (rw (← c.deref_mut-entry.ensures.value) c.reserve.ensures.row)) (rw (← c.deref_mut-entry.ensures.value) c.reserve.ensures.capacity)

pub returns-in-Ok-clause-others : goal.returns-in-Ok-clause-others
returns-in-Ok-clause-others c =
    let h : StandsAt key_cmp (λ (row : SummaryRow). row.key) c.args.more.now.key (rows_of c.args.entries.now.items) c.in-Ok.at = rw (← c.deref.ensures.value) c.in-Ok.ensures in
    let row : row_of c.reserve.new.self ≡ row_of c.index_mut.result.now.value = rw (← c.deref_mut-entry.ensures.value) c.reserve.ensures.row in
    others_set c.args.entries.now.items c.args.more.now c.in-Ok.at c.index_mut.result.now h c.index_mut.ensures.value c.reserve.new.self
    (ap (λ (r : SummaryRow). r.key) row)

pub returns-in-Err-clause-ok : goal.returns-in-Err-clause-ok
returns-in-Err-clause-ok c =
    let h : GoesTo key_cmp (λ (row : SummaryRow). row.key) c.args.more.now.key (rows_of c.args.entries.now.items) c.in-Err.field-0 = rw (← c.deref.ensures.value) c.in-Err.ensures in
    room_missing c.args.entries.now.items c.args.more.now (row_missing c.args.entries.now.items c.args.more.now.key c.in-Err.field-0 c.requires h)
