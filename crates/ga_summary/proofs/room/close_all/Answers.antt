use Rattle.std.proofs.Common.{◌≡◌, ◌<◌, Box, Global, length, get_or, ap, ◌∙◌, arith}
use Rattle.ga_summary.specs.declared.entry.Entry.{Entry}
use Rattle.ga_summary.specs.Steps.Entries.{IsClosed, row_of}
use Rattle.ga_summary.proofs.Closing.{rows_kept, set_more}
use Rattle.ga_summary.proofs.room.close_all.Goals as goal

pub loop-boxed-preserved : goal.loop-boxed-preserved
loop-boxed-preserved c =
    let within : c.loop-boxed.boxed-index < length c.loop-boxed.entries = omega (arith, c.loop-boxed-test.true, c.loop-boxed.auto.boxed-index-end) in
    let row : row_of c.close.new.self ≡ row_of (get_or c.loop-boxed.entries c.loop-boxed.boxed-index c.boxed-item.result).value = c.close.ensures.row ∙ ap (λ (e : Entry). row_of e) c.deref_mut-entry.ensures.value in
    record {
      rows = rows_kept c.loop-boxed.entries c.loop-boxed.boxed-index c.boxed-item.result c.close.new.self within row ∙ c.loop-boxed.invariant.rows;
      closed = set_more (λ (b : Box Entry Global). IsClosed b.value) c.loop-boxed.entries c.loop-boxed.boxed-index _ within c.close.ensures.closed c.loop-boxed.invariant.closed;
    }
