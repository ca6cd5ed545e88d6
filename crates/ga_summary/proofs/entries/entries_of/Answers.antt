use Rattle.std.proofs.Common.{Box, Global, arith}
use Rattle.std.proofs.lemmas.List.Elements.{All-push}
use Rattle.ga_summary.specs.declared.entry.Entry.{Entry}
use Rattle.ga_summary.specs.SummaryParts.{row_of_part}
use Rattle.ga_summary.specs.Steps.Entries.{IsClosed, row_of}
use Rattle.ga_summary.proofs.Taken.{taken, all-taken}
use Rattle.ga_summary.proofs.entries.entries_of.Goals as goal

pub loop-row-preserved : goal.loop-row-preserved
loop-row-preserved c = record {
  done = rw c.give_back.ensures.items (taken row_of_part (λ (b : Box Entry Global). row_of b.value) c.pop.new.self.items c.loop-row.entries.items c.in-Some.row c.in_ok-new.field-0 c.in-Some.ensures.items c.in_ok-push.ensures.items (rw c.in_ok-new.ensures.ok c.of-entry.ensures.row) c.loop-row.invariant.done);
  closed = rw c.in_ok-push.ensures.items (All-push (λ (b : Box Entry Global). IsClosed b.value) _ c.in_ok-new.field-0 c.loop-row.invariant.closed (rw c.in_ok-new.ensures.ok c.of-entry.ensures.closed));
}

pub returns-clause-rows : goal.returns-clause-rows
returns-clause-rows c = rw c.reverse.ensures.items (all-taken row_of_part (λ (b : Box Entry Global). row_of b.value) c.loop-row.rows.items c.loop-row.entries.items (omega (arith, c.in_default.ensures.cases)) c.loop-row.invariant.done)
