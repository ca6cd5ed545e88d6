use Rattle.std.proofs.Common.{Box, Global}
use Rattle.std.proofs.lemmas.List.Elements.{All-nil}
use Rattle.ga_summary.specs.declared.entry.Entry.{Entry}
use Rattle.ga_summary.specs.Steps.Entries.{IsClosed}
use Rattle.ga_summary.proofs.Lines.{IsSummary-lines, IsSumOf-lines}
use Rattle.ga_summary.proofs.summary.Summary.of_lines.Goals as goal

pub invariant_of-result : goal.invariant_of-result
invariant_of-result c = rw (c.new.ensures.items) (IsSummary-lines c.args.failed c.args.excluded c.requires, All-nil (λ (b : Box Entry Global). IsClosed b.value))

pub returns : goal.returns
returns c = rw (c.new.ensures.items) (IsSumOf-lines c.args.failed c.args.excluded)
