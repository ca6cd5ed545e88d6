use Rattle.ga_line.specs.Lines.{lines}
use Rattle.ga_batches.specs.Lines.{cut_lines}
use Rattle.ga_logs.proofs.Held.{have_outcomes-both, held-lines}
use Rattle.ga_logs.proofs.laws.held_lines_come_to_the_same.Goals as goal

pub returns : goal.returns
returns c setup text keep outcomes =
    have_outcomes-both setup (lines (cut_lines text) keep) (lines text keep) outcomes (held-lines c.lines_are_cut_one_by_one.ensures.pieces text keep)
