use Rattle.std.proofs.Common.{◌++◌}
use Rattle.ga_batches.specs.Batches.{held}
use Rattle.ga_line.specs.Lines.{lines}
use Rattle.ga_logs.proofs.Held.{fed-lines, have_outcomes-both}
use Rattle.ga_logs.proofs.laws.fed_bytes_keep_their_outcomes.Goals as goal

pub returns : goal.returns
returns c setup old new bytes more keep outcomes feeds =
    let cut = c.lines_are_cut_one_by_one.ensures in
    have_outcomes-both setup (lines (held new ++ more) keep) (lines ((held old ++ bytes) ++ more) keep) outcomes
    (fed-lines cut.pieces cut.once bytes more old new keep feeds)
