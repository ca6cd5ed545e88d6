use Rattle.std.proofs.Common.{◌++◌}
use Rattle.ga_batches.specs.Batches.{held}
use Rattle.ga_line.specs.Lines.{lines}
use Rattle.ga_logs.proofs.FedLines.{stream-lines}
use Rattle.ga_logs.proofs.Held.{have_outcomes-both}
use Rattle.ga_logs.specs.Streams.{batch_lines}
use Rattle.ga_logs.proofs.laws.batches_keep_their_lines.Goals as goal

pub returns : goal.returns
returns c setup stream batches batcher keep outcomes fed =
    have_outcomes-both setup (batch_lines batches ++ lines (held batcher) keep) (lines stream keep) outcomes
    (stream-lines c.lines_added.ensures c.lines_are_cut_one_by_one.ensures.pieces stream batches batcher keep (c.batches_are_its_stream.ensures stream batches batcher fed))
