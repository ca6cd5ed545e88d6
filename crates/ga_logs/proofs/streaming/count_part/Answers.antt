use Rattle.std.proofs.Common.{arith, ◌-◌, ap, sym, ◌∙◌}
use Rattle.ga_logs.specs.Counting.{CountingStart}
use Rattle.std.proofs.lemmas.Result.{err_from_is_err_and}
use Rattle.ga_ports.specs.Trace.FilesTrace.{no_files_call}
use Rattle.ga_logs.proofs.StreamSteps.{adds, are-ended, wants-after}
use Rattle.ga_logs.proofs.streaming.count_part.Goals as goal

pub returns-in_err-buffer-clause-calls : goal.returns-in_err-buffer-clause-calls
returns-in_err-buffer-clause-calls g c = no_files_call

pub returns-in_err-batcher-clause-calls : goal.returns-in_err-batcher-clause-calls
returns-in_err-batcher-clause-calls g c = no_files_call

pub returns-in_err-ended-clause-failed : goal.returns-in_err-ended-clause-failed
returns-in_err-ended-clause-failed g c =
    let view = g.F.Files.view in
    let p = err_from_is_err_and c.from_residual-in_err-ended.result c.from_residual-in_err-ended.ensures.1 in
    rw (p.1, p.2) (wants-after (c.args.part.to - c.args.part.from) (c.args.part.to - c.args.part.from) (view c.args.files.now) (view c.feed_part.new.files) (omega arith) c.in_ok-feed_part.ensures.ok.read.files)

pub returns-clause-ok : goal.returns-clause-ok
returns-clause-ok g c =
    let fed = c.in_ok-feed_part.ensures.ok in
    let end = c.in_ok-ended.ensures in
    record {
      part = fed.part;
      read = fed.read;
      ended = are-ended c.args.crew.now.setup.now fed.part c.args.keep c.in_ok-ended.ended c.args.counting.now c.feed_part.new.counting c.end.new.counting c.in_ok-batcher.batcher c.feed_part.new.batcher
          c.in_ok-batcher.ensures.stream fed.within end.ended c.requires.counted;
      adds = adds c.args.crew.now.setup.now fed.part c.args.keep c.in_ok-ended.ended c.args.counting.now c.feed_part.new.counting c.end.new.counting c.in_ok-batcher.batcher c.feed_part.new.batcher
          c.in_ok-batcher.ensures.stream fed.within end.ended fed.start end.start;
    }

pub end-requires-clause-limit : goal.end-requires-clause-limit
end-requires-clause-limit g c κs within =
    let fed = c.in_ok-feed_part.ensures.ok in
    fed.limit ∙ c.in_ok-batcher.ensures.limit ∙ sym (ap (λ (s : CountingStart). s.limit) fed.start)
