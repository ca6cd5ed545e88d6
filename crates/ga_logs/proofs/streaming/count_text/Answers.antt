use Rattle.std.proofs.Common.{true, ap, sym, ◌∙◌}
use Rattle.ga_logs.specs.Counting.{CountingStart}
use Rattle.ga_logs.proofs.StreamSteps.{adds}
use Rattle.ga_logs.proofs.streaming.count_text.Goals as goal

pub returns : goal.returns
returns g c =
    let fed = c.in_ok-feed_text.ensures in
    let end = c.in_ok-end.ensures in
    adds c.args.crew.now.setup.now c.args.text.now true _ c.args.counting.now c.feed_text.new.counting c.end.new.counting c.in_ok-batcher.batcher c.feed_text.new.batcher c.in_ok-batcher.ensures.stream fed.within end.ended
    fed.start end.start

pub end-requires-clause-limit : goal.end-requires-clause-limit
end-requires-clause-limit g c κs within =
    let fed = c.in_ok-feed_text.ensures in
    fed.limit ∙ c.in_ok-batcher.ensures.limit ∙ sym (ap (λ (s : CountingStart). s.limit) fed.start)
