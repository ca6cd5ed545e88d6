use Rattle.std.proofs.Common.{◌-◌, length, take, drop, refl, arith, length-take, length-drop}
use Rattle.ga_batches.proofs.Feeding.{feeds-none, feeds-on, before-on, holds-on, whole-taken}
use Rattle.ga_batches.proofs.batcher.Batcher.feed.Goals as goal

pub loop-at-init : goal.loop-at-init
loop-at-init c = record {
  within = omega arith;
  batcher = c.recall_invariant.ensures;
  feeds = feeds-none c.args.self.now c.recall_invariant.ensures c.requires.going;
  before = λ n lt. absurd (omega arith);
  begins = λ _. refl;
}

pub loop-at-preserved : goal.loop-at-preserved
loop-at-preserved c =
    let piece = c.args.piece.now in
    let at = c.loop-at.at in
    let more = c.feed_line-at.result in
    let before = c.loop-at.invariant in
    let line = c.feed_line-at.ensures in
    record {
      within = let w = before.within in let l = line.within in omega (arith, length-take (length piece - at) (drop at piece), length-drop at piece);
      batcher = line.batcher;
      feeds = feeds-on piece at more c.args.self.now c.loop-at.self c.feed_line-at.new.self before.feeds line.feeds;
      before = before-on piece at more c.args.self.now c.loop-at.self before.feeds before.before line.before;
      begins = λ none. let some = line.moves in absurd (omega arith);
    }

pub returns-else-not-is_full-clause-stream : goal.returns-else-not-is_full-clause-stream
returns-else-not-is_full-clause-stream c = holds-on (take c.loop-at.at c.args.piece.now) c.args.self.now c.loop-at.self c.loop-at.invariant.feeds

pub returns-else-not-is_full-clause-whole : goal.returns-else-not-is_full-clause-whole
returns-else-not-is_full-clause-whole c =
    whole-taken c.args.piece.now c.loop-at.at c.args.self.now c.loop-at.self c.loop-at.invariant.feeds (c.is_full.ensures.0 c.if-not-is_full.false) c.loop-at.invariant.within

pub returns-after-loop-at-clause-stream : goal.returns-after-loop-at-clause-stream
returns-after-loop-at-clause-stream c = holds-on (take c.loop-at.at c.args.piece.now) c.args.self.now c.loop-at.self c.loop-at.invariant.feeds
