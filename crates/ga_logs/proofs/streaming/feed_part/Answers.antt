use Rattle.std.proofs.Common.{arith, ◌≡◌, ◌∙◌, ◌-◌, ap, length, length-append, List, ℕ, subst, sym}
use Rattle.std.proofs.lemmas.Result.{err_from_is_err_and}
use Rattle.ga_ports.specs.Trace.FilesTrace.{no_files_call, files_then}
use Rattle.ga_logs.specs.Counting.{CountingStart}
use Rattle.ga_logs.proofs.Batches.{on-value}
use Rattle.ga_resume.proofs.PartReads.{stops-more-within}
use Rattle.ga_logs.proofs.StreamSteps.{FeedsBehind, after-taking, feeds-all, feeds-none, feeds-on, read-then, wants-after}
use Rattle.ga_logs.proofs.streaming.feed_part.Goals as goal

pub loop-at-init : goal.loop-at-init
loop-at-init g c =
    let view = g.F.Files.view in
    let v = view c.args.files.now in
    let none = c.new-taken.ensures.items in
    record {
      within = c.requires.order;
      begun = omega arith;
      went = no_files_call;
      some = c.requires.some;
      small = omega (arith, ap (λ (xs : List ℕ). length xs) none);
      limit = c.requires.limit;
      room = c.requires.room;
      feeds = subst (λ (xs : List ℕ). FeedsBehind c.args.crew.now.setup.now c.args.part.from c.args.part.from v v c.args.counting.now c.args.counting.now xs c.args.batcher.now c.args.batcher.now) (sym none)
          (feeds-none c.args.crew.now.setup.now c.args.part.from v c.args.counting.now c.args.batcher.now c.requires.going);
    }

pub loop-at-preserved : goal.loop-at-preserved
loop-at-preserved g c =
    let view = g.F.Files.view in
    let was = c.loop-at.invariant in
    let ok = c.in_ok-at.ensures.ok in
    let took = c.in_ok-take_into.ensures in
    let b = c.take_into.new.self in
    let batcher = c.take_into.ensures.batcher in
    let stays = after-taking c.fill_and_count.new.batcher b took.value in
    let same = ap (λ (s : CountingStart). s.limit) ok.counts.start in
    let v = view c.args.files.now in
    let w = view c.loop-at.files in
    let feeds = subst (λ (xs : List ℕ). FeedsBehind c.args.crew.now.setup.now c.args.part.from c.loop-at.at v w c.args.counting.now c.loop-at.counting xs c.args.batcher.now c.loop-at.batcher)
    (sym c.deref.ensures.value) was.feeds in
    record {
      within = ok.fills.within;
      begun = omega (arith, was.begun, ok.fills.some);
      went = files_then was.went c.fill_and_count.ensures.calls;
      some = omega (arith, was.some, c.loop-at.auto.buffer, c.fill_and_count.auto.buffer);
      small = omega (arith, took.within, ok.fills.fills.limit, was.limit, same);
      limit = stays.2 ∙ ok.fills.fills.limit ∙ was.limit ∙ sym same;
      room = omega (arith, stays.3, length-append b.batch b.begun, batcher.short, batcher.limit.0);
      feeds = feeds-on c.args.crew.now.setup.now c.args.part.from c.loop-at.at c.in_ok-at.at c.args.part.to v w (view c.fill_and_count.new.files) c.args.counting.now c.loop-at.counting
          c.fill_and_count.new.counting c.deref.result.now c.take_into.new.spare.items c.args.batcher.now c.loop-at.batcher c.fill_and_count.new.batcher b was.begun (omega (arith, ok.fills.some))
          feeds ok stays.0 stays.1 stays.2 took.stream;
    }

pub returns-in_err-at-clause-failed : goal.returns-in_err-at-clause-failed
returns-in_err-at-clause-failed g c =
    let view = g.F.Files.view in
    let was = c.loop-at.invariant in
    let p = err_from_is_err_and c.from_residual.result c.from_residual.ensures.1 in
    rw (p.1, p.2) (stops-more-within (c.loop-at.at - c.args.part.from) _ (c.args.part.to - c.args.part.from) (view c.args.files.now) (view c.loop-at.files) _ _ was.feeds.read.files
    (omega (arith, was.begun, was.within)) c.in_err-at.ensures.failed)

pub returns-in_err-at-clause-calls : goal.returns-in_err-at-clause-calls
returns-in_err-at-clause-calls g c = files_then c.loop-at.invariant.went c.fill_and_count.ensures.calls

pub returns-in_err-take_into-clause-failed : goal.returns-in_err-take_into-clause-failed
returns-in_err-take_into-clause-failed g c =
    let view = g.F.Files.view in
    let was = c.loop-at.invariant in
    let ok = c.in_ok-at.ensures.ok in
    let v = view c.args.files.now in
    let u = view c.fill_and_count.new.files in
    let read = read-then c.args.part.from c.loop-at.at c.in_ok-at.at v (view c.loop-at.files) u was.feeds.part ok.fills.fills.part was.begun (omega (arith, ok.fills.some)) was.feeds.read ok.fills.fills.read in
    let p = err_from_is_err_and c.from_residual-in_err-take_into.result c.from_residual-in_err-take_into.ensures.1 in
    rw (p.1, p.2) (wants-after (c.in_ok-at.at - c.args.part.from) (c.args.part.to - c.args.part.from) v u (omega (arith, ok.fills.within, ok.fills.some)) read.files)

pub returns-in_err-take_into-clause-calls : goal.returns-in_err-take_into-clause-calls
returns-in_err-take_into-clause-calls g c = files_then c.loop-at.invariant.went c.fill_and_count.ensures.calls

pub returns-in_err-counted-clause-failed : goal.returns-in_err-counted-clause-failed
returns-in_err-counted-clause-failed g c =
    let view = g.F.Files.view in
    let was = c.loop-at.invariant in
    let p = err_from_is_err_and c.from_residual-in_err-counted.result c.from_residual-in_err-counted.ensures.1 in
    rw (p.1, p.2) (wants-after (c.loop-at.at - c.args.part.from) (c.args.part.to - c.args.part.from) (view c.args.files.now) (view c.loop-at.files) (omega (arith, was.begun, was.within)) was.feeds.read.files)

pub returns-clause-ok : goal.returns-clause-ok
returns-clause-ok g c =
    let view = g.F.Files.view in
    let was = c.loop-at.invariant in
    let v = view c.args.files.now in
    let w = view c.loop-at.files in
    let taken = c.deref-2.result.now in
    let over : c.loop-at.at ≡ c.args.part.to = omega (arith, was.within) in
    let same = subst (λ (xs : List ℕ). FeedsBehind c.args.crew.now.setup.now c.args.part.from c.loop-at.at v w c.args.counting.now c.loop-at.counting xs c.args.batcher.now c.loop-at.batcher)
    (sym c.deref-2.ensures.value) was.feeds in
    let feeds = subst (λ (n : ℕ). FeedsBehind c.args.crew.now.setup.now c.args.part.from n v w c.args.counting.now c.loop-at.counting taken c.args.batcher.now c.loop-at.batcher) over same in
    feeds-all c.args.crew.now.setup.now c.args.part.from c.args.part.to v w c.args.counting.now c.loop-at.counting c.count_taken-counted.new.counting taken c.args.batcher.now c.loop-at.batcher feeds
    (on-value c.count_taken-counted.result.0 tt c.in_ok-counted.was c.count_taken-counted.ensures.start)
    (on-value c.count_taken-counted.result.0 tt c.in_ok-counted.was c.count_taken-counted.ensures.within)
