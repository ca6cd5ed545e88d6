use Rattle.std.proofs.Common.{◌≡◌, ◌+◌, ◌++◌, ◌∙◌, ◌-◌, ◌≤◌, [], List, ℕ, arith, ap, length, length-append, take, drop, take_all, subst, sym}
use Rattle.ga_logs.specs.Counting.{CountingStart}
use Rattle.ga_logs.proofs.Batches.{on-ok, on-value, taken-long, taken-more, taken-of}
use Rattle.ga_logs.proofs.StreamSteps.{Waits, after-taking, waits-none, waits-on, within-all}
use Rattle.ga_logs.proofs.streaming.feed_text.Goals as goal

pub loop-at-init : goal.loop-at-init
loop-at-init g c =
    let none = c.new-taken.ensures.items in
    record {
      within = omega arith;
      small = omega (arith, ap (λ (xs : List ℕ). length xs) none);
      limit = c.requires.limit;
      room = c.requires.room;
      waits = subst (λ (xs : List ℕ). Waits c.args.crew.now.setup.now [] c.args.counting.now c.args.counting.now xs c.args.batcher.now c.args.batcher.now) (sym none)
          (waits-none c.args.crew.now.setup.now c.args.counting.now c.args.batcher.now c.requires.going);
    }

pub loop-at-preserved : goal.loop-at-preserved
loop-at-preserved g c =
    let was = c.loop-at.invariant in
    let setup = c.args.crew.now.setup.now in
    let text = c.args.text.now in
    let at = c.loop-at.at in
    let took = c.in_ok-take_into.ensures in
    let both = c.feed_and_count-counted in
    let n = both.result.1 in
    let fed = both.ensures.feeds in
    let b = c.take_into.new.self in
    let batcher = c.take_into.ensures.batcher in
    let stays = after-taking both.new.batcher b took.value in
    let rest = take (length text - at) (drop at text) in
    let last = c.deref.result.now in
    let within : at + n ≤ length text = taken-of text at n was.within fed.within in
    let whole : take at text ++ take n rest ≡ take (at + n) text = taken-more [] text at n was.within in
    let was-waiting = subst (λ (xs : List ℕ). Waits setup (take at text) c.args.counting.now c.loop-at.counting xs c.args.batcher.now c.loop-at.batcher) (sym c.deref.ensures.value) was.waits in
    let counts = on-value both.result.0 tt c.in_ok-counted.was both.ensures.counts in
    let same = ap (λ (s : CountingStart). s.limit) counts.start in
    record {
      within = within;
      small = omega (arith, took.within, fed.limit, was.limit, same);
      limit = stays.2 ∙ fed.limit ∙ was.limit ∙ sym same;
      room = omega (arith, stays.3, length-append b.batch b.begun, batcher.short, batcher.limit.0);
      waits = subst (λ (part : List ℕ). Waits setup part c.args.counting.now both.new.counting c.take_into.new.spare.items c.args.batcher.now b) whole
          (waits-on setup (take at text) (take n rest) c.args.counting.now c.loop-at.counting both.new.counting last c.take_into.new.spare.items c.args.batcher.now c.loop-at.batcher both.new.batcher b
          was-waiting counts fed.going (fed.fed ∙ ap (λ (k : ℕ). c.loop-at.batcher.fed + k) (sym (taken-long text at n fed.within))) fed.limit (λ stream taken. fed.holds stream taken) stays.0 stays.1 stays.2 took.stream);
    }

pub returns-clause-within : goal.returns-clause-within
returns-clause-within g c =
    let was = c.loop-at.invariant in
    let setup = c.args.crew.now.setup.now in
    let text = c.args.text.now in
    let last = c.deref-2.result.now in
    let over : take c.loop-at.at text ≡ text = take_all c.loop-at.at text (omega arith) in
    let waits = subst (λ (xs : List ℕ). Waits setup text c.args.counting.now c.loop-at.counting xs c.args.batcher.now c.loop-at.batcher) (sym c.deref-2.ensures.value)
    (subst (λ (part : List ℕ). Waits setup part c.args.counting.now c.loop-at.counting c.loop-at.taken.items c.args.batcher.now c.loop-at.batcher) over was.waits) in
    on-ok c.count_taken-counted.result.0 (within-all setup text c.args.counting.now c.loop-at.counting c.count_taken-counted.new.counting last c.args.batcher.now c.loop-at.batcher waits)
    c.count_taken-counted.ensures.within
