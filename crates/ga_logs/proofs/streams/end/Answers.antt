use Rattle.std.proofs.Common.{ℕ, List, ap, arith, length, length-append, sym, subst}
use Rattle.ga_batches.specs.Batches.{BatcherSeen}
use Rattle.ga_base.specs.Lines.{AreEnded}
use Rattle.ga_logs.proofs.Batches.{ended-with}
use Rattle.ga_logs.proofs.streams.end.Goals as goal

pub returns-clause-ended : goal.returns-clause-ended
returns-clause-ended g c before stream within =
    let all = ended-with c.lines_added.ensures c.args.crew.now.setup.now c.args.counting.now c.count.new.self c.batch.result.now c.in_ok-count.ensures.counted c.lines_are_cut_one_by_one.ensures.pieces
    c.args.batcher.now c.end.new.self c.args.keep (sym c.batch.ensures.value) c.end.ensures.stream before stream within in
    (subst (λ (n : ℕ). AreEnded stream n) (sym c.ended.ensures) all.0, all.1)

pub count-requires-clause-small : goal.count-requires-clause-small
count-requires-clause-small g c =
    let b = c.end.new.self in
    let is = c.end.ensures.batcher in
    let limit = ap (λ (v : BatcherSeen). v.limit) c.end.ensures.value in
    omega (arith, is.room, length-append b.batch b.begun, limit, c.requires.limit, ap (λ (xs : List ℕ). length xs) c.batch.ensures.value)
