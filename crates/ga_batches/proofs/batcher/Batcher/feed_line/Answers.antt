use Rattle.std.proofs.Common.{◌<◌, ◌+◌, ◌∙◌, sym, ap, subst, arith, length, take, length-take}
use Rattle.std.proofs.lemmas.List.{length-take-le}
use Rattle.std.proofs.lemmas.Bool.{true≢false}
use Rattle.memchr.specs.Find.{IsFirstByte, is_byte}
use Rattle.ga_batches.specs.Batches.{BatcherSeen, Feeds, IsBatcher}
use Rattle.ga_batches.proofs.Feeding.{on-feeds, end-batcher}
use Rattle.ga_batches.proofs.LineSteps.{no-feed, no-feed-before, on-before, on-moves, on-full-moves, on-kept, part-feeds, part-before, line-feeds-whole, line-before, not-full}
use Rattle.ga_batches.proofs.batcher.Batcher.feed_line.Goals as goal

-- ---- no line feed

pub go_on-requires-clause-none : goal.go_on-requires-clause-none
go_on-requires-clause-none c = no-feed c.args.piece.now (subst (λ r. IsFirstByte (is_byte 10) c.args.piece.now r) c.in-None.is c.memchr.ensures)

pub returns-in-None-clause-batcher : goal.returns-in-None-clause-batcher
returns-in-None-clause-batcher c =
    let none = no-feed c.args.piece.now (subst (λ r. IsFirstByte (is_byte 10) c.args.piece.now r) c.in-None.is c.memchr.ensures) in
    on-kept c.go_on.result c.args.piece.now c.args.self.now c.go_on.new.self c.recall_invariant.ensures c.requires.going none c.go_on.ensures.goes_on

pub returns-in-None-clause-within : goal.returns-in-None-clause-within
returns-in-None-clause-within c = c.go_on.ensures.goes_on.within

pub returns-in-None-clause-feeds : goal.returns-in-None-clause-feeds
returns-in-None-clause-feeds c =
    let none = no-feed c.args.piece.now (subst (λ r. IsFirstByte (is_byte 10) c.args.piece.now r) c.in-None.is c.memchr.ensures) in
    on-feeds c.go_on.result c.args.piece.now c.args.self.now c.go_on.new.self c.recall_invariant.ensures c.requires.going none c.go_on.ensures.goes_on

pub returns-in-None-clause-before : goal.returns-in-None-clause-before
returns-in-None-clause-before c =
    let none = no-feed c.args.piece.now (subst (λ r. IsFirstByte (is_byte 10) c.args.piece.now r) c.in-None.is c.memchr.ensures) in
    on-before c.go_on.result c.args.piece.now c.args.self.now c.go_on.new.self c.recall_invariant.ensures c.requires.going none c.go_on.ensures.goes_on

pub returns-in-None-clause-moves : goal.returns-in-None-clause-moves
returns-in-None-clause-moves c = on-moves c.go_on.result c.args.piece.now c.args.self.now c.go_on.new.self c.requires.room c.requires.some c.go_on.ensures.goes_on

-- ---- a line feed at `end`

pub slice_bounds-go_on-end : goal.slice_bounds-go_on-end
slice_bounds-go_on-end c =
    let first = subst (λ r. IsFirstByte (is_byte 10) c.args.piece.now r) c.in-Some.is c.memchr.ensures in
    let inside : c.in-Some.end < length c.args.piece.now = first.0.high in
    sym (length-take-le c.in-Some.end c.args.piece.now (omega arith))

pub go_on-taken-requires-clause-countable : goal.go_on-taken-requires-clause-countable
go_on-taken-requires-clause-countable c = let fits = c.requires.countable in omega (arith, length-take c.in-Some.end c.args.piece.now)

pub go_on-taken-requires-clause-none : goal.go_on-taken-requires-clause-none
go_on-taken-requires-clause-none c =
    no-feed-before c.args.piece.now c.in-Some.end (subst (λ r. IsFirstByte (is_byte 10) c.args.piece.now r) c.in-Some.is c.memchr.ensures)

-- ---- full before the line feed

pub returns-then-is_full-clause-batcher : goal.returns-then-is_full-clause-batcher
returns-then-is_full-clause-batcher c =
    let first = subst (λ r. IsFirstByte (is_byte 10) c.args.piece.now r) c.in-Some.is c.memchr.ensures in
    on-kept c.go_on-taken.result (take c.in-Some.end c.args.piece.now) c.args.self.now c.go_on-taken.new.self c.recall_invariant.ensures c.requires.going
    (no-feed-before c.args.piece.now c.in-Some.end first) c.go_on-taken.ensures.goes_on

pub returns-then-is_full-clause-within : goal.returns-then-is_full-clause-within
returns-then-is_full-clause-within c = let w = c.go_on-taken.ensures.goes_on.within in omega (arith, length-take c.in-Some.end c.args.piece.now)

pub returns-then-is_full-clause-feeds : goal.returns-then-is_full-clause-feeds
returns-then-is_full-clause-feeds c =
    let first = subst (λ r. IsFirstByte (is_byte 10) c.args.piece.now r) c.in-Some.is c.memchr.ensures in
    part-feeds c.args.piece.now c.in-Some.end c.go_on-taken.result c.args.self.now c.go_on-taken.new.self first c.recall_invariant.ensures c.requires.going c.go_on-taken.ensures.goes_on

pub returns-then-is_full-clause-before : goal.returns-then-is_full-clause-before
returns-then-is_full-clause-before c =
    let first = subst (λ r. IsFirstByte (is_byte 10) c.args.piece.now r) c.in-Some.is c.memchr.ensures in
    part-before c.args.piece.now c.in-Some.end c.go_on-taken.result c.args.self.now c.go_on-taken.new.self first c.recall_invariant.ensures c.requires.going c.go_on-taken.ensures.goes_on

pub returns-then-is_full-clause-moves : goal.returns-then-is_full-clause-moves
returns-then-is_full-clause-moves c =
    on-full-moves c.go_on-taken.result (take c.in-Some.end c.args.piece.now) c.args.self.now c.go_on-taken.new.self c.requires.room c.go_on-taken.ensures.goes_on
    (c.is_full.ensures.0 c.if-is_full.true)

-- ---- the line is ended

pub end_line-requires-clause-going : goal.end_line-requires-clause-going
end_line-requires-clause-going c = ap (λ (v : BatcherSeen). v.is_over) c.go_on-taken.ensures.goes_on.value ∙ c.requires.going

pub end_line-requires-clause-countable : goal.end_line-requires-clause-countable
end_line-requires-clause-countable c =
    let first = subst (λ r. IsFirstByte (is_byte 10) c.args.piece.now r) c.in-Some.is c.memchr.ensures in
    let inside : c.in-Some.end < length c.args.piece.now = first.0.high in
    let fed = ap (λ (v : BatcherSeen). v.fed) c.go_on-taken.ensures.goes_on.value in
    let w = c.go_on-taken.ensures.goes_on.within in
    let fits = c.requires.countable in
    omega (arith, length-take c.in-Some.end c.args.piece.now)

pub end_line-requires-clause-room : goal.end_line-requires-clause-room
end_line-requires-clause-room c = not-full c.go_on-taken.new.self c.recall_invariant-in-Some.ensures (λ full. absurd (true≢false (sym (c.is_full.ensures.1 full) ∙ c.if-is_full.false)))

pub overflow_add-result : goal.overflow_add-result
overflow_add-result c =
    let first = subst (λ r. IsFirstByte (is_byte 10) c.args.piece.now r) c.in-Some.is c.memchr.ensures in
    let inside : c.in-Some.end < length c.args.piece.now = first.0.high in
    let fits = c.requires.countable in
    omega arith

pub returns-else-is_full-clause-batcher : goal.returns-else-is_full-clause-batcher
returns-else-is_full-clause-batcher c =
    let room = not-full c.go_on-taken.new.self c.recall_invariant-in-Some.ensures (λ full. absurd (true≢false (sym (c.is_full.ensures.1 full) ∙ c.if-is_full.false))) in
    let going = ap (λ (v : BatcherSeen). v.is_over) c.go_on-taken.ensures.goes_on.value ∙ c.requires.going in
    subst IsBatcher (sym c.end_line.ensures) (end-batcher c.go_on-taken.new.self c.recall_invariant-in-Some.ensures going room)

pub returns-else-is_full-clause-within : goal.returns-else-is_full-clause-within
returns-else-is_full-clause-within c =
    let first = subst (λ r. IsFirstByte (is_byte 10) c.args.piece.now r) c.in-Some.is c.memchr.ensures in
    let inside : c.in-Some.end < length c.args.piece.now = first.0.high in
    omega arith

pub returns-else-is_full-clause-feeds : goal.returns-else-is_full-clause-feeds
returns-else-is_full-clause-feeds c =
    let piece = c.args.piece.now in
    let first = subst (λ r. IsFirstByte (is_byte 10) piece r) c.in-Some.is c.memchr.ensures in
    let room = not-full c.go_on-taken.new.self c.recall_invariant-in-Some.ensures (λ full. absurd (true≢false (sym (c.is_full.ensures.1 full) ∙ c.if-is_full.false))) in
    subst (λ v. Feeds (take (c.in-Some.end + 1) piece) c.args.self.now v) (sym c.end_line.ensures)
    (line-feeds-whole piece c.in-Some.end c.go_on-taken.result c.args.self.now c.go_on-taken.new.self first c.recall_invariant.ensures c.requires.going c.go_on-taken.ensures.goes_on c.recall_invariant-in-Some.ensures room)

pub returns-else-is_full-clause-before : goal.returns-else-is_full-clause-before
returns-else-is_full-clause-before c =
    let first = subst (λ r. IsFirstByte (is_byte 10) c.args.piece.now r) c.in-Some.is c.memchr.ensures in
    let room = not-full c.go_on-taken.new.self c.recall_invariant-in-Some.ensures (λ full. absurd (true≢false (sym (c.is_full.ensures.1 full) ∙ c.if-is_full.false))) in
    line-before c.args.piece.now c.in-Some.end c.go_on-taken.result c.args.self.now c.go_on-taken.new.self first c.recall_invariant.ensures c.requires.going c.go_on-taken.ensures.goes_on room
