use Rattle.std.proofs.Common.{List, ◌∙◌, ap, subst}
use Rattle.ga_numbers.specs.Steps.Kept.{rows_in}
use Rattle.ga_numbers.specs.NotedNumbers.{IsNumbered}
use Rattle.ga_numbers.specs.Steps.ShardRows.{is_same_row, row_in}
use Rattle.ga_numbers.specs.declared.shard_row.ShardRow.{ShardRow}
use Rattle.ga_numbers.proofs.MergedShards.{on-err}
use Rattle.ga_numbers.proofs.Keeping.{put-kept, put-rows}
use Rattle.ga_numbers.proofs.sharded_rows.ShardedRows.number.Goals as goal

pub invariant_of-self-in_err-place : goal.invariant_of-self-in_err-place
invariant_of-self-in_err-place c =
    let opened = c.open.ensures.kept c.self.inside.places.items c.self.invariant in
    put-kept c.open.new.shards.items c.put.new.shards.items _ c.self.inside.places.items opened (c.put.ensures.shards opened.sharded) (c.put.ensures.extended opened.sharded)

pub returns-in_err-place-clause-err : goal.returns-in_err-place-clause-err
returns-in_err-place-clause-err c =
    let places = c.self.inside.places.items in
    let opened = c.open.ensures.kept places c.self.invariant in
    on-err c.from_residual-in_err-place.result
    (put-rows c.open.new.shards.items c.put.new.shards.items _ places opened (c.put.ensures.extended opened.sharded) ∙ c.open.ensures.same places c.self.invariant ∙ c.self.view_is)

pub invariant_of-self-in_err-number : goal.invariant_of-self-in_err-number
invariant_of-self-in_err-number c =
    let places = c.self.inside.places.items in
    let opened = c.open.ensures.kept places c.self.invariant in
    let kept = put-kept c.open.new.shards.items c.put.new.shards.items _ places opened (c.put.ensures.shards opened.sharded) (c.put.ensures.extended opened.sharded) in
    record { sharded = kept.sharded; named = c.assign.ensures.named c.put.new.shards.items (row_in c.args.row) kept.sharded kept.named c.in_ok-place.ensures.stands }

pub returns-in_err-number-clause-err : goal.returns-in_err-number-clause-err
returns-in_err-number-clause-err c =
    let places = c.self.inside.places.items in
    let opened = c.open.ensures.kept places c.self.invariant in
    on-err c.from_residual-in_err-number.result
    (ap (rows_in c.put.new.shards.items) c.in_err-number.ensures.err
    ∙ put-rows c.open.new.shards.items c.put.new.shards.items _ places opened (c.put.ensures.extended opened.sharded) ∙ c.open.ensures.same places c.self.invariant ∙ c.self.view_is)

pub invariant_of-self-2 : goal.invariant_of-self-2
invariant_of-self-2 c =
    let places = c.self.inside.places.items in
    let opened = c.open.ensures.kept places c.self.invariant in
    let kept = put-kept c.open.new.shards.items c.put.new.shards.items _ places opened (c.put.ensures.shards opened.sharded) (c.put.ensures.extended opened.sharded) in
    record { sharded = kept.sharded; named = c.assign.ensures.named c.put.new.shards.items (row_in c.args.row) kept.sharded kept.named c.in_ok-place.ensures.stands }

pub returns-clause-ok : goal.returns-clause-ok
returns-clause-ok c =
    let places = c.self.inside.places.items in
    let row = row_in c.args.row in
    let opened = c.open.ensures.kept places c.self.invariant in
    let kept = put-kept c.open.new.shards.items c.put.new.shards.items _ places opened (c.put.ensures.shards opened.sharded) (c.put.ensures.extended opened.sharded) in
    let same = put-rows c.open.new.shards.items c.put.new.shards.items _ places opened (c.put.ensures.extended opened.sharded) ∙ c.open.ensures.same places c.self.invariant ∙ c.self.view_is in
    subst (λ (old : List ShardRow). IsNumbered is_same_row row c.in_ok-number.number old (rows_in c.put.new.shards.items c.assign.new.places.items)) same
    (c.in_ok-number.ensures.ok c.put.new.shards.items row kept.sharded kept.named c.in_ok-place.ensures.stands)
