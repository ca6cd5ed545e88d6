use Rattle.std.proofs.Common.{◌≡◌, [], List, get_or, take, take_all, sym, subst, arith}
use Rattle.std.specs.List.{All}
use Rattle.std.proofs.lemmas.List.{take_more}
use Rattle.std.proofs.lemmas.List.Elements.{All-push}
use Rattle.ga_numbers.specs.declared.shard_row.ShardRow.{ShardRow}
use Rattle.ga_numbers.proofs.InTurn.{no-lists}
use Rattle.ga_numbers.proofs.sharded_rows.are_empty.Goals as goal

abbrev IsEmpty : List ShardRow → Type 0
IsEmpty rows = rows ≡ []

pub loop-rows-preserved : goal.loop-rows-preserved
loop-rows-preserved c =
    let i = c.loop-rows.rows-index in
    let others = c.args.others.now in
    let rows : List ShardRow = c.rows-item.result in
    let none : rows ≡ [] = no-lists rows (omega (arith, c.len.ensures.value, c.if-len-ne0.false)) in
    subst (All IsEmpty) (sym (take_more others i rows c.loop-rows-test.true))
    (All-push IsEmpty (take i others) (get_or others i rows) c.loop-rows.invariant (subst IsEmpty c.rows-item.is none))

pub returns : goal.returns
returns c = λ _. subst (All IsEmpty) (take_all c.loop-rows.rows-index c.args.others.now (omega (arith, c.loop-rows-test.false))) c.loop-rows.invariant
