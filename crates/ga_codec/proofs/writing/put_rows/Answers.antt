use Rattle.std.proofs.Common.{◌≤◌, length, take, arith}
use Rattle.std.proofs.lemmas.List.{take_all}
use Rattle.ga_codec.specs.Steps.Grammar.{row}
use Rattle.ga_codec.proofs.Written.{wrote_none, wrote_next, wrote_list, taken_more}
use Rattle.ga_codec.proofs.writing.put_rows.Goals as goal

pub loop-at-init : goal.loop-at-init
loop-at-init c = wrote_none row _

pub loop-at-preserved : goal.loop-at-preserved
loop-at-preserved c = wrote_next row c.loop-at.at (take c.loop-at.at c.args.summary.now.rows) _ _ c.put_u64.new.out.items c.loop-at.out.items c.put_row.new.out.items
    (taken_more c.args.summary.now.rows c.loop-at.at _ c.row.ensures) c.loop-at.invariant c.in_ok-put_row.ensures

pub returns : goal.returns
returns c =
    let past : length c.args.summary.now.rows ≤ c.loop-at.at = omega (arith, c.len-count.ensures, c.loop-at-test.false) in
    wrote_list row c.len-count.result c.loop-at.at (take c.loop-at.at c.args.summary.now.rows) c.args.summary.now.rows c.args.out.now.items c.put_u64.new.out.items c.loop-at.out.items
    (take_all c.loop-at.at c.args.summary.now.rows past) c.len-count.ensures c.in_ok-put_u64.ensures c.loop-at.invariant
