use Rattle.std.proofs.Common.{[], append-nil, arith, rules, sym}
use Rattle.ga_base.proofs.InParts.{both-parts, one-part, takes-next}
use Rattle.ga_base.proofs.parts.+parts.Goals as goal

pub change_parts-work-requires : goal.change_parts-work-requires
change_parts-work-requires g t c = c.requires.work.each _ c.args.first [] [] (sym (append-nil c.args.items.now)) (omega arith)

pub change_parts-returns-in_default : goal.change_parts-returns-in_default
change_parts-returns-in_default g t c = one-part g.W.Fn c.args.work.now c.args.first c.args.items.now c.work.new.arg3 c.work.result (search rules)

pub change_parts-change_both-requires-clause-high : goal.change_parts-change_both-requires-clause-high
change_parts-change_both-requires-clause-high g t c κs within =
    let cut = c.split_at_mut-low in takes-next g.W.Fn c.args.work.now c.args.first c.args.items.now cut.result.0.now cut.result.1.now cut.ensures.value c.requires.work

pub change_parts-returns : goal.change_parts-returns
change_parts-returns g t c =
    let cut = c.split_at_mut-low in
    both-parts g.W.Fn c.args.work.now c.change_both.result c.args.first c.args.items.now cut.result.0.now cut.result.1.now c.change_both.new.low c.change_both.new.high cut.ensures.value c.change_both.auto.low
    c.change_both.ensures.low c.change_both.ensures.high
