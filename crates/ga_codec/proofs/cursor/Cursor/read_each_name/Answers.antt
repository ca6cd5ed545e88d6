use Rattle.std.proofs.lemmas.Result.{err_from_is_err_and}
use Rattle.ga_codec.specs.Steps.Grammar.{name}
use Rattle.ga_codec.proofs.Fields.{name_is_part}
use Rattle.ga_codec.proofs.Looping.{one_more_read, item_fails, all_read}
use Rattle.ga_codec.proofs.cursor.Cursor.read_each_name.Goals as goal

pub returns-in_err-name : goal.returns-in_err-name
returns-in_err-name c =
    let p = err_from_is_err_and c.from_residual-in_err-name.result c.from_residual-in_err-name.ensures.1 in
    rw (p.1, p.2) (item_fails name c.args.count c.loop.counter c.loop.names.items c.args.self.now c.loop.self c.in_err-name.field-0.0 name_is_part c.loop-test.true c.loop.invariant c.in_err-name.ensures)

pub loop-preserved : goal.loop-preserved
loop-preserved c =
    rw c.in_ok-push.ensures.items (one_more_read name c.args.count c.loop.counter c.loop.names.items c.args.self.now c.loop.self c.read_name.new.self c.in_ok-name.name name_is_part c.loop-test.true c.loop.invariant c.in_ok-name.ensures)

pub returns : goal.returns
returns c = rw c.from.ensures (all_read name c.args.count c.loop.counter c.loop.names.items c.args.self.now c.loop.self c.loop-test.false c.loop.invariant)
