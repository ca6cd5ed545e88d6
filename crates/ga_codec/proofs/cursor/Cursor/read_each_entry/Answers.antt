use Rattle.std.proofs.Common.{◌≡◌, ◌++◌, ◌∷◌, [], map}
use Rattle.std.proofs.lemmas.Result.{err_from_is_err_and}
use Rattle.std.proofs.lemmas.List.{map_push}
use Rattle.ga_codec.specs.Steps.Shapes.{shape_value}
use Rattle.ga_codec.specs.Steps.Grammar.{entry}
use Rattle.ga_codec.proofs.Fields.{entry_is_part}
use Rattle.ga_codec.proofs.Looping.{one_more_read, item_fails, all_read}
use Rattle.ga_codec.proofs.cursor.Cursor.read_each_entry.Goals as goal

pub returns-in_err-entry : goal.returns-in_err-entry
returns-in_err-entry c =
    let p = err_from_is_err_and c.from_residual-in_err-entry.result c.from_residual-in_err-entry.ensures.1 in
    rw (p.1, p.2) (item_fails entry c.args.count c.loop.counter (map shape_value c.loop.entries.items) c.args.self.now c.loop.self c.in_err-entry.field-0.0 entry_is_part c.loop-test.true c.loop.invariant c.in_err-entry.ensures)

pub loop-preserved : goal.loop-preserved
loop-preserved c =
    let e : map shape_value c.push.new.self.items ≡ map shape_value c.loop.entries.items ++ (shape_value c.in_ok-entry.entry) ∷ [] = rw c.in_ok-push.ensures.items (map_push shape_value c.loop.entries.items c.in_ok-entry.entry) in
    rw e (one_more_read entry c.args.count c.loop.counter (map shape_value c.loop.entries.items) c.args.self.now c.loop.self c.read_entry.new.self (shape_value c.in_ok-entry.entry) entry_is_part c.loop-test.true c.loop.invariant c.in_ok-entry.ensures)

pub returns : goal.returns
returns c = all_read entry c.args.count c.loop.counter (map shape_value c.loop.entries.items) c.args.self.now c.loop.self c.loop-test.false c.loop.invariant
