use Rattle.std.proofs.Common.{◌≡◌, ◌++◌, ◌∷◌, [], map}
use Rattle.std.proofs.lemmas.Result.{err_from_is_err_and}
use Rattle.std.proofs.lemmas.List.{map_push}
use Rattle.ga_summary.specs.SummaryParts.{row_of_part}
use Rattle.ga_codec.specs.Steps.Grammar.{row}
use Rattle.ga_codec.proofs.Fields.{row_is_part}
use Rattle.ga_codec.proofs.Looping.{one_more_read, item_fails, all_read}
use Rattle.ga_codec.proofs.cursor.Cursor.read_each_row.Goals as goal

pub returns-in_err-row : goal.returns-in_err-row
returns-in_err-row c =
    let p = err_from_is_err_and c.from_residual-in_err-row.result c.from_residual-in_err-row.ensures.1 in
    rw (p.1, p.2) (item_fails row c.args.count c.loop.counter (map row_of_part c.loop.rows.items) c.args.self.now c.loop.self c.in_err-row.field-0.0 row_is_part c.loop-test.true c.loop.invariant c.in_err-row.ensures)

pub loop-preserved : goal.loop-preserved
loop-preserved c =
    let e : map row_of_part c.push.new.self.items ≡ map row_of_part c.loop.rows.items ++ (row_of_part c.in_ok-row.row) ∷ [] = rw c.in_ok-push.ensures.items (map_push row_of_part c.loop.rows.items c.in_ok-row.row) in
    rw e (one_more_read row c.args.count c.loop.counter (map row_of_part c.loop.rows.items) c.args.self.now c.loop.self c.read_row.new.self (row_of_part c.in_ok-row.row) row_is_part c.loop-test.true c.loop.invariant c.in_ok-row.ensures)

pub returns : goal.returns
returns c = rw c.from.ensures (all_read row c.args.count c.loop.counter (map row_of_part c.loop.rows.items) c.args.self.now c.loop.self c.loop-test.false c.loop.invariant)
