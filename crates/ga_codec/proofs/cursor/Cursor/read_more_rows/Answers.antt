use Rattle.std.proofs.Common.{◌≡◌, ◌++◌, ◌∷◌, [], length, ap, ◌∙◌, sym, arith}
use Rattle.std.proofs.lemmas.List.{length-append, length-map, map_push}
use Rattle.ga_summary.specs.SummaryParts.{row_of_part, rows_in}
use Rattle.ga_codec.specs.declared.fault.CodecFault.TheVariants.{NotInGrammar}
use Rattle.ga_codec.proofs.Pieces.{not_needed, one_more_row, rows_refused}
use Rattle.ga_codec.proofs.cursor.Cursor.read_more_rows.Goals as goal

pub returns-in-Err : goal.returns-in-Err
returns-in-Err c =
    let fault = c.in-Err.fault in
    let rows = c.loop.rows.items in
    rows_refused c.args.count (rows_in c.args.rows.now.items) (rows_in rows) c.args.self.now c.loop.self c.loop.invariant.rows c.args.is_last fault
    (omega (arith, c.loop-test.true, c.loop.invariant.number, length-map rows row_of_part)) c.in-Err.ensures
    (λ l e.
    let at_end = e ∙ ap NotInGrammar (sym c.end-end.ensures) in
    not_needed c.needs_more.result c.args.is_last fault c.end-end.result c.needs_more.ensures c.if-needs_more.false l at_end)

pub loop-preserved : goal.loop-preserved
loop-preserved c =
    let rows = c.loop.rows.items in
    let row = c.in-Ok.row in
    let pushed = c.in_ok-push-in-Ok.ensures.items in
    let e : rows_in c.push.new.self.items ≡ rows_in rows ++ (row_of_part row) ∷ [] = rw pushed (map_push row_of_part rows row) in
    record {
      number = omega (arith, ap length pushed, c.loop.invariant.number, length-append rows (row ∷ []));
      rows = rw e (one_more_row c.args.count (rows_in c.args.rows.now.items) (rows_in rows) c.args.self.now c.loop.self c.loop.invariant.rows
          c.read_row.new.self (row_of_part row) (omega (arith, c.loop-test.true, c.loop.invariant.number, length-map rows row_of_part))
          c.in-Ok.ensures);
    }
