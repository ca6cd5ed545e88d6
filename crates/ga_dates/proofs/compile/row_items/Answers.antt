use Rattle.std.proofs.Common.{◌∷◌, [], ◌++◌}
use Rattle.ga_dates.proofs.RowLemmas.{row_more}
use Rattle.ga_dates.proofs.compile.row_items.Goals as goal

pub loop-at-preserved : goal.loop-at-preserved
loop-at-preserved c =
    let at = c.loop-at in
    let adds = c.in_ok-at.ensures.ok in
    record {
      inside = adds.inside;
      row = (at.invariant.row.0 ++ adds.token ∷ [], row_more c.args.kind at.invariant.row.0 c.args.text.now at.at c.in_ok-at.at at.items.items c.push_token.new.items.items at.invariant.row.1 adds);
    }
