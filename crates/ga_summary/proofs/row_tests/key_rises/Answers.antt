use Rattle.std.proofs.Common.{arith}
use Rattle.std.proofs.lemmas.Bool.{eq-eqb}
use Rattle.ga_summary.proofs.PartRows.{one_rises, rises_from_last, last_from_rises}
use Rattle.ga_summary.proofs.row_tests.key_rises.Goals as goal

pub returns-then-at-eq0 : goal.returns-then-at-eq0
returns-then-at-eq0 c = (λ _. one_rises c.args.rows.now c.args.at c.if-at-eq0.true, λ _. eq-eqb c.args.at 0 c.if-at-eq0.true)

pub returns-else-at-eq0 : goal.returns-else-at-eq0
returns-else-at-eq0 c =
    let row = c.index-rows-at-else-at-eq0 in
    let prev = c.index-rows-at in
    rw (c.is_lt.ensures, c.compare_keys.ensures, ← row.is, ← prev.is) (
      rises_from_last c.args.rows.now c.args.at row.result c.requires.within row.is prev.result prev.is (omega arith) c.requires.rising,
      last_from_rises c.args.rows.now c.args.at row.result c.requires.within row.is prev.result prev.is (omega arith),
    )
