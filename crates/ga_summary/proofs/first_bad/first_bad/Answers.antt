use Rattle.std.proofs.Common.{sym, ◌∙◌}
use Rattle.std.proofs.lemmas.Bool.{false≢true}
use Rattle.ga_summary.proofs.FirstBad.{first_bad_at_row, first_bad_at_end, all_good, a_summary}
use Rattle.ga_summary.proofs.first_bad.first_bad.Goals as goal

pub returns-in-Some : goal.returns-in-Some
returns-in-Some c = first_bad_at_row c.args.totals c.args.rows.now _ c.in-Some.ensures

pub totals_go_with-requires : goal.totals_go_with-requires
totals_go_with-requires c = (all_good c.args.totals c.args.rows.now c.in_default.ensures).ordered

pub returns-then-totals_go_with : goal.returns-then-totals_go_with
returns-then-totals_go_with c = a_summary c.args.totals c.args.rows.now c.in_default.ensures (c.totals_go_with.ensures.0 c.if-totals_go_with.true)

pub returns-else-totals_go_with : goal.returns-else-totals_go_with
returns-else-totals_go_with c =
    first_bad_at_end c.args.totals c.args.rows.now c.in_default.ensures
    (λ sound. false≢true (sym c.if-totals_go_with.false ∙ c.totals_go_with.ensures.1 sound))
