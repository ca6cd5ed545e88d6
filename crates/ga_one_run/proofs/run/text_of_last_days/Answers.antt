use Rattle.std.proofs.Common.{IfOk, sym, subst, arith}
use Rattle.ga_report.specs.Source.{SourceValue}
use Rattle.ga_report.proofs.LastRows.{all-kept}
use Rattle.ga_one_run.specs.Reports.{IsTextTold}
use Rattle.ga_one_run.proofs.run.text_of_last_days.Goals as goal

pub returns-then-keep-eq0 : goal.returns-then-keep-eq0
returns-then-keep-eq0 g c =
    let s = c.args.settings.now in
    subst (λ (source : SourceValue). IfOk c.text_of.result (λ text. IsTextTold s source text)) (sym (all-kept s.keep (g.T.RowSource.view c.args.told.now) c.if-keep-eq0.true)) c.text_of.ensures

pub last_days-requires : goal.last_days-requires
last_days-requires g c = omega (arith, c.if-keep-eq0.false)

pub returns : goal.returns
returns g c = subst (λ (source : SourceValue). IsTextTold c.args.settings.now source c.in_ok-text.text) c.in_ok-days.ensures c.in_ok-text.ensures
