use Rattle.std.proofs.Common.{Some, refl, sym, subst}
use Rattle.std.proofs.lemmas.Result.{on_ok_weaker}
use Rattle.ga_base.specs.declared.record.Line.TheVariants.{Failed, Good}
use Rattle.ga_base.specs.Records.{record_in}
use Rattle.ga_line.specs.Bounds.{KeepsBounds, RecordBounds}
use Rattle.ga_line.specs.Records.{IsLineOf}
use Rattle.ga_line.specs.Views.{line_in}
use Rattle.ga_summary.specs.Outcomes as outcomes
use Rattle.ga_tallies.proofs.OneLine.{failed-added, failed-too-much, none-countable}
use Rattle.ga_tallies.proofs.tally.Tally.count_line.Goals as goal

pub count_record-requires-clause-bounds : goal.count_record-requires-clause-bounds
count_record-requires-clause-bounds c = subst RecordBounds (sym c.as_ref.ensures) (subst (λ view. KeepsBounds (line_in view)) c.in-Good.is c.in_ok-read_view.ensures.bounds)

pub returns-in-Failed-clause-counted : goal.returns-in-Failed-clause-counted
returns-in-Failed-clause-counted c =
    let says = subst (λ view. IsLineOf c.args.setup.now.line c.args.line.now (line_in view)) c.in-Failed.is c.in_ok-read_view.ensures.says in
    on_ok_weaker c.add_totals.result (λ adds. (
      Failed,
      says,
      record {
        outcome = Some outcomes.Failed;
        is = refl;
        countable = none-countable;
        adds = failed-added c.args.self.now c.add_totals.new.self adds;
      },
    )) c.add_totals.ensures.ok

pub returns-in-Failed-clause-full : goal.returns-in-Failed-clause-full
returns-in-Failed-clause-full c =
    let says = subst (λ view. IsLineOf c.args.setup.now.line c.args.line.now (line_in view)) c.in-Failed.is c.in_ok-read_view.ensures.says in
    λ is. (Failed, says, record { outcome = outcomes.Failed; is = refl; full = failed-too-much c.args.self.now (c.add_totals.ensures.full is) })

pub returns-clause-counted : goal.returns-clause-counted
returns-clause-counted c =
    let says = subst (λ view. IsLineOf c.args.setup.now.line c.args.line.now (line_in view)) c.in-Good.is c.in_ok-read_view.ensures.says in
    let said = subst (λ rec. IsLineOf c.args.setup.now.line c.args.line.now (Good rec)) (sym c.as_ref.ensures) says in
    on_ok_weaker c.count_record.result (λ takes. (Good (record_in c.as_ref.result), said, takes)) c.count_record.ensures.counted

pub returns-clause-full : goal.returns-clause-full
returns-clause-full c =
    let says = subst (λ view. IsLineOf c.args.setup.now.line c.args.line.now (line_in view)) c.in-Good.is c.in_ok-read_view.ensures.says in
    let said = subst (λ rec. IsLineOf c.args.setup.now.line c.args.line.now (Good rec)) (sym c.as_ref.ensures) says in
    λ is. (Good (record_in c.as_ref.result), said, c.count_record.ensures.full is)
