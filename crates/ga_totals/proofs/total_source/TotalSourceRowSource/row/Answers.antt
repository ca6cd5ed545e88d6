use Rattle.std.proofs.Common.{◌<◌, Some, get_or, length, sym, ap, ◌∙◌, subst, arith}
use Rattle.std.specs.Prelude.{slice_get}
use Rattle.std.proofs.lemmas.Option.{get_or_from_slice_get}
use Rattle.ga_numbers.specs.VisitorRefs.{key_prefixed}
use Rattle.ga_report.specs.Source.{SourceValue}
use Rattle.ga_summary.specs.SummaryRows.{no_sums}
use Rattle.ga_totals.proofs.SourceRows.{row-at, rows-many}
use Rattle.ga_totals.proofs.total_source.TotalSourceRowSource.row.Goals as goal

pub prove-unreachable-requires : goal.prove-unreachable-requires
prove-unreachable-requires c =
    let many = rows-many _ _ _ c.self.invariant.0.summed c.self.invariant.0.visited in
    omega (arith, ap (λ (source : SourceValue). length source.rows) c.self.view_is, c.from.ensures, c.len.ensures.value)

pub returns : goal.returns
returns c =
    let inside = c.self.inside in
    let key = key_prefixed c.get-key.result in
    let stands = get_or_from_slice_get inside.keys.now c.args.at key key c.get-key.ensures in
    let sums = get_or inside.sums.now c.args.at no_sums in
    let less = subst (λ (source : SourceValue). c.args.at < length source.rows) (sym c.self.view_is) c.requires in
    ap (λ (source : SourceValue). slice_get source.rows c.args.at) (sym c.self.view_is) ∙ row-at _ _ _ c.args.at key no_sums c.index.result.now less
    ∙ (λ i. Some (record { key = stands i; sums = sums; visitors = sym c.index.ensures i })) ∙ ap Some (sym c.with.ensures)
