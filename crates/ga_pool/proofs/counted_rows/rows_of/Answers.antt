use Rattle.std.proofs.Common.{ℕ, ◌<◌, ◌∷◌, [], ◌++◌, List, length, get_or, sym, ap, ◌∙◌, subst, arith, append_assoc, length-append, Global}
use Rattle.std.specs.Prelude.{Vec}
use Rattle.ga_base.specs.declared.name.Name.{Name}
use Rattle.ga_pool.specs.Steps.CountedRows.{IsRowOf}
use Rattle.ga_pool.proofs.FillTables.{at-push}
use Rattle.ga_summary.specs.SummaryParts.{row_of_part}
use Rattle.ga_summary.specs.declared.summary_parts.PartRow.{PartRow}
use Rattle.ga_pool.proofs.counted_rows.rows_of.Goals as goal

pub loop-its_names-preserved : goal.loop-its_names-preserved
loop-its_names-preserved c =
    let before = c.loop-its_names.invariant in
    let its = c.in-Some.its_names in
    let pushed = c.in_ok-push.ensures.items in
    let row = c.in_ok-row_of.field-0 in
    let steps = c.in-Some.ensures.steps.0 in
    let many = length-append c.loop-its_names.yielded (its ∷ []) in
    record {
      number = omega (arith, before.number, many);
      many = omega (arith, ap length pushed, length-append c.loop-its_names.rows.items (row ∷ []), before.many, many);
      each =
          subst (λ (rows : List PartRow). (k : ℕ) (d : PartRow) → k < length rows → IsRowOf c.args.counted.now k (row_of_part (get_or rows k d))) (sym pushed)
          (at-push (λ (k : ℕ) (r : PartRow). IsRowOf c.args.counted.now k (row_of_part r)) c.loop-its_names.rows.items row before.each
          (subst (λ (k : ℕ). IsRowOf c.args.counted.now k (row_of_part row)) (omega (arith, before.number, before.many)) c.in_ok-row_of.ensures));
      rest = append_assoc c.loop-its_names.yielded (its ∷ []) _ ∙ ap (λ (l : List (Vec Name Global)). c.loop-its_names.yielded ++ l) (sym steps) ∙ before.rest;
    }
