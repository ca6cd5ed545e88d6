use Rattle.std.proofs.Common.{◌≡◌, List, sym, ap, ◌∙◌, subst, arith, Result, Ok, Err, IfOk}
use Rattle.ga_pool.proofs.OneSummary.{value-is}
use Rattle.ga_pool.proofs.Visits.{words-within}
use Rattle.ga_pool.specs.Stands.{StandsFor}
use Rattle.ga_summary.specs.SummaryParts.{value_of}
use Rattle.ga_summary.specs.SummaryRows.{SummaryValue}
use Rattle.ga_summary.specs.Sound.{IsSummary}
use Rattle.ga_summary.specs.declared.summary_parts.PartRow.{PartRow}
use Rattle.ga_pool.proofs.counted.Counted.summary.Goals as goal

weaker : {V E : Type 0} (r : Result V E) (P Q : V → Type 0) → ((v : V) → P v → Q v) → IfOk r P → IfOk r Q
weaker (Ok v) P Q f p = f v p
weaker (Err e) P Q f p = tt

pub names_of_keys-requires : goal.names_of_keys-requires
names_of_keys-requires c =
    let (s, is, stands) = c.requires in
    λ word some has.
    let parts = words-within c.args.self.now s stands (omega (arith, c.len-visitors.ensures, c.len-visitors.type_inv)) word some has in
    (omega (arith, parts.0, c.len-keys.ensures), parts.1, parts.2)

pub of_parts-requires : goal.of_parts-requires
of_parts-requires c =
    let (s, is, stands) = c.requires in
    let rows = c.in_ok-rows_of.field-0 in
    let same = ap (λ (l : List PartRow). value_of (record { totals = c.args.self.now.totals; rows = l })) c.from.ensures
    ∙ value-is c.args.self.now s is stands (omega (arith, c.len-visitors.ensures, c.len-visitors.type_inv)) rows.items c.sorted_rows-rows.result.items (omega (arith, c.in_ok-rows_of.ensures.len, rows.ok))
    (λ k d lt. c.in_ok-rows_of.ensures.each k d (omega (arith, lt, rows.ok))) c.sorted_rows-rows.ensures.same c.sorted_rows-rows.ensures.sorted in
    subst IsSummary (sym same) is

pub returns : goal.returns
returns c =
    let rows = c.in_ok-rows_of.field-0 in
    weaker c.of_parts.result (λ r. r ≡ value_of (record { totals = c.args.self.now.totals; rows = c.from.result })) (λ r. (s : SummaryValue) → IsSummary s → StandsFor c.args.self.now s → r ≡ s)
    (λ r e s is stands.
    e ∙ ap (λ (l : List PartRow). value_of (record { totals = c.args.self.now.totals; rows = l })) c.from.ensures
    ∙ value-is c.args.self.now s is stands (omega (arith, c.len-visitors.ensures, c.len-visitors.type_inv)) rows.items c.sorted_rows-rows.result.items (omega (arith, c.in_ok-rows_of.ensures.len, rows.ok))
    (λ k d lt. c.in_ok-rows_of.ensures.each k d (omega (arith, lt, rows.ok))) c.sorted_rows-rows.ensures.same c.sorted_rows-rows.ensures.sorted) c.of_parts.ensures
