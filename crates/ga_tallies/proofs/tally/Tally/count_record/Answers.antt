use Rattle.std.proofs.Common.{[], ◌∷◌, Some, refl, subst, inl, inr}
use Rattle.std.proofs.lemmas.Bool.{both_ways}
use Rattle.std.proofs.lemmas.Result.{on_ok_weaker}
use Rattle.ga_base.specs.Records.{record_in}
use Rattle.ga_tallies.specs.Steps.OneLine.{Adds, IsTooMuch}
use Rattle.ga_summary.specs.Outcomes as outcomes
use Rattle.ga_summary.specs.Outcomes.{Counted}
use Rattle.ga_tallies.proofs.FactsHit.{hit-as, keys-are, told-countable, told-hit}
use Rattle.ga_tallies.proofs.OneLine.{excluded-added, excluded-too-much, none-countable}
use Rattle.ga_tallies.proofs.tally.Tally.count_record.Goals as goal

pub returns-then-is_excluded-clause-counted : goal.returns-then-is_excluded-clause-counted
returns-then-is_excluded-clause-counted c =
    let excluded = (c.is_excluded.ensures c.args.panels.now (record_in c.args.rec) c.in_ok-facts.ensures).0 c.if-is_excluded.true in
    on_ok_weaker c.add_totals.result (λ adds. record {
      outcome = Some outcomes.Excluded;
      is = inl (excluded, refl);
      countable = none-countable;
      adds = excluded-added c.args.self.now c.add_totals.new.self adds;
    }) c.add_totals.ensures.ok

pub returns-then-is_excluded-clause-full : goal.returns-then-is_excluded-clause-full
returns-then-is_excluded-clause-full c =
    let excluded = (c.is_excluded.ensures c.args.panels.now (record_in c.args.rec) c.in_ok-facts.ensures).0 c.if-is_excluded.true in
    λ is. record {
      outcome = outcomes.Excluded;
      is = inl (excluded, refl);
      full = excluded-too-much c.args.self.now (c.add_totals.ensures.full is);
    }

pub returns-clause-counted : goal.returns-clause-counted
returns-clause-counted c =
    let panels = c.args.panels.now in
    let rec = record_in c.args.rec in
    let known = c.in_ok-facts.facts in
    let are = c.in_ok-facts.ensures in
    on_ok_weaker c.count_facts.result (λ adds. record {
      outcome = Some (Counted (told-hit panels rec known));
      is = inr ((λ excluded. both_ways _ c.if-is_excluded.false ((c.is_excluded.ensures panels rec are).1 excluded)), keys-are panels rec known are);
      countable = told-countable panels rec known c.requires.bounds;
      adds = subst (λ hit. Adds (Counted hit ∷ []) c.args.self.now c.count_facts.new.self) (hit-as panels rec known are) adds;
    }) c.count_facts.ensures.counted

pub returns-clause-full : goal.returns-clause-full
returns-clause-full c =
    let panels = c.args.panels.now in
    let rec = record_in c.args.rec in
    let known = c.in_ok-facts.facts in
    let are = c.in_ok-facts.ensures in
    λ is. record {
      outcome = Counted (told-hit panels rec known);
      is = inr ((λ excluded. both_ways _ c.if-is_excluded.false ((c.is_excluded.ensures panels rec are).1 excluded)), keys-are panels rec known are);
      full = subst (λ hit. IsTooMuch (Counted hit) c.args.self.now) (hit-as panels rec known are) (c.count_facts.ensures.full is);
    }
