use Rattle.std.proofs.Common.{◌∙◌, ap, subst}
use Rattle.std.proofs.lemmas.Result.{IfOk-weaker}
use Rattle.ga_panels.specs.Known.{AreFactsOf, facts_of, record_of}
use Rattle.ga_panels.specs.Table.{AreKeysOf, table_keys}
use Rattle.ga_panels.proofs.keys.keys_of.Goals as goal

pub returns-clause-exact : goal.returns-clause-exact
returns-clause-exact c =
    let known = c.in_ok-of.field-0 in
    let setup = c.args.setup.now in
    let rec = c.args.rec.now in
    let are = subst (λ r. AreFactsOf setup r known) c.as_ref.ensures c.in_ok-of.ensures.facts in
    IfOk-weaker c.keys.result _ (AreKeysOf setup rec)
    (λ keys is. (facts_of known, are.its_facts, is ∙ ap (λ s. table_keys s (record_of known) (facts_of known)) are.its_setup ∙ ap (λ r. table_keys setup r (facts_of known)) are.its_values))
    c.keys.ensures.exact
