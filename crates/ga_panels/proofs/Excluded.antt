-- A record is excluded by its facts as it is by its agent.
use Rattle.std.proofs.Common.{◌↔◌, ℕ, Bool, IsTrue, List, inl, inr, ⊎_elim, subst}
use Rattle.ga_agents.specs.Classes.{TellsCrawlers}
use Rattle.ga_agents.specs.declared.row.Rule.{Rule}
use Rattle.ga_base.specs.declared.record.Record.{Record}
use Rattle.ga_panels.specs.Known.{AreFactsOf, facts_of, record_of, setup_of}
use Rattle.ga_panels.specs.Visitors.{IsExcluded, IsExcludedWhere}
use Rattle.ga_panels.specs.declared.record_facts.RecordFacts.{RecordFacts}
use Rattle.ga_panels.specs.declared.setup.PanelSetup.{PanelSetup}

-- what is said of an agent may be said in other words
excluded_from : {C D : Type 0} (setup : PanelSetup) (host : List ℕ) (status : ℕ) → (C → D) → IsExcludedWhere setup host status C → IsExcludedWhere setup host status D
excluded_from setup host status from = ⊎_elim (λ h. inl h) (⊎_elim (λ s. inr (inl s)) (λ both. inr (inr (both.0, from both.1))))

pub told_excluded : ((file : List Rule) (agent : List ℕ) → TellsCrawlers file agent) → (setup : PanelSetup) (rec : Record) (known : RecordFacts) (result : Bool) → AreFactsOf setup rec known
    → (IsTrue result ↔ IsExcludedWhere (setup_of known) (record_of known).host (record_of known).status (IsTrue (facts_of known).agent.crawler)) → IsTrue result ↔ IsExcluded setup rec
told_excluded tells setup rec known result are by_facts =
    let told = tells setup.rules rec.agent (facts_of known).agent are.its_facts.agent in
    let said =
    subst (λ (r : Record). IsTrue result ↔ IsExcludedWhere setup r.host r.status (IsTrue (facts_of known).agent.crawler)) are.its_values
    (subst (λ s. IsTrue result ↔ IsExcludedWhere s (record_of known).host (record_of known).status (IsTrue (facts_of known).agent.crawler)) are.its_setup by_facts) in (
      λ holds. excluded_from setup rec.host rec.status told.0 (said.0 holds),
      λ excluded. said.1 (excluded_from setup rec.host rec.status told.1 excluded),
    )
