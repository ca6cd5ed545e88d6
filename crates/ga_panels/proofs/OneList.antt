-- A record's facts are one, and so are its keys.
use Rattle.std.proofs.Common.{◌≡◌, ℕ, Bool, true, false, IsTrue, List, Option, refl, sym, ap, ◌∙◌}
use Rattle.ga_agents.specs.declared.agent.Agent.{Agent}
use Rattle.ga_agents.specs.Classes.{IsOneThing}
use Rattle.ga_agents.specs.declared.row.Rule.{Rule}
use Rattle.ga_base.specs.declared.key.Key.{Key}
use Rattle.ga_base.specs.declared.record.Record.{Record}
use Rattle.ga_panels.specs.Facts.{Facts, HasFacts}
use Rattle.ga_panels.specs.Table.{AreKeysOf, table_keys}
use Rattle.ga_panels.specs.declared.setup.PanelSetup.{PanelSetup}
use Rattle.ga_requests.specs.Referrers.{KeyphraseIs, SiteIs}

same_truth : (a b : Bool) → (IsTrue a → IsTrue b) → (IsTrue b → IsTrue a) → a ≡ b
same_truth true true to from = refl
same_truth true false to from = let clash : IsTrue false = to refl in cc
same_truth false true to from = let clash : IsTrue false = from refl in cc
same_truth false false to from = refl

abbrev facts_with : Agent → Option (List ℕ) → Option (List ℕ) → Bool → Facts
facts_with agent site phrase is_static = record { agent = agent; site = site; phrase = phrase; is_static = is_static }

module _ (classes : (file : List Rule) (agent : List ℕ) → IsOneThing file agent)
    (sites : (referrer : List ℕ) (site other : Option (List ℕ)) → SiteIs referrer site → SiteIs referrer other → site ≡ other)
    (phrases : (referrer : List ℕ) (phrase other : Option (List ℕ)) → KeyphraseIs referrer phrase → KeyphraseIs referrer other → phrase ≡ other) where
  one_facts : (setup : PanelSetup) (rec : Record) (a b : Facts) → HasFacts setup rec a → HasFacts setup rec b → a ≡ b
  one_facts setup rec a b has also =
      let agent = classes setup.rules rec.agent a.agent b.agent has.agent also.agent in
      let site = sites rec.referrer a.site b.site has.site also.site in
      let phrase = phrases rec.referrer a.phrase b.phrase has.phrase also.phrase in
      let is_static : a.is_static ≡ b.is_static = same_truth a.is_static b.is_static (λ holds. also.is_static.1 (has.is_static.0 holds)) (λ holds. has.is_static.1 (also.is_static.0 holds)) in
      ap (λ x. facts_with x a.site a.phrase a.is_static) agent ∙ ap (λ x. facts_with b.agent x a.phrase a.is_static) site
      ∙ ap (λ x. facts_with b.agent b.site x a.is_static) phrase ∙ ap (λ x. facts_with b.agent b.site b.phrase x) is_static

  pub one_list : (setup : PanelSetup) (rec : Record) (one two : List Key) → AreKeysOf setup rec one → AreKeysOf setup rec two → one ≡ two
  one_list setup rec one two are also = are.2 ∙ ap (table_keys setup rec) (one_facts setup rec are.0 also.0 are.1 also.1) ∙ sym also.2
