-- A record has a list of keys: each of its facts is there, whether or not a test could find it.
use Rattle.std.proofs.Common.{◌≡◌, ℕ, Bool, true, false, IsTrue, List, [], ◌∷◌, Option, Some, None, refl, ap}
use Rattle.std.specs.Prelude.{◌↔◌}
use Rattle.std.proofs.lemmas.Bool.{false≢true}
use Rattle.std.proofs.lemmas.List.Elements.{All-from_recursion, recursion_from_All}
use Rattle.ga_agents.specs.Classes.{IsSomething}
use Rattle.ga_agents.specs.declared.row.Rule.{Rule}
use Rattle.ga_base.specs.declared.key.Key.{Key}
use Rattle.ga_base.specs.declared.record.Record.{Record}
use Rattle.ga_panels.specs.Facts.{Facts}
use Rattle.ga_panels.specs.Table.{AreKeysOf, table_keys}
use Rattle.ga_panels.specs.declared.setup.PanelSetup.{PanelSetup}
use Rattle.ga_requests.specs.Referrers.{IsPhrase, KeyphraseIs, Names, PhraseIs, SiteIs, pairs_of, query_of}
use Rattle.ga_requests.specs.Urls.{IsStatic}

-- a referrer names a site, or none
pub some-site : (referrer : List ℕ) → ((site : Option (List ℕ)) → SiteIs referrer site → ⊥) → ⊥
some-site referrer none = none None empty
  where
    empty : (site : List ℕ) → Names referrer site → site ≡ []
    empty [] names = refl
    empty (b ∷ bs) names = absurd (none (Some (b ∷ bs)) (names, λ e. cc))

-- pairs have a first phrase, or none
some-phrase : (pairs : List (List ℕ × List ℕ)) → ((phrase : Option (List ℕ)) → PhraseIs pairs phrase → ⊥) → ⊥
some-phrase [] none = none None (All-from_recursion (λ pair. IsPhrase pair → ⊥) [] tt)
some-phrase (p ∷ ps) none = some-phrase ps later
  where
    not-here : IsPhrase p → ⊥
    not-here is = none (Some p.1) ([], ps, ap (λ (name : List ℕ). (name, p.1) ∷ ps) is.0, All-from_recursion (λ pair. IsPhrase pair → ⊥) [] tt, is.1)

    later : (phrase : Option (List ℕ)) → PhraseIs ps phrase → ⊥
    later None all = none None (All-from_recursion (λ pair. IsPhrase pair → ⊥) (p ∷ ps) (not-here, recursion_from_All _ ps all))
    later (Some phrase) (before, after, split, all, some) =
        none (Some phrase) (p ∷ before, after, ap (λ (l : List (List ℕ × List ℕ)). p ∷ l) split, All-from_recursion (λ pair. IsPhrase pair → ⊥) (p ∷ before) (not-here, recursion_from_All _ before all), some)

-- a referrer has a key phrase, or none
pub some-keyphrase : (referrer : List ℕ) → ((phrase : Option (List ℕ)) → KeyphraseIs referrer phrase → ⊥) → ⊥
some-keyphrase referrer none = some-phrase (pairs_of (query_of referrer)) known
  where
    known : (phrase : Option (List ℕ)) → PhraseIs (pairs_of (query_of referrer)) phrase → ⊥
    known None is = none None (λ google. is)
    known (Some phrase) is = none None (λ google. absurd (none (Some phrase) (google, is)))

-- a fact has a truth value
some-truth : (P : Type 0) → ((b : Bool) → (IsTrue b ↔ P) → ⊥) → ⊥
some-truth P none = none false ((λ e. absurd (false≢true e)), (λ p. absurd (none true ((λ _. p), (λ _. refl)))))

module _ (classes : (file : List Rule) (agent : List ℕ) → IsSomething file agent) where
  pub some-list : (setup : PanelSetup) (rec : Record) → ((keys : List Key) → AreKeysOf setup rec keys → ⊥) → ⊥
  some-list setup rec none =
      let agent = classes setup.rules rec.agent in
      some-site rec.referrer (λ site names. some-keyphrase rec.referrer (λ phrase searched. some-truth (IsStatic rec.url setup.statics setup.all_static) (λ is_static tells.
      let facts : Facts = record { agent = agent.0; site = site; phrase = phrase; is_static = is_static } in
      none (table_keys setup rec facts) (facts, record { agent = agent.1; site = names; phrase = searched; is_static = tells }, refl))))
