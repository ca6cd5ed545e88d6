-- An agent is one thing, and whether it is a crawler is part of it.
use Rattle.std.proofs.Common.{◌≡◌, ◌↔◌, ℕ, ◌+◌, Bool, true, false, List, [], ◌∷◌, ◌++◌, length, take, drop, refl, sym, ap, ◌∙◌, subst, arith, inl, inr, ⊎_elim}
use Rattle.std.proofs.lemmas.List.{drop_at}
use Rattle.std.specs.Prelude.{IsTrue}
use Rattle.std.specs.List.{before_first}
use Rattle.ga_agents.specs.declared.agent.Agent.{Agent}
use Rattle.ga_agents.specs.declared.classes.Found.{Found}
use Rattle.ga_agents.specs.declared.row.Rule.{Rule}
use Rattle.ga_agents.specs.Classes.{unknown, crawlers, is_delimiter, IsBrowserText, HasBrowser, HasSystem, IsAgent, IsCrawler}
use Rattle.ga_agents.specs.Occurs.{Occurs, NoneOccurs, IsFirstEntry}
use Rattle.ga_agents.specs.Steps.{IsFound}
use Rattle.ga_agents.specs.Tables.{rule, System, builtin_rules, systems}

same_first : {E : Type 0} (token_of : E → List ℕ) (agent : List ℕ) (before others after more : List E) (a b : E) → before ++ a ∷ after ≡ others ++ b ∷ more
    → NoneOccurs token_of before agent → NoneOccurs token_of others agent → Occurs (token_of a) agent → Occurs (token_of b) agent → a ≡ b
same_first token_of agent [] [] after more a b e none none2 occurs occurs2 = let here : a ≡ b = cc in here
same_first token_of agent [] (x ∷ others) after more a b e none none2 occurs occurs2 =
    let here : a ≡ x = cc in absurd (none2.0 (subst (λ y. Occurs (token_of y) agent) here occurs))
same_first token_of agent (x ∷ before) [] after more a b e none none2 occurs occurs2 =
    let here : b ≡ x = cc in absurd (none.0 (subst (λ y. Occurs (token_of y) agent) here occurs2))
same_first token_of agent (x ∷ before) (y ∷ others) after more a b e none none2 occurs occurs2 =
    let rest : before ++ a ∷ after ≡ others ++ b ∷ more = cc in
    same_first token_of agent before others after more a b rest none.1 none2.1 occurs occurs2

pub one_first : {E : Type 0} (token_of : E → List ℕ) (entries : List E) (agent : List ℕ) (a b : E) → IsFirstEntry token_of entries agent a → IsFirstEntry token_of entries agent b → a ≡ b
one_first token_of entries agent a b first other =
    same_first token_of agent first.before other.before first.after other.after a b (sym first.split ∙ other.split) first.none_before other.none_before first.occurs other.occurs

here_not_none : {E : Type 0} (token_of : E → List ℕ) (agent : List ℕ) (before after : List E) (a : E) → NoneOccurs token_of (before ++ a ∷ after) agent → ¬ Occurs (token_of a) agent
here_not_none token_of agent [] after a none = none.0
here_not_none token_of agent (x ∷ before) after a none = here_not_none token_of agent before after a none.1

pub first_not_none : {E : Type 0} (token_of : E → List ℕ) (entries : List E) (agent : List ℕ) (a : E) → IsFirstEntry token_of entries agent a → ¬ NoneOccurs token_of entries agent
first_not_none token_of entries agent a first none =
    here_not_none token_of agent first.before first.after a (subst (λ es. NoneOccurs token_of es agent) first.split none) first.occurs

rest_is : (token agent front rest : List ℕ) → agent ≡ front ++ (token ++ rest) → rest ≡ drop (length token) (drop (length front) agent)
rest_is token agent front rest split =
    sym (ap (λ a. drop (length token) (drop (length front) a)) split ∙ ap (drop (length token)) (drop_at front (token ++ rest) (length front) refl) ∙ drop_at token rest (length token) refl)

one_text : (token agent one two : List ℕ) → IsBrowserText token agent one → IsBrowserText token agent two → one ≡ two
one_text token agent one two text other =
    let low = text.stands.first other.front other.rest other.stands.split in
    let high = other.stands.first text.front text.rest text.stands.split in
    let at : length text.front ≡ length other.front = omega (arith, low, high) in
    let same : text.rest ≡ other.rest =
    rest_is token agent text.front text.rest text.stands.split ∙ ap (λ n. drop (length token) (drop n agent)) at ∙ sym (rest_is token agent other.front other.rest other.stands.split) in
    text.text ∙ ap (λ r. token ++ before_first is_delimiter r) same ∙ sym other.text

pub one_browser : (rules : List Rule) (agent a c b d : List ℕ) → HasBrowser rules agent a c → HasBrowser rules agent b d → (a ≡ b) × (c ≡ d)
one_browser rules agent a c b d (inl one) (inl two) =
    let same = one_first (λ (r : Rule). r.token) rules agent one.0 two.0 one.1 two.1 in
    (one_text two.0.token agent a b (subst (λ (r : Rule). IsBrowserText r.token agent a) same one.2) two.2, one.3 ∙ ap (λ (r : Rule). r.category) same ∙ sym two.3)
one_browser rules agent a c b d (inl one) (inr two) = absurd (first_not_none (λ (r : Rule). r.token) rules agent one.0 one.1 two.0)
one_browser rules agent a c b d (inr one) (inl two) = absurd (first_not_none (λ (r : Rule). r.token) rules agent two.0 two.1 one.0)
one_browser rules agent a c b d (inr one) (inr two) = (one.1 ∙ sym two.1, one.2 ∙ sym two.2)

one_system : (agent a c b d : List ℕ) → HasSystem agent a c → HasSystem agent b d → (a ≡ b) × (c ≡ d)
one_system agent a c b d (inl one) (inl two) =
    let same = one_first (λ (s : System). s.token) systems agent one.0 two.0 one.1 two.1 in
    (one.2 ∙ ap (λ (s : System). s.system) same ∙ sym two.2, one.3 ∙ ap (λ (s : System). s.group) same ∙ sym two.3)
one_system agent a c b d (inl one) (inr two) = absurd (first_not_none (λ (s : System). s.token) systems agent one.0 one.1 two.0)
one_system agent a c b d (inr one) (inl two) = absurd (first_not_none (λ (s : System). s.token) systems agent two.0 two.1 one.0)
one_system agent a c b d (inr one) (inr two) = (one.1 ∙ sym two.1, one.2 ∙ sym two.2)

same_truth : (a b : Bool) → (IsTrue a → IsTrue b) → (IsTrue b → IsTrue a) → a ≡ b
same_truth true true to from = refl
same_truth true false to from = let clash : IsTrue false = to refl in cc
same_truth false true to from = let clash : IsTrue false = from refl in cc
same_truth false false to from = refl

abbrev agent_with : List ℕ → List ℕ → List ℕ → List ℕ → Bool → Agent
agent_with browser category system group crawler = record { browser = browser; category = category; system = system; system_group = group; crawler = crawler }

same_agent : (a c s g b d t h : List ℕ) (k l : Bool) → a ≡ b → c ≡ d → s ≡ t → g ≡ h → k ≡ l
    → ◌≡◌ {A = Agent} (record { browser = a; category = c; system = s; system_group = g; crawler = k }) (record { browser = b; category = d; system = t; system_group = h; crawler = l })
same_agent a c s g b d t h k l e1 e2 e3 e4 e5 =
    ap (λ x. agent_with x c s g k) e1 ∙ ap (λ x. agent_with b x s g k) e2 ∙ ap (λ x. agent_with b d x g k) e3 ∙ ap (λ x. agent_with b d t x k) e4 ∙ ap (λ x. agent_with b d t h x) e5

pub one_agent : (file : List Rule) (agent : List ℕ) (one two : Agent) → IsAgent file agent one → IsAgent file agent two → one ≡ two
one_agent file agent one two is other =
    let browser = one_browser (file ++ builtin_rules) agent one.browser one.category two.browser two.category is.browser other.browser in
    let system = one_system agent one.system one.system_group two.system two.system_group is.system other.system in
    let crawler : one.crawler ≡ two.crawler =
    same_truth one.crawler two.crawler (λ yes. other.crawler.1 (sym browser.1 ∙ is.crawler.0 yes)) (λ yes. is.crawler.1 (browser.1 ∙ other.crawler.0 yes)) in
    same_agent one.browser one.category one.system one.system_group two.browser two.category two.system two.system_group one.crawler two.crawler browser.0 browser.1 system.0 system.1 crawler

pub crawler_found : (file : List Rule) (agent : List ℕ) (found : Found) (answer : Bool) → IsFound (file ++ builtin_rules) agent found → (IsTrue answer ↔ (found.category.now ≡ crawlers)) → IsTrue answer ↔ IsCrawler file agent
crawler_found file agent found answer is tells =
    let r = rule found.token.now found.category.now in
    let rest = drop (found.at + length found.token.now) agent in
    let text : IsBrowserText found.token.now agent (found.token.now ++ before_first is_delimiter rest) = record { front = take found.at agent; rest = rest; stands = is.place.stands; text = refl } in (
      λ yes. (found.token.now ++ before_first is_delimiter rest, inl (r, is.first, text, sym (tells.0 yes))),
      λ crawler. ⊎_elim
          (λ one. tells.1 (ap (λ (x : Rule). x.category) (one_first (λ (x : Rule). x.token) (file ++ builtin_rules) agent r one.0 is.first one.1) ∙ sym one.3))
          (λ none. absurd (first_not_none (λ (x : Rule). x.token) (file ++ builtin_rules) agent r is.first none.0))
          crawler.1,
    )

pub crawler_none : (file : List Rule) (agent : List ℕ) → NoneOccurs (λ (x : Rule). x.token) (file ++ builtin_rules) agent → IsTrue false ↔ IsCrawler file agent
crawler_none file agent none = (
  λ yes. absurd (cc yes),
  λ crawler. ⊎_elim
      (λ one. absurd (first_not_none (λ (x : Rule). x.token) (file ++ builtin_rules) agent one.0 one.1 none))
      (λ other. let clash : crawlers ≡ unknown = other.2 in absurd (cc clash))
      crawler.1,
)

pub crawler_agrees : (file : List Rule) (agent : List ℕ) (result : Bool) → (IsTrue result ↔ IsCrawler file agent) → (answer : Agent) → IsAgent file agent answer → result ≡ answer.crawler
crawler_agrees file agent result tells answer is =
    same_truth result answer.crawler
    (λ yes. let crawler = tells.0 yes in is.crawler.1 (one_browser (file ++ builtin_rules) agent answer.browser answer.category crawler.0 crawlers is.browser crawler.1).1)
    (λ yes. tells.1 (answer.browser, subst (λ x. HasBrowser (file ++ builtin_rules) agent answer.browser x) (is.crawler.0 yes) is.browser))

pub told_crawler : (file : List Rule) (agent : List ℕ) (answer : Agent) → IsAgent file agent answer → IsTrue answer.crawler ↔ IsCrawler file agent
told_crawler file agent answer is = (
  λ yes. (answer.browser, subst (λ x. HasBrowser (file ++ builtin_rules) agent answer.browser x) (is.crawler.0 yes) is.browser),
  λ crawler. is.crawler.1 (one_browser (file ++ builtin_rules) agent answer.browser answer.category crawler.0 crawlers is.browser crawler.1).1,
)
