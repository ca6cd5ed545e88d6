-- What the panels' table looks at beside a record's own values: what its agent is, which site its referrer names and what
-- was searched for there, and whether its URL is of a static file.
use Rattle.std.specs.Prelude.{◌≡◌, ◌↔◌, ◌⊎◌, ℕ, ◌≤◌, ◌<◌, Bool, IsTrue, List, Option, IfSome}
use Rattle.ga_agents.specs.declared.agent.Agent.{Agent}
use Rattle.ga_agents.specs.Classes.{IsAgent}
use Rattle.ga_base.specs.declared.record.Record.{Record}
use Rattle.ga_base.specs.Days.{HasEightDigits}
use Rattle.ga_panels.specs.declared.setup.PanelSetup.{PanelSetup}
use Rattle.ga_requests.specs.Referrers.{KeyphraseIs, SiteIs}
use Rattle.ga_requests.specs.Urls.{IsStatic}

pub record Facts : Type 0 where
  pub agent : Agent
  pub site : Option (List ℕ)
  pub phrase : Option (List ℕ)
  pub is_static : Bool

-- these are the facts of a record
pub record HasFacts (setup : PanelSetup) (rec : Record) (facts : Facts) : Type 0 where
  pub agent : IsAgent setup.rules rec.agent facts.agent
  pub site : SiteIs rec.referrer facts.site
  pub phrase : KeyphraseIs rec.referrer facts.phrase
  pub is_static : IsTrue facts.is_static ↔ IsStatic rec.url setup.statics setup.all_static

-- the records that have keys: a day has eight digits, a minute is one of a day's 1440, and a status is 0 or 100 to 599
pub record CanHaveKeys (rec : Record) : Type 0 where
  pub date : HasEightDigits rec.date
  pub minute : IfSome rec.minute (λ minute. minute < 1440)
  pub status : (rec.status ≡ 0) ⊎ ((100 ≤ rec.status) × (rec.status ≤ 599))
