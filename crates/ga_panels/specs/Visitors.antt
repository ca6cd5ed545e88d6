-- Whose visit a record is, and which records aren't counted.
use Rattle.std.specs.Prelude.{ℕ, Bool, not, ◌&&◌, ◌||◌, ◌⊎◌, nat_le, IsTrue, if◌then◌else◌, Option, Some, None, List}
use Rattle.std.specs.List.{Contains}
use Rattle.ga_agents.specs.Classes.{IsCrawler}
use Rattle.ga_base.specs.declared.key.Visitor.{Visitor}
use Rattle.ga_base.specs.declared.record.Record.{Record}
use Rattle.ga_hosts.specs.Ranges.{HoldsHost}
use Rattle.ga_panels.specs.declared.setup.PanelSetup.{PanelSetup}

-- a status of the fourth class, 400 to 499
abbrev pub is_client_error : ℕ → Bool
is_client_error status = nat_le 400 status && nat_le status 499

-- a record with a status of the fourth class is nobody's visit, unless those count
abbrev pub is_visit : PanelSetup → ℕ → Bool
is_visit setup status = setup.count_4xx || not (is_client_error status)

-- whose visit it is else
abbrev pub visitor_in : PanelSetup → Record → Option Visitor
visitor_in setup rec = if is_visit setup rec.status then Some (record { host = rec.host; date = rec.date; agent = rec.agent }) else None

-- a record is excluded where the ranges hold its host, where its status is ignored, and where its agent is a crawler and
-- those are ignored
abbrev pub IsExcludedWhere : PanelSetup → List ℕ → ℕ → Type 0 → Type 0
IsExcludedWhere setup host status crawler = HoldsHost setup.ranges host ⊎ (Contains setup.ignore_status status ⊎ (IsTrue setup.ignore_crawlers × crawler))

abbrev pub IsExcluded : PanelSetup → Record → Type 0
IsExcluded setup rec = IsExcludedWhere setup rec.host rec.status (IsCrawler setup.rules rec.agent)
