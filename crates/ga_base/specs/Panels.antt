-- The panels in the report's order, and sets of them.
use Rattle.std.specs.Prelude.{ℕ, Bool, false, List, slice_index_or, ◌==◌}
use Rattle.ga_base.specs.declared.panel.Panel.{Panel}
use Rattle.ga_base.specs.declared.panel.Panel.TheVariants.{Visitors, Requests, RequestsStatic, NotFound, Hosts, Os, Browsers, VisitTimes, VirtualHosts, Referrers, ReferringSites, Keyphrases, StatusCodes, RemoteUser, CacheStatus, MimeType, TlsType}

-- the panel's place, from 0
abbrev pub panel_number : Panel → ℕ
panel_number Visitors = 0
panel_number Requests = 1
panel_number RequestsStatic = 2
panel_number NotFound = 3
panel_number Hosts = 4
panel_number Os = 5
panel_number Browsers = 6
panel_number VisitTimes = 7
panel_number VirtualHosts = 8
panel_number Referrers = 9
panel_number ReferringSites = 10
panel_number Keyphrases = 11
panel_number StatusCodes = 12
panel_number RemoteUser = 13
panel_number CacheStatus = 14
panel_number MimeType = 15
panel_number TlsType = 16

unfoldable pub is_same_panel : Panel → Panel → Bool
is_same_panel a b = panel_number a == panel_number b

-- a set of panels is a flag for each, in their order
abbrev pub has_panel : List Bool → Panel → Bool
has_panel flags panel = slice_index_or flags (panel_number panel) false
