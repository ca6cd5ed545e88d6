-- The panels' names in both texts.
use Rattle.std.specs.Prelude.{ℕ, List, codes}
use Rattle.ga_base.specs.declared.panel.Panel.{Panel}
use Rattle.ga_base.specs.declared.panel.Panel.TheVariants.{Visitors, Requests, RequestsStatic, NotFound, Hosts, Os, Browsers, VisitTimes, VirtualHosts, Referrers, ReferringSites, Keyphrases, StatusCodes, RemoteUser, CacheStatus, MimeType, TlsType}

unfoldable pub panel_name : Panel → List ℕ
panel_name Visitors = codes "visitors"
panel_name Requests = codes "requests"
panel_name RequestsStatic = codes "requests_static"
panel_name NotFound = codes "not_found"
panel_name Hosts = codes "hosts"
panel_name Os = codes "os"
panel_name Browsers = codes "browsers"
panel_name VisitTimes = codes "visit_times"
panel_name VirtualHosts = codes "virtual_hosts"
panel_name Referrers = codes "referrers"
panel_name ReferringSites = codes "referring_sites"
panel_name Keyphrases = codes "keyphrases"
panel_name StatusCodes = codes "status_codes"
panel_name RemoteUser = codes "remote_user"
panel_name CacheStatus = codes "cache_status"
panel_name MimeType = codes "mime_type"
panel_name TlsType = codes "tls_type"
