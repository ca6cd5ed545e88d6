-- The built-in lists, each in the order in which its entries count: this program's own choice of browsers, systems and
-- their groups.
use Rattle.std.specs.Prelude.{ℕ, List, [], ◌∷◌, codes}
use Rattle.ga_agents.specs.declared.row.Rule.{Rule}

abbrev pub rule : List ℕ → List ℕ → Rule
rule token category = record { token = token; category = category }

-- agents with the token have the system, which is of the group
pub record System : Type 0 where
  pub token : List ℕ
  pub system : List ℕ
  pub group : List ℕ

abbrev pub system : List ℕ → List ℕ → List ℕ → System
system token name group = record { token = token; system = name; group = group }

-- the rules that count after those of the browsers file: a token and a category
abbrev pub builtin_rules : List Rule
builtin_rules =
    rule (codes "Googlebot") (codes "Crawlers") ∷
    rule (codes "bingbot") (codes "Crawlers") ∷
    rule (codes "Baiduspider") (codes "Crawlers") ∷
    rule (codes "YandexBot") (codes "Crawlers") ∷
    rule (codes "DuckDuckBot") (codes "Crawlers") ∷
    rule (codes "AhrefsBot") (codes "Crawlers") ∷
    rule (codes "SemrushBot") (codes "Crawlers") ∷
    rule (codes "Applebot") (codes "Crawlers") ∷
    rule (codes "Twitterbot") (codes "Crawlers") ∷
    rule (codes "facebookexternalhit") (codes "Crawlers") ∷
    rule (codes "crawler") (codes "Crawlers") ∷
    rule (codes "spider") (codes "Crawlers") ∷
    rule (codes "bot/") (codes "Crawlers") ∷
    rule (codes "Bot/") (codes "Crawlers") ∷
    rule (codes "curl") (codes "Others") ∷
    rule (codes "Wget") (codes "Others") ∷
    rule (codes "python-requests") (codes "Others") ∷
    rule (codes "Edg") (codes "Edge") ∷
    rule (codes "OPR") (codes "Opera") ∷
    rule (codes "Opera") (codes "Opera") ∷
    rule (codes "Firefox") (codes "Firefox") ∷
    rule (codes "FxiOS") (codes "Firefox") ∷
    rule (codes "SamsungBrowser") (codes "Others") ∷
    rule (codes "CriOS") (codes "Chrome") ∷
    rule (codes "Chrome") (codes "Chrome") ∷
    rule (codes "Safari") (codes "Safari") ∷
    rule (codes "MSIE") (codes "MSIE") ∷
    rule (codes "Trident") (codes "MSIE") ∷
    rule (codes "Mozilla") (codes "Others") ∷
    []

-- the systems: a token, the system's name and its group
abbrev pub systems : List System
systems =
    system (codes "Windows NT 10.0") (codes "Windows 10") (codes "Windows") ∷
    system (codes "Windows NT 6.3") (codes "Windows 8.1") (codes "Windows") ∷
    system (codes "Windows NT 6.2") (codes "Windows 8") (codes "Windows") ∷
    system (codes "Windows NT 6.1") (codes "Windows 7") (codes "Windows") ∷
    system (codes "Windows NT 6.0") (codes "Windows Vista") (codes "Windows") ∷
    system (codes "Windows NT 5.1") (codes "Windows XP") (codes "Windows") ∷
    system (codes "Windows") (codes "Windows") (codes "Windows") ∷
    system (codes "iPhone") (codes "iOS") (codes "iOS") ∷
    system (codes "iPad") (codes "iOS") (codes "iOS") ∷
    system (codes "Android") (codes "Android") (codes "Android") ∷
    system (codes "CrOS") (codes "Chrome OS") (codes "Chrome OS") ∷
    system (codes "Mac OS X") (codes "macOS") (codes "macOS") ∷
    system (codes "Macintosh") (codes "macOS") (codes "macOS") ∷
    system (codes "Ubuntu") (codes "Ubuntu") (codes "Linux") ∷
    system (codes "Fedora") (codes "Fedora") (codes "Linux") ∷
    system (codes "Debian") (codes "Debian") (codes "Linux") ∷
    system (codes "Linux") (codes "Linux") (codes "Linux") ∷
    system (codes "FreeBSD") (codes "FreeBSD") (codes "BSD") ∷
    system (codes "OpenBSD") (codes "OpenBSD") (codes "BSD") ∷
    system (codes "NetBSD") (codes "NetBSD") (codes "BSD") ∷
    system (codes "SunOS") (codes "Solaris") (codes "Unix") ∷
    []
