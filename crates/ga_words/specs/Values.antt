-- What the values of options mean: numbers, the target of the report, panels. Ranges of addresses are those of ga_hosts.
use Rattle.std.specs.Prelude.{◌≡◌, ◌≢◌, ℕ, ◌≤◌, ◌⊎◌, Option, List, [], ◌∷◌, ◌++◌, length, codes}
use Rattle.std.specs.Map.{lookup}
use Rattle.std.specs.Str.{bytes_eq}
use Rattle.std.specs.Str.Parse.{IsNumeral, digits_value}
use Rattle.ga_base.specs.declared.panel.Panel.{Panel}
use Rattle.ga_base.specs.declared.panel.Panel.TheVariants.{Visitors, Requests, RequestsStatic, NotFound, Hosts, Os, Browsers, VisitTimes, VirtualHosts, Referrers, ReferringSites, Keyphrases, StatusCodes, RemoteUser, CacheStatus, MimeType, TlsType}
use Rattle.ga_words.specs.declared.settings.Output.{Output}
use Rattle.ga_words.specs.declared.settings.Kind.{Kind}
use Rattle.ga_words.specs.declared.settings.Kind.TheVariants.{Json, Csv}

-- this many decimal digits without a sign, which write this number; leading zeros are digits like any other
pub record IsNumber (shortest longest low high : ℕ) (text : List ℕ) (number : ℕ) : Type 0 where
  pub digits : IsNumeral 10 text
  pub count : (shortest ≤ length text) × (length text ≤ longest)
  pub value : number ≡ digits_value 10 text
  pub between : (low ≤ number) × (number ≤ high)

-- the report goes to standard output as this kind, which is named alone
pub record NamesKind (text name : List ℕ) (kind : Kind) (output : Output) : Type 0 where
  pub spelled : text ≡ name
  pub is : output ≡ record { kind = kind; name = [] }

-- the report goes to a file, whose name ends so and has a byte before that
pub record NamesFile (text ending : List ℕ) (kind : Kind) (output : Output) : Type 0 where
  pub front : List ℕ
  pub some : front ≢ []
  pub spelled : text ≡ front ++ ending
  pub is : output ≡ record { kind = kind; name = text }

-- the text says where the report goes, and as what
abbrev pub NamesOutput : List ℕ → Output → Type 0
NamesOutput text output =
    NamesKind text (codes "json") Json output ⊎ NamesKind text (codes "csv") Csv output
    ⊎ NamesFile text (codes ".json") Json output ⊎ NamesFile text (codes ".csv") Csv output

-- the names of the panels on the command line, in the report's order
abbrev pub panel_names : List (List ℕ × Panel)
panel_names =
    (codes "VISITORS", Visitors)
    ∷ (codes "REQUESTS", Requests)
    ∷ (codes "REQUESTS_STATIC", RequestsStatic)
    ∷ (codes "NOT_FOUND", NotFound)
    ∷ (codes "HOSTS", Hosts)
    ∷ (codes "OS", Os)
    ∷ (codes "BROWSERS", Browsers)
    ∷ (codes "VISIT_TIMES", VisitTimes)
    ∷ (codes "VIRTUAL_HOSTS", VirtualHosts)
    ∷ (codes "REFERRERS", Referrers)
    ∷ (codes "REFERRING_SITES", ReferringSites)
    ∷ (codes "KEYPHRASES", Keyphrases)
    ∷ (codes "STATUS_CODES", StatusCodes)
    ∷ (codes "REMOTE_USER", RemoteUser)
    ∷ (codes "CACHE_STATUS", CacheStatus)
    ∷ (codes "MIME_TYPE", MimeType)
    ∷ (codes "TLS_TYPE", TlsType)
    ∷ []

-- the panel of this name, byte for byte
abbrev pub panel_named : List ℕ → Option Panel
panel_named text = lookup (λ name. bytes_eq name text) panel_names
