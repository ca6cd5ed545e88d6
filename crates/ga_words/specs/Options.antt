-- The options of the command line in one table: the name of each, what it takes, and what it makes of the settings. The
-- options are those of GoAccess; the values that it takes, and the options that say so, are this program's own.
use Rattle.std.specs.Prelude.{◌≡◌, ◌≢◌, ℕ, true, false, Option, Some, List, [], ◌∷◌, ◌++◌, slice_set, codes}
use Rattle.std.specs.Map.{lookup}
use Rattle.std.specs.Str.{bytes_eq}
use Rattle.ga_base.specs.Panels.{panel_number}
use Rattle.ga_base.specs.declared.date_spec.DateSpec.TheVariants as D
use Rattle.ga_base.specs.declared.hour_spec.HourSpec.TheVariants as H
use Rattle.ga_base.specs.declared.panel.Panel.{Panel}
use Rattle.ga_hosts.specs.Ranges.{SpellsRange}
use Rattle.ga_hosts.specs.declared.range.Range.{Range}
use Rattle.ga_words.specs.declared.settings.Settings.{Settings}
use Rattle.ga_words.specs.declared.settings.Output.{Output}
use Rattle.ga_words.specs.Values.{IsNumber, NamesOutput, panel_named}

-- what an option takes, with what it makes of the settings by it
pub data Takes : Type 0 where
  Flag : (Settings → Settings) → Takes  -- no value
  Format : (List ℕ → Settings → Settings) → Takes  -- a text, which may be empty
  Name : (List ℕ → Settings → Settings) → Takes  -- a text of at least one byte
  Number : ℕ → ℕ → (ℕ → Settings → Settings) → Takes  -- one to ten digits, from the one number to the other
  Status : (ℕ → Settings → Settings) → Takes  -- three digits, 100 to 599
  Target : (Output → Settings → Settings) → Takes  -- where the report goes
  Addresses : (Range → Settings → Settings) → Takes  -- an address or a range of them
  OfPanel : (Panel → Settings → Settings) → Takes  -- the name of a panel
  OneOf : List (List ℕ × (Settings → Settings)) → Takes  -- one of these words, byte for byte

-- how finely VISITORS tells days, and what that makes of the settings
abbrev pub date_specs : List (List ℕ × (Settings → Settings))
date_specs =
    (codes "date", λ s. record s { date_spec = D.Date })
    ∷ (codes "hr", λ s. record s { date_spec = D.Hour })
    ∷ (codes "min", λ s. record s { date_spec = D.Minute })
    ∷ []

-- how finely VISIT_TIMES tells the time of the day
abbrev pub hour_specs : List (List ℕ × (Settings → Settings))
hour_specs =
    (codes "hr", λ s. record s { hour_spec = H.Hour })
    ∷ (codes "min", λ s. record s { hour_spec = H.Tens })
    ∷ []

-- Of an option with one value the last counts, since each sets its setting anew; the values of an option that may be
-- repeated are added; and of panels the last word on a panel decides.
abbrev pub options : List (List ℕ × Takes)
options =
    (codes "--log-format", Format (λ text s. record s { log_format = Some text }))
    ∷ (codes "--date-format", Format (λ text s. record s { date_format = text }))
    ∷ (codes "--time-format", Format (λ text s. record s { time_format = text }))
    ∷ (codes "-o", Target (λ output s. record s { output = output }))
    ∷ (codes "--output", Target (λ output s. record s { output = output }))
    ∷ (codes "--browsers-file", Name (λ name s. record s { browsers_file = Some name }))
    ∷ (codes "--config-file", Name (λ name s. record s { config_file = Some name }))
    ∷ (codes "--static-file", Name (λ ending s. record s { statics = s.statics ++ ending ∷ [] }))
    ∷ (codes "--all-static-files", Flag (λ s. record s { all_static = true }))
    ∷ (codes "--exclude-ip", Addresses (λ range s. record s { ranges = s.ranges ++ range ∷ [] }))
    ∷ (codes "--no-query-string", Flag (λ s. record s { no_query = true }))
    ∷ (codes "--ignore-crawlers", Flag (λ s. record s { ignore_crawlers = true }))
    ∷ (codes "--ignore-status", Status (λ status s. record s { ignore_status = s.ignore_status ++ status ∷ [] }))
    ∷ (codes "--ignore-panel", OfPanel (λ panel s. record s { panels = slice_set s.panels (panel_number panel) false }))
    ∷ (codes "--enable-panel", OfPanel (λ panel s. record s { panels = slice_set s.panels (panel_number panel) true }))
    ∷ (codes "--date-spec", OneOf date_specs)
    ∷ (codes "--hour-spec", OneOf hour_specs)
    ∷ (codes "--no-ip-validation", Flag (λ s. record s { no_ip_validation = true }))
    ∷ (codes "--no-strict-status", Flag (λ s. record s { strict_status = false }))
    ∷ (codes "--4xx-to-unique-count", Flag (λ s. record s { count_4xx = true }))
    ∷ (codes "--444-as-404", Flag (λ s. record s { as_404 = true }))
    ∷ (codes "--double-decode-url", Flag (λ s. record s { double_decode = true }))
    ∷ (codes "--max-items", Number 1 4294967295 (λ n s. record s { max_items = n }))
    ∷ (codes "--jobs", Number 1 16 (λ n s. record s { jobs = n }))
    ∷ (codes "--chunk-size", Number 1 32768 (λ n s. record s { chunk = n }))
    ∷ (codes "--persist", Flag (λ s. record s { persist = true }))
    ∷ (codes "--restore", Flag (λ s. record s { restore = true }))
    ∷ (codes "--keep-last", Number 1 4294967295 (λ n s. record s { keep = n }))
    ∷ (codes "--db-path", Name (λ name s. record s { db_path = name }))
    ∷ (codes "--generate", Number 1 1000000 (λ n s. record s { generate = Some n }))
    ∷ []

-- what the option of this name takes, byte for byte
abbrev pub takes_of : List ℕ → Option Takes
takes_of name = lookup (λ option. bytes_eq option name) options

-- all names but the short one may are in one word with `=` and a value
abbrev pub IsLong : List ℕ → Type 0
IsLong name = name ≢ codes "-o"

-- by this value the option makes the settings `new` of `old`; a flag takes none
abbrev pub Sets : Takes → List ℕ → Settings → Settings → Type 0
Sets (Flag set) value old new = ⊥
Sets (Format set) value old new = new ≡ set value old
Sets (Name set) value old new = (value ≢ []) × (new ≡ set value old)
Sets (Number low high set) value old new = (n : ℕ) × IsNumber 1 10 low high value n × (new ≡ set n old)
Sets (Status set) value old new = (n : ℕ) × IsNumber 3 3 100 599 value n × (new ≡ set n old)
Sets (Target set) value old new = (output : Output) × NamesOutput value output × (new ≡ set output old)
Sets (Addresses set) value old new = (range : Range) × SpellsRange value range × (new ≡ set range old)
Sets (OfPanel set) value old new = (panel : Panel) × (panel_named value ≡ Some panel) × (new ≡ set panel old)
Sets (OneOf words) value old new = (set : Settings → Settings) × (lookup (λ word. bytes_eq word value) words ≡ Some set) × (new ≡ set old)

-- the value is outside the option's column: it makes nothing of any settings
abbrev pub IsOutside : Takes → List ℕ → Type 0
IsOutside takes value = (old new : Settings) → ¬ Sets takes value old new

-- an option that takes a value
abbrev pub TakesValue : Takes → Type 0
TakesValue takes = (set : Settings → Settings) → takes ≢ Flag set

-- the value is one that the option takes: it makes settings of some
abbrev pub IsTaken : Takes → List ℕ → Type 0
IsTaken takes value = (old new : Settings) × Sets takes value old new

-- an option that takes none
abbrev pub IsFlag : Takes → Type 0
IsFlag takes = (set : Settings → Settings) × (takes ≡ Flag set)
