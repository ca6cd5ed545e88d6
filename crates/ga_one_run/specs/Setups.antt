-- What the settings of a run mean: the setup with which lines are read and counted, or the first format that is
-- refused.
use Rattle.std.specs.Prelude.{◌≡◌, ℕ, List, unwrap_or, Result, Ok, Err, codes}
use Rattle.ga_agents.specs.declared.row.Rule.{Rule}
use Rattle.ga_base.specs.declared.formats.FormatFault.{FormatFault}
use Rattle.ga_dates.specs.declared.item.Item.{Item}
use Rattle.ga_dates.specs.declared.kind.Kind.TheVariants.{Date as DateKind, Time as TimeKind}
use Rattle.ga_dates.specs.Grammar.{IsAnswer}
use Rattle.ga_format.specs.Named.{StandsFor}
use Rattle.ga_line.specs.declared.setup.LineSetup.{LineSetup}
use Rattle.ga_line.specs.declared.setup.Shape.{Shape}
use Rattle.ga_line.specs.ShapeTexts.{ShapeOf}
use Rattle.ga_panels.specs.declared.setup.PanelSetup.{PanelSetup}
use Rattle.ga_words.specs.declared.settings.Settings.{Settings}
use Rattle.ga_outcomes.specs.declared.setup.Setup.{Setup}
use Rattle.ga_one_run.specs.declared.status.Which.{Which}
use Rattle.ga_one_run.specs.declared.status.Which.TheVariants.{Log, Date, Time}

-- the log format, by its text or its name; where none is given it is the combined one, which the generator's lines have
abbrev pub format_word : Settings → List ℕ
format_word s = unwrap_or s.log_format (codes "COMBINED")

-- the format that a log format means, plain or JSON, or its first fault: it is a format text, or the name of one
abbrev pub LogMeans : List ℕ → Result Shape FormatFault → Type 0
LogMeans word answer = (text : List ℕ) × StandsFor word text × ShapeOf text answer

-- how lines are read: each format is what its text means, and the flags are those of the words
pub record IsLineSetup (s : Settings) (line : LineSetup) : Type 0 where
  pub format : LogMeans (format_word s) (Ok line.format)
  pub date : IsAnswer DateKind s.date_format (Ok line.date)
  pub time : IsAnswer TimeKind s.time_format (Ok line.time)
  pub no_ip_validation : line.no_ip_validation ≡ s.no_ip_validation
  pub strict_status : line.strict_status ≡ s.strict_status
  pub double_decode : line.double_decode ≡ s.double_decode
  pub no_query : line.no_query ≡ s.no_query

-- that format is refused for this fault, and the formats before it are good
abbrev pub IsRefused : Settings → Which → FormatFault → Type 0
IsRefused s Log fault = LogMeans (format_word s) (Err fault)
IsRefused s Date fault =
    (shape : Shape) × LogMeans (format_word s) (Ok shape) × IsAnswer DateKind s.date_format (Err fault)
IsRefused s Time fault = (shape : Shape) × (dates : List Item) × LogMeans (format_word s) (Ok shape)
    × IsAnswer DateKind s.date_format (Ok dates) × IsAnswer TimeKind s.time_format (Err fault)

-- how records are counted, with these rules of a browsers file
abbrev pub panels_of : Settings → List Rule → PanelSetup
panels_of s rules = record {
  rules = rules;
  ranges = s.ranges;
  statics = s.statics;
  all_static = s.all_static;
  ignore_crawlers = s.ignore_crawlers;
  ignore_status = s.ignore_status;
  panels = s.panels;
  count_4xx = s.count_4xx;
  as_404 = s.as_404;
  date_spec = s.date_spec;
  hour_spec = s.hour_spec;
}

abbrev pub setup_of : LineSetup → Settings → List Rule → Setup
setup_of line s rules = record { line = line; panels = panels_of s rules }
