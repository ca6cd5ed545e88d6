-- What a run does where no word says otherwise.
use Rattle.std.specs.Prelude.{true, false, None, [], replicate, codes}
use Rattle.ga_base.specs.declared.date_spec.DateSpec.TheVariants.{Date}
use Rattle.ga_base.specs.declared.hour_spec.HourSpec.TheVariants.{Hour}
use Rattle.ga_base.specs.declared.panel.TheConstants.Panel.{COUNT}
use Rattle.ga_words.specs.declared.settings.Settings.{Settings}
use Rattle.ga_words.specs.declared.settings.Output.{Output}
use Rattle.ga_words.specs.declared.settings.Kind.{Kind}
use Rattle.ga_words.specs.declared.settings.Kind.TheVariants.{Json}

-- a report of this kind on standard output, which has no name
abbrev pub standard : Kind → Output
standard kind = record { kind = kind; name = [] }

-- the settings of no words; the formats of dates and times and the last four are this program's own
abbrev pub defaults : Settings
defaults = record {
  log_format = None;
  date_format = codes "%d/%b/%Y";
  time_format = codes "%H:%M:%S";
  output = standard Json;
  browsers_file = None;
  config_file = None;
  statics = [];
  all_static = false;
  ranges = [];
  no_query = false;
  ignore_crawlers = false;
  ignore_status = [];
  panels = replicate COUNT true;
  date_spec = Date;
  hour_spec = Hour;
  no_ip_validation = false;
  strict_status = true;
  count_4xx = false;
  as_404 = false;
  double_decode = false;
  max_items = 366;
  jobs = 1;
  chunk = 1024;
  persist = false;
  restore = false;
  keep = 0;
  db_path = codes "/tmp";
  generate = None;
  logs = [];
}
