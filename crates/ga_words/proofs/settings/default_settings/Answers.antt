use Rattle.std.proofs.Common.{None, true, false}
use Rattle.ga_base.specs.declared.date_spec.DateSpec.TheVariants.{Date}
use Rattle.ga_base.specs.declared.hour_spec.HourSpec.TheVariants.{Hour}
use Rattle.ga_words.specs.declared.settings.Kind.TheVariants.{Json}
use Rattle.ga_words.proofs.settings.default_settings.Goals as goal

pub returns : goal.returns
returns c = λ i. record {
  log_format = None;
  date_format = c.in_ok-of.ensures i;
  time_format = c.in_ok-of-2.ensures i;
  output = record { kind = Json; name = c.new.ensures i };
  browsers_file = None;
  config_file = None;
  statics = c.new-2.ensures i;
  all_static = false;
  ranges = c.new-3.ensures i;
  no_query = false;
  ignore_crawlers = false;
  ignore_status = c.new-4.ensures i;
  panels = c.all.ensures.flags i;
  date_spec = Date;
  hour_spec = Hour;
  no_ip_validation = false;
  strict_status = true;
  count_4xx = false;
  as_404 = false;
  double_decode = false;
  max_items = 366;
  jobs = 1;
  chunk = 1024;
  persist = false;
  restore = false;
  keep = 0;
  db_path = c.in_ok-of-3.ensures i;
  generate = None;
  logs = c.new-5.ensures i;
}
