-- What a run prints.
use Rattle.std.specs.Prelude.{◌≡◌, ℕ, List, Option, Some, None}
use Rattle.ga_generate.specs.Summary.{summary_text}
use Rattle.ga_print.specs.Csv.{csv_text}
use Rattle.ga_print.specs.Json.{json_text}
use Rattle.ga_report.specs.OfSummary.{source_value}
use Rattle.ga_report.specs.Source.{SourceValue}
use Rattle.ga_report.specs.Reports.{IsReport}
use Rattle.ga_report.specs.declared.report.Report.{Report}
use Rattle.ga_summary.specs.SummaryRows.{SummaryValue}
use Rattle.ga_words.specs.declared.settings.Kind.{Kind}
use Rattle.ga_words.specs.declared.settings.Kind.TheVariants.{Json, Csv}
use Rattle.ga_words.specs.declared.settings.Settings.{Settings}

-- a report as this kind of text
abbrev pub text_as : Kind → Report → List ℕ
text_as Json report = json_text report
text_as Csv report = csv_text report

-- what is printed of a report: itself, or the six lines in its place where its lines are the generator's
abbrev pub shown : Option ℕ → Kind → Report → List ℕ
shown None kind report = text_as kind report
shown (Some lines) kind report = summary_text lines report.general (json_text report)

-- the text is the report on what is told, as the settings say: its panels, the length of its lists, how finely it tells days, and what is
-- printed of it
pub record IsTextTold (s : Settings) (told : SourceValue) (text : List ℕ) : Type 0 where
  pub report : Report
  pub is_report : IsReport told s.panels s.max_items s.date_spec report
  pub written : text ≡ shown s.generate s.output.kind report

-- the text is the report on a summary
abbrev pub IsTextOf : Settings → SummaryValue → List ℕ → Type 0
IsTextOf s sum text = IsTextTold s (source_value sum) text
