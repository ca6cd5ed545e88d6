-- The general numbers of the days that are read so far.
use Rattle.std.proofs.Common.{◌≡◌, ℕ, ◌+◌, ◌≤◌, List, [], ◌∷◌, take, take_all, length, Some, sum_by, refl, ap, ◌∙◌, arith}
use Rattle.std.specs.Prelude.{slice_get}
use Rattle.std.proofs.lemmas.List.Sums.{sum_by_push}
use Rattle.ga_base.specs.declared.counts.Totals.{Totals}
use Rattle.ga_report.specs.declared.report.General.{General}
use Rattle.ga_report.specs.Source.{SourceRow, SourceValue}
use Rattle.ga_report.specs.Reports.{general_of}
use Rattle.ga_report.specs.SoundRows.{AreSound, day_rows}
use Rattle.ga_report.specs.Steps.Summed.{with_day, DayFits}
use Rattle.ga_report.proofs.Lists.{more-part, take-more}

abbrev numbers : Totals → ℕ → ℕ → ℕ → General
numbers totals h v b = record { total_requests = totals.lines; valid_requests = h; failed_requests = totals.failed; excluded_hits = totals.excluded; unique_visitors = v; bandwidth = b }

abbrev of-days : Totals → List SourceRow → General
of-days totals days = numbers totals (sum_by (λ row. row.sums.hits) days) (sum_by (λ row. row.visitors) days) (sum_by (λ row. row.sums.bytes) days)

-- the general numbers of the first days
abbrev pub so_far : SourceValue → ℕ → General
so_far source n = of-days source.totals (take n (day_rows source.rows))

module _ (source : SourceValue) (n : ℕ) (day : SourceRow) (at : slice_get (day_rows source.rows) n ≡ Some day) where
  sum-next : (f : SourceRow → ℕ) → sum_by f (take (n + 1) (day_rows source.rows)) ≡ sum_by f (take n (day_rows source.rows)) + f day
  sum-next f = ap (sum_by f) (take-more n (day_rows source.rows) day at) ∙ sum_by_push f (take n (day_rows source.rows)) day

  pub next-day : so_far source (n + 1) ≡ with_day (so_far source n) day
  next-day = λ i. numbers source.totals (sum-next (λ r. r.sums.hits) i) (sum-next (λ r. r.visitors) i) (sum-next (λ r. r.sums.bytes) i)

  pub day-fits : AreSound source.rows → DayFits (so_far source n) day
  day-fits sound = record {
    hits = omega (arith, more-part (λ r. r.sums.hits) (day_rows source.rows) n day at, sound.fit.hits);
    visitors = omega (arith, more-part (λ r. r.visitors) (day_rows source.rows) n day at, sound.fit.visitors);
    bytes = omega (arith, more-part (λ r. r.sums.bytes) (day_rows source.rows) n day at, sound.fit.bytes);
  }

pub so_far-all : (source : SourceValue) (n : ℕ) → length (day_rows source.rows) ≤ n → so_far source n ≡ general_of source
so_far-all source n all = ap (of-days source.totals) (take_all n (day_rows source.rows) all)

pub start : (source : SourceValue) (totals : Totals) → totals ≡ source.totals → numbers totals 0 0 0 ≡ so_far source 0
start source totals e = ap (λ (t : Totals). numbers t 0 0 0) e ∙ none (day_rows source.rows)
  where
    none : (days : List SourceRow) → numbers source.totals 0 0 0 ≡ of-days source.totals (take 0 days)
    none [] = refl
    none (x ∷ xs) = refl
