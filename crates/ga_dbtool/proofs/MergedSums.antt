-- The databases of two sums, merged, have the last days of the sum of both.
use Rattle.std.proofs.Common.{◌≡◌, ◌+◌, ◌||◌, ◌++◌, ℕ, Bool, true, false, List, Some, Option, max, refl, sym, ap, ◌∙◌, subst, arith}
use Rattle.std.specs.Prelude.{is_some, unwrap_or}
use Rattle.ga_base.specs.Totals.{totals_plus}
use Rattle.ga_base.specs.declared.counts.Sums.{Sums}
use Rattle.ga_base.specs.declared.counts.Totals.{Totals}
use Rattle.ga_store.specs.Database.{DbValue}
use Rattle.ga_summary.specs.LastDays.{trimmed}
use Rattle.ga_summary.specs.Outcomes.{Outcome}
use Rattle.ga_summary.specs.Sound.{IsSummary}
use Rattle.ga_summary.specs.SummaryRows.{IsInOrder, SummaryValue, has_pair, row_at, sums_at, sums_plus}
use Rattle.ga_summary.specs.Sums.{IsMerged, IsSumOf}
use Rattle.ga_dbtool.specs.Merged.{IsMergedDb, keep_of}

or-swap : (a b : Bool) → (a || b) ≡ (b || a)
or-swap true true = refl
or-swap true false = refl
or-swap false true = refl
or-swap false false = refl

totals-swap : (a b : Totals) → totals_plus a b ≡ totals_plus b a
totals-swap a b =
    let lines : a.lines + b.lines ≡ b.lines + a.lines = omega arith in
    let failed : a.failed + b.failed ≡ b.failed + a.failed = omega arith in
    let excluded : a.excluded + b.excluded ≡ b.excluded + a.excluded = omega arith in
    let hits : a.hits + b.hits ≡ b.hits + a.hits = omega arith in
    let bytes : a.bytes + b.bytes ≡ b.bytes + a.bytes = omega arith in
    let micros : a.micros + b.micros ≡ b.micros + a.micros = omega arith in
    λ i. record { lines = lines i; failed = failed i; excluded = excluded i; hits = hits i; bytes = bytes i; micros = micros i }

sums-swap : (a b : Sums) → sums_plus a b ≡ sums_plus b a
sums-swap a b =
    let hits : a.hits + b.hits ≡ b.hits + a.hits = omega arith in
    let bytes : a.bytes + b.bytes ≡ b.bytes + a.bytes = omega arith in
    let micros : a.micros + b.micros ≡ b.micros + a.micros = omega arith in
    let greatest : max a.max_micros b.max_micros ≡ max b.max_micros a.max_micros = omega arith in
    λ i. record { hits = hits i; bytes = bytes i; micros = micros i; max_micros = greatest i }

-- it doesn't matter which of two is merged into which
swap : (a b s : SummaryValue) → IsMerged a b s → IsMerged b a s
swap a b s h = record {
  totals = h.totals ∙ totals-swap a.totals b.totals;
  sums = λ key. h.sums key ∙ sums-swap (sums_at a.rows key) (sums_at b.rows key);
  pairs = λ key visitor. h.pairs key visitor ∙ or-swap (has_pair a.rows key visitor) (has_pair b.rows key visitor);
  present = λ key. h.present key ∙ or-swap (is_some (row_at a.rows key)) (is_some (row_at b.rows key));
  ordered = h.ordered;
}

module _ (merged_sums : (xs ys : List Outcome) (a b s : SummaryValue) → IsSumOf xs a → IsSumOf ys b → IsMerged a b s → IsSumOf (xs ++ ys) s)
    (one_sum : (xs : List Outcome) (a b : SummaryValue) → IsSumOf xs a → IsSumOf xs b → a ≡ b)
    (some_merged : (a b : SummaryValue) → IsInOrder a.rows → IsInOrder b.rows → (s : SummaryValue) × IsMerged a b s)
    (trimmed_merge : (n : ℕ) (a b both fewer : SummaryValue) → IsSummary a → IsSummary b → IsMerged a b both → IsMerged (trimmed n a) b fewer → trimmed n fewer ≡ trimmed n both)
    (trimmed_sound : (n : ℕ) (s : SummaryValue) → IsSummary s → IsSummary (trimmed n s)) where
  -- of the last days of two summaries, merged, the last days are those of the two merged
  both-trimmed : (n : ℕ) (x y all fewer : SummaryValue) → IsSummary x → IsSummary y → IsMerged x y all → IsMerged (trimmed n x) (trimmed n y) fewer → trimmed n fewer ≡ trimmed n all
  both-trimmed n x y all fewer sx sy whole less =
      let mid = some_merged x (trimmed n y) sx.ordered (trimmed_sound n y sy).ordered in
      trimmed_merge n x (trimmed n y) mid.0 fewer sx (trimmed_sound n y sy) mid.1 less
      ∙ trimmed_merge n y x all mid.0 sy sx (swap x y all whole) (swap x (trimmed n y) mid.0 mid.1)

  pub merged-days : (n : ℕ) (xs ys : List Outcome) (x y s : SummaryValue) (a b new : DbValue) → IsSumOf xs x → IsSumOf ys y → IsSummary x → IsSummary y → a.keep ≡ Some n
      → a.summary ≡ trimmed n x → b.summary ≡ trimmed n y → IsMergedDb a b new → IsSumOf (xs ++ ys) s → new.summary ≡ trimmed n s
  merged-days n xs ys x y s a b new of-x of-y sx sy keep first second made of-all =
      let all = some_merged x y sx.ordered sy.ordered in
      let same : all.0 ≡ s = one_sum (xs ++ ys) all.0 s (merged_sums xs ys x y all.0 of-x of-y all.1) of-all in
      let number : keep_of a b ≡ n = ap (λ (o : Option ℕ). unwrap_or o (unwrap_or b.keep 0)) keep in
      let less : IsMerged (trimmed n x) (trimmed n y) made.both =
      subst (λ (v : SummaryValue). IsMerged v (trimmed n y) made.both) first (subst (λ (v : SummaryValue). IsMerged a.summary v made.both) second made.merged) in
      made.summary ∙ ap (λ (k : ℕ). trimmed k made.both) number ∙ both-trimmed n x y all.0 made.both sx sy all.1 less ∙ ap (λ (v : SummaryValue). trimmed n v) same
