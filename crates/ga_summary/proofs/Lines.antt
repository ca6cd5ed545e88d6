-- The summary of lines of which none is counted.
use Rattle.std.proofs.Common.{◌≡◌, ℕ, zero, suc, ◌+◌, ◌≤◌, Bool, true, false, cond, ◌*◌, ◌&&◌, [], length, replicate, count_by, refl, sym, ◌∙◌, arith}
use Rattle.std.proofs.lemmas.Bool.{false≢true}
use Rattle.std.proofs.Common.{length-append}
use Rattle.std.proofs.lemmas.List.{length-replicate}
use Rattle.std.proofs.lemmas.List.Sums.{sum_by-append}
use Rattle.std.proofs.lemmas.List.Folds.{sum_by-replicate}
use Rattle.std.specs.List.Sorted.{IsStrictlySortedBy}
use Rattle.ga_base.specs.declared.counts.Totals.{Totals}
use Rattle.ga_base.specs.declared.counts.TheConstants.{LIMIT}
use Rattle.ga_summary.specs.Outcomes.{Outcome, Failed, Excluded, hits_of, is_failed, is_excluded, lines_of}
use Rattle.ga_summary.specs.SummaryRows.{SummaryValue, IsInOrder}
use Rattle.ga_summary.specs.Sums.{IsSumOf}
use Rattle.ga_summary.specs.Sound.{IsSummary}

and_false : (b : Bool) → (b && false) ≡ true → ⊥
and_false true e = false≢true e
and_false false e = false≢true e

and_false-is : (b : Bool) → (b && false) ≡ false
and_false-is true = refl
and_false-is false = refl

abbrev pub lines_value : ℕ → ℕ → SummaryValue
lines_value failed excluded = record { totals = record { lines = failed + excluded; failed = failed; excluded = excluded; hits = 0; bytes = 0; micros = 0 }; rows = [] }

IsInOrder-none : IsInOrder []
unfolding IsStrictlySortedBy
IsInOrder-none = record { keys = tt; names = λ k d lt. absurd (omega arith) }

pub IsSummary-lines : (failed excluded : ℕ) → failed + excluded ≤ LIMIT → IsSummary (lines_value failed excluded)
IsSummary-lines failed excluded fit = record {
  ordered = IsInOrder-none;
  sound = record {
    rows = record {
      form = λ key has. absurd (false≢true has);
      day = λ key has. absurd (false≢true has);
      layers = λ layer date. record { hits = omega arith; bytes = omega arith; micros = omega arith };
      hit = λ key has. absurd (false≢true has);
      visitors = λ key visitor has. absurd (and_false _ has);
      visits = λ key. omega arith;
    };
    totals = record {
      days = record { hits = omega arith; bytes = omega arith; micros = omega arith };
      lines = omega arith;
      fit = record { lines = omega arith; bytes = omega arith; micros = omega arith };
      times = λ key. (omega arith, omega arith);
    };
  };
}

hits_of-lines : (failed excluded : ℕ) → hits_of (lines_of failed excluded) ≡ []
hits_of-lines zero zero = refl
hits_of-lines zero (suc excluded) = hits_of-lines zero excluded
hits_of-lines (suc failed) excluded = hits_of-lines failed excluded

pub same_totals : (a b : Totals) → a.lines ≡ b.lines → a.failed ≡ b.failed → a.excluded ≡ b.excluded → a.hits ≡ b.hits → a.bytes ≡ b.bytes → a.micros ≡ b.micros → a ≡ b
same_totals a b l f e h y m = λ i. record { lines = l i; failed = f i; excluded = e i; hits = h i; bytes = y i; micros = m i }

-- how many of the lines pass a test
count_by-lines : (test : Outcome → Bool) (failed excluded : ℕ) → count_by test (lines_of failed excluded) ≡ failed * cond (test Failed) 1 0 + excluded * cond (test Excluded) 1 0
count_by-lines test failed excluded =
    let w = λ (o : Outcome). cond (test o) 1 0 in
    sum_by-append w (replicate failed Failed) (replicate excluded Excluded) ∙ λ i. sum_by-replicate w failed Failed i + sum_by-replicate w excluded Excluded i

length-lines : (failed excluded : ℕ) → length (lines_of failed excluded) ≡ failed + excluded
length-lines failed excluded = omega (arith, length-append (replicate failed Failed) (replicate excluded Excluded), length-replicate failed Failed, length-replicate excluded Excluded)

pub IsSumOf-lines : (failed excluded : ℕ) → IsSumOf (lines_of failed excluded) (lines_value failed excluded)
IsSumOf-lines failed excluded =
    let none = hits_of-lines failed excluded in
    record {
      totals = same_totals _ _ (sym (length-lines failed excluded))
          (omega (arith, count_by-lines is_failed failed excluded))
          (omega (arith, count_by-lines is_excluded failed excluded))
          (rw none) (rw none) (rw none);
      sums = λ key. rw none;
      pairs = λ key visitor. rw none (and_false-is _);
      present = λ key. rw none;
      ordered = IsInOrder-none;
    }
