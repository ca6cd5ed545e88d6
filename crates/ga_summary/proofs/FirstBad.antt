-- The first place where rows and totals break.
use Rattle.std.proofs.Common.{◌≡◌, ℕ, ◌+◌, ◌≤◌, inl, inr, List, length, take, take_all, sym, ap, subst, arith}
use Rattle.std.proofs.Math.Nat.{eq-or-lt_of_le}
use Rattle.std.proofs.lemmas.List.{length-map, take-map}
use Rattle.ga_base.specs.declared.counts.Totals.{Totals}
use Rattle.ga_summary.specs.declared.summary_parts.PartRow.{PartRow}
use Rattle.ga_summary.specs.SummaryParts.{IsFirstBad, RowsAreGood, row_of_part, rows_in}
use Rattle.ga_summary.specs.Sound.{IsSummary, TotalsAreSound}
use Rattle.ga_summary.specs.Steps.Passing.{GoodUpTo, IsFirstBadRow}
use Rattle.ga_summary.proofs.Lines.{IsSummary-lines}

-- no rows are good
pub good_none : (rows : List PartRow) (n : ℕ) → n ≤ 0 → RowsAreGood (rows_in (take n rows))
good_none rows n le =
    let none : n ≡ 0 = omega arith in
    let empty = IsSummary-lines 0 0 (omega arith) in
    rw none (record { ordered = empty.ordered; sound = empty.sound.rows })

pub good_more : (rows : List PartRow) (at : ℕ) → ((n : ℕ) → n ≤ at → RowsAreGood (rows_in (take n rows))) → RowsAreGood (rows_in (take (at + 1) rows)) → (n : ℕ) → n ≤ at + 1 → RowsAreGood (rows_in (take n rows))
good_more rows at before here n le = elim (eq-or-lt_of_le le) [
  | inl same ↦ rw same here
  | inr less ↦ before n (omega arith)
]

module _ (totals : Totals) (rows : List PartRow) where
  seen : (n : ℕ) → RowsAreGood (rows_in (take n rows)) → RowsAreGood (take n (rows_in rows))
  seen n good = subst RowsAreGood (sym (take-map row_of_part n rows)) good

  pub first_bad_at_row : (at : ℕ) → IsFirstBadRow rows at → IsFirstBad (record { totals = totals; rows = rows_in rows }) at
  first_bad_at_row at bad = record {
    before = λ n le. seen n (bad.before n le);
    here = inl (omega (arith, bad.within, length-map rows row_of_part), λ good. bad.here (subst RowsAreGood (take-map row_of_part (at + 1) rows) good));
  }

  module _ (good : GoodUpTo rows (length rows)) where
    pub all_good : RowsAreGood (rows_in rows)
    all_good = subst RowsAreGood (ap rows_in (take_all (length rows) rows (omega arith))) (good (length rows) (omega arith))

    pub a_summary : TotalsAreSound (record { totals = totals; rows = rows_in rows }) → IsSummary (record { totals = totals; rows = rows_in rows })
    a_summary sound = record { ordered = all_good.ordered; sound = record { rows = all_good.sound; totals = sound } }

    pub first_bad_at_end : (TotalsAreSound (record { totals = totals; rows = rows_in rows }) → ⊥) → IsFirstBad (record { totals = totals; rows = rows_in rows }) (length rows)
    first_bad_at_end unsound = record {
      before = λ n le. seen n (good n le);
      here = inr (sym (length-map rows row_of_part), unsound);
    }
