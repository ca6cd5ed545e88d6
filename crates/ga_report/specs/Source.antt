-- What a report is made of: the totals over all lines, and what was counted under each key.
use Rattle.std.specs.Prelude.{◌≡◌, ℕ, List}
use Rattle.std.specs.List.Sorted.{IsPermutation}
use Rattle.ga_base.specs.declared.key.Key.{Key}
use Rattle.ga_base.specs.declared.counts.Sums.{Sums}
use Rattle.ga_base.specs.declared.counts.Totals.{Totals}

-- a key, with its sums and the number of its visitors
pub record SourceRow : Type 0 where
  pub key : Key
  pub sums : Sums
  pub visitors : ℕ

pub record SourceValue : Type 0 where
  pub totals : Totals
  pub rows : List SourceRow

-- the same totals, and the same rows in any order
pub record SameSource (a b : SourceValue) : Type 0 where
  pub totals : a.totals ≡ b.totals
  pub rows : IsPermutation a.rows b.rows
