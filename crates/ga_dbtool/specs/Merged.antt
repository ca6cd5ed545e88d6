-- Two databases merged.
use Rattle.std.specs.Prelude.{◌≡◌, ◌≢◌, ◌⊎◌, ℕ, ◌+◌, ◌<◌, true, if◌then◌else◌, List, ◌++◌, Some, None, unwrap_or, slice_get}
use Rattle.ga_base.specs.Totals.{totals_plus}
use Rattle.ga_base.specs.declared.counts.Counter.{Counter}
use Rattle.ga_base.specs.declared.counts.Counter.TheVariants.{Generations}
use Rattle.ga_base.specs.declared.counts.TheConstants.{LIMIT}
use Rattle.ga_codec.specs.Values.{EntryValue}
use Rattle.ga_store.specs.Commit.{adds_record, passes_generations}
use Rattle.ga_store.specs.Database.{DbValue}
use Rattle.ga_store.specs.declared.mode.Mode.TheVariants.{Append}
use Rattle.ga_summary.specs.LastDays.{trimmed}
use Rattle.ga_summary.specs.Limits.{passes}
use Rattle.ga_summary.specs.SummaryRows.{SummaryValue}
use Rattle.ga_summary.specs.Sums.{IsMerged}

-- ---- what they make

-- how many of the last days both together keep: as many as the first one, or the second one where the first doesn't say it
abbrev pub keep_of : DbValue → DbValue → ℕ
keep_of a b = unwrap_or a.keep (unwrap_or b.keep 0)

-- the last days of both together, and the entries of the first followed by those of the second
pub record IsMergedDb (a b new : DbValue) : Type 0 where
  pub both : SummaryValue
  pub merged : IsMerged a.summary b.summary both
  pub summary : new.summary ≡ trimmed (keep_of a b) both
  pub entries : new.entries ≡ a.entries ++ b.entries
  pub number : new.keep ≡ Some (keep_of a b)

-- it comes after the first one: as one record more, where that has a side that says how many days it keeps and has room for one,
-- and else as the next generation, without records
abbrev pub generation_after : DbValue → ℕ
generation_after a = if adds_record Append a then a.generation else a.generation + 1

abbrev pub records_after : DbValue → ℕ
records_after a = if adds_record Append a then a.records + 1 else 0

pub record ComesAfter (a new : DbValue) : Type 0 where
  pub generation : new.generation ≡ generation_after a
  pub records : new.records ≡ records_after a

-- ---- why they can't be merged

-- both say how many days they keep, and not the same
pub record Differ (a b : DbValue) (stored given : ℕ) : Type 0 where
  pub first : a.keep ≡ Some stored
  pub second : b.keep ≡ Some given
  pub differ : stored ≢ given

abbrev pub Agree : DbValue → DbValue → Type 0
Agree a b = (stored given : ℕ) → ¬ Differ a b stored given

-- both entries are of one log: the digests are of equally many first bytes, and equal
pub record AreOfOneLog (x y : EntryValue) : Type 0 where
  pub lead : x.lead ≡ y.lead
  pub digest : x.digest ≡ y.digest

-- the entries at these places are of one log
abbrev pub ShareAt : List EntryValue → List EntryValue → ℕ → ℕ → Type 0
ShareAt xs ys left right = (x : EntryValue) × (y : EntryValue) × (slice_get xs left ≡ Some x) × (slice_get ys right ≡ Some y) × AreOfOneLog x y

abbrev pub ShareNone : List EntryValue → List EntryValue → Type 0
ShareNone xs ys = (left right : ℕ) → ¬ ShareAt xs ys left right

-- the first entry of the first list that is in the second, and the first such there
pub record ShareFirst (xs ys : List EntryValue) (left right : ℕ) : Type 0 where
  pub here : ShareAt xs ys left right
  pub least_left : (l r : ℕ) → ShareAt xs ys l r → ¬ (l < left)
  pub least_right : (r : ℕ) → ShareAt xs ys left r → ¬ (r < right)

-- both together pass a limit, or the new generation does
abbrev pub Overflow : DbValue → DbValue → Counter → ℕ → Type 0
Overflow a b which total = let sum = passes (totals_plus a.summary.totals b.summary.totals) in
    (sum ≡ Some (which, total))
    ⊎ ((sum ≡ None) × (passes_generations Append a ≡ true) × (which ≡ Generations) × (total ≡ LIMIT + 1))

-- databases that can be merged
pub record CanMerge (a b : DbValue) : Type 0 where
  pub agree : Agree a b
  pub share_none : ShareNone a.entries b.entries
