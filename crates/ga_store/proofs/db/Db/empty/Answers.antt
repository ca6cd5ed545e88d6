use Rattle.std.proofs.Common.{◌≡◌, ◌&&◌, Bool, true, false, [], None, map, refl, arith}
use Rattle.std.specs.List.Sorted.{IsStrictlySortedBy}
use Rattle.ga_summary.specs.SummaryRows.{IsInOrder}
use Rattle.ga_summary.specs.Sums.{IsSumOf}
use Rattle.ga_codec.specs.Values.{entry_value}
use Rattle.ga_store.specs.Database.{no_summary}
use Rattle.ga_store.proofs.db.Db.empty.Goals as goal

and-false : (b : Bool) → (b && false) ≡ false
and-false true = refl
and-false false = refl

none-in-order : IsInOrder []
unfolding IsStrictlySortedBy
none-in-order = record { keys = tt; names = λ k d lt. absurd (omega arith) }

sum-of-none : IsSumOf [] no_summary
sum-of-none = record {
  totals = refl;
  sums = λ key. refl;
  pairs = λ key visitor. and-false _;
  present = λ key. refl;
  ordered = none-in-order;
}

pub returns : goal.returns
returns c =
    let summary = c.one_sum.ensures [] c.empty.result no_summary c.empty.ensures sum-of-none in
    let entries = c.new.ensures in
    λ i. record { summary = summary i; entries = map entry_value (entries i); keep = None; generation = 0; side = None; records = 0; slot = 0 }
