-- What fits under the limits, and what passes them.
use Rattle.std.proofs.Common.{◌≡◌, ◌≤◌, ◌<◌, ℕ, true, false, refl, sym, ◌∙◌, Option, Some, None, arith}
use Rattle.std.specs.Prelude.{nat_lt}
use Rattle.std.proofs.lemmas.Bool.Decides.{nat_tests}
use Rattle.ga_base.specs.declared.counts.Counter.{Counter}
use Rattle.ga_base.specs.declared.counts.Counter.TheVariants.{Lines, Bytes, Micros}
use Rattle.ga_base.specs.declared.counts.TheConstants.{LIMIT}
use Rattle.ga_base.specs.declared.counts.Totals.{Totals}
use Rattle.ga_summary.specs.Limits.{passes}
use Rattle.ga_base.specs.Totals.{totals_plus, TotalsFit}

above : (n : ℕ) → LIMIT < n → nat_lt LIMIT n ≡ true
above n h = grind (arith, nat_tests)

below : (n : ℕ) → n ≤ LIMIT → nat_lt LIMIT n ≡ false
below n h = grind (arith, nat_tests)

within : (n : ℕ) → nat_lt LIMIT n ≡ false → n ≤ LIMIT
within n h = grind (arith, nat_tests)

-- the first of three counters that is above its limit
pub no-counter : (t : Totals) → t.lines ≤ LIMIT → t.bytes ≤ LIMIT → t.micros ≤ LIMIT → passes t ≡ None
no-counter t l b m = rw (below t.lines l, below t.bytes b, below t.micros m) refl

pub by-lines : (t : Totals) → LIMIT < t.lines → passes t ≡ Some (Lines, t.lines)
by-lines t l = rw (above t.lines l) refl

pub by-bytes : (t : Totals) → t.lines ≤ LIMIT → LIMIT < t.bytes → passes t ≡ Some (Bytes, t.bytes)
by-bytes t l b = rw (below t.lines l, above t.bytes b) refl

pub by-micros : (t : Totals) → t.lines ≤ LIMIT → t.bytes ≤ LIMIT → LIMIT < t.micros → passes t ≡ Some (Micros, t.micros)
by-micros t l b m = rw (below t.lines l, below t.bytes b, above t.micros m) refl

-- where none is above, all are within
pub all-within : (t : Totals) → passes t ≡ None → TotalsFit t
all-within t e = grind (arith, nat_tests, e)

-- where nothing is full, less isn't
pub fits-less : (start t more : Totals) (which : Counter) (total : ℕ) → passes (totals_plus (totals_plus start t) more) ≡ None
    → passes (totals_plus t more) ≡ Some (which, total) → ⊥
fits-less start t more which total fits full =
    let all = all-within (totals_plus (totals_plus start t) more) fits in
    let none = no-counter (totals_plus t more) (omega (arith, all.lines)) (omega (arith, all.bytes)) (omega (arith, all.micros)) in
    absurd (cc (sym none ∙ full))

-- the same of equal totals
pub fits-same : (start a t b m : Totals) (o : Option (Counter × ℕ)) → a ≡ t → b ≡ m → passes (totals_plus (totals_plus start a) b) ≡ o
    → passes (totals_plus (totals_plus start t) m) ≡ o
fits-same start a t b m o e h same = rw (← e, ← h) same
