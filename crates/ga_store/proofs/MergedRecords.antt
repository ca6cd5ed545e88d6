-- Records that are merged together before they are merged into a summary.
use Rattle.std.proofs.Common.{◌≡◌, ℕ, ◌≤◌, ◌||◌, Bool, true, false, Option, Some, None, IfSome, is_some, refl, sym, ap, ◌∙◌, subst, arith}
use Rattle.std.specs.Prelude.{◌↔◌, IsTrue, nat_lt}
use Rattle.std.proofs.lemmas.Bool.Decides.{nat_tests}
use Rattle.ga_base.specs.declared.counts.Sums.{Sums}
use Rattle.ga_base.specs.declared.counts.TheConstants.{LIMIT}
use Rattle.ga_base.specs.declared.counts.Totals.{Totals}
use Rattle.ga_base.specs.Totals.{TotalsFit, totals_plus}
use Rattle.ga_summary.specs.Limits.{passes}
use Rattle.ga_summary.specs.Steps.Joined.{merged_value}
use Rattle.ga_summary.specs.SummaryRows.{IsInOrder, SummaryValue, has_pair, row_at, sums_at, sums_plus}
use Rattle.ga_summary.specs.Sums.{IsMerged}
use Rattle.ga_summary.proofs.Merging.{same_sums}
use Rattle.ga_summary.proofs.Soundness.{IsMerged-merged_value}
use Rattle.ga_store.specs.Steps.Records.{IsTogether, with_apart}

-- ---- totals and limits

same-totals : (a b : Totals) → a.lines ≡ b.lines → a.failed ≡ b.failed → a.excluded ≡ b.excluded → a.hits ≡ b.hits → a.bytes ≡ b.bytes → a.micros ≡ b.micros → a ≡ b
same-totals a b l f e h y m = λ i. record { lines = l i; failed = f i; excluded = e i; hits = h i; bytes = y i; micros = m i }

pub totals-together : (a b c : Totals) → totals_plus a (totals_plus b c) ≡ totals_plus (totals_plus a b) c
totals-together a b c = same-totals _ _ (omega arith) (omega arith) (omega arith) (omega arith) (omega arith) (omega arith)

below : (n : ℕ) → n ≤ LIMIT → nat_lt LIMIT n ≡ false
below n h = grind (arith, nat_tests)

pub none-passes : (t : Totals) → TotalsFit t → passes t ≡ None
none-passes t fit = rw (below t.lines fit.lines, below t.bytes fit.bytes, below t.micros fit.micros) refl

pub all-within : (t : Totals) → passes t ≡ None → TotalsFit t
all-within t e = grind (arith, nat_tests, e)

-- whether totals fit says whether they pass no limit
pub room-says : (fits : Bool) (t all : Totals) → t ≡ all → (IsTrue fits ↔ TotalsFit t) → IsTrue fits ↔ (passes all ≡ None)
room-says fits t all is says = (
  λ e. subst (λ (u : Totals). passes u ≡ None) is (none-passes t (says.0 e)),
  λ e. says.1 (all-within t (subst (λ (u : Totals). passes u ≡ None) (sym is) e)),
)

-- what fits with others fits without them
pub fit-less : (start t more : Totals) → TotalsFit (totals_plus (totals_plus start t) more) → TotalsFit (totals_plus t more)
fit-less start t more fit = record { lines = omega (arith, fit.lines); bytes = omega (arith, fit.bytes); micros = omega (arith, fit.micros) }

-- ---- merged

sums-together : (a b c : Sums) → sums_plus a (sums_plus b c) ≡ sums_plus (sums_plus a b) c
sums-together a b c = same_sums _ _ (omega arith) (omega arith) (omega arith) (omega arith)

or-together : (a b c : Bool) → (a || (b || c)) ≡ ((a || b) || c)
or-together true b c = refl
or-together false b c = refl

three-bools : (abc ab bc a b c : Bool) → abc ≡ (a || bc) → bc ≡ (b || c) → ab ≡ (a || b) → abc ≡ (ab || c)
three-bools abc ab bc a b c all last first =
    all ∙ ap (λ (t : Bool). a || t) last ∙ or-together a b c ∙ ap (λ (t : Bool). t || c) (sym first)

three-sums : (abc ab bc a b c : Sums) → abc ≡ sums_plus a bc → bc ≡ sums_plus b c → ab ≡ sums_plus a b → abc ≡ sums_plus ab c
three-sums abc ab bc a b c all last first =
    all ∙ ap (λ (t : Sums). sums_plus a t) last ∙ sums-together a b c ∙ ap (λ (t : Sums). sums_plus t c) (sym first)

three-totals : (abc ab bc a b c : Totals) → abc ≡ totals_plus a bc → bc ≡ totals_plus b c → ab ≡ totals_plus a b → abc ≡ totals_plus ab c
three-totals abc ab bc a b c all last first =
    all ∙ ap (λ (t : Totals). totals_plus a t) last ∙ totals-together a b c ∙ ap (λ (t : Totals). totals_plus t c) (sym first)

-- a summary with what two others have together is what it is with the first, with what the second has
pub merged-together : (a b c ab bc abc : SummaryValue) → IsMerged a b ab → IsMerged b c bc → IsMerged a bc abc → IsMerged ab c abc
merged-together a b c ab bc abc first last all = record {
  totals = three-totals abc.totals ab.totals bc.totals a.totals b.totals c.totals all.totals last.totals first.totals;
  sums = λ key. three-sums (sums_at abc.rows key) (sums_at ab.rows key) (sums_at bc.rows key) (sums_at a.rows key) (sums_at b.rows key) (sums_at c.rows key) (all.sums key) (last.sums key) (first.sums key);
  pairs = λ key visitor. three-bools (has_pair abc.rows key visitor) (has_pair ab.rows key visitor) (has_pair bc.rows key visitor) (has_pair a.rows key visitor) (has_pair b.rows key visitor) (has_pair c.rows key visitor) (all.pairs key visitor) (last.pairs key visitor) (first.pairs key visitor);
  present = λ key. three-bools (is_some (row_at abc.rows key)) (is_some (row_at ab.rows key)) (is_some (row_at bc.rows key)) (is_some (row_at a.rows key)) (is_some (row_at b.rows key)) (is_some (row_at c.rows key)) (all.present key) (last.present key) (first.present key);
  ordered = all.ordered;
}

-- ---- kept apart

-- what is together is merged with the summary as each after the other
pub kept-apart : (s : SummaryValue) (apart : Option SummaryValue) (more all : SummaryValue) → IsInOrder s.rows → IsInOrder more.rows → IsTogether apart more all
    → IsMerged (with_apart s apart) more (merged_value s all)
kept-apart s None more all ordered ordered-more is = subst (λ (v : SummaryValue). IsMerged s more (merged_value s v)) (sym is) (IsMerged-merged_value s more ordered ordered-more)
kept-apart s (Some apart) more all ordered ordered-more (ordered-apart, both) =
    merged-together s apart more (merged_value s apart) all (merged_value s all) (IsMerged-merged_value s apart ordered ordered-apart) both (IsMerged-merged_value s all ordered both.ordered)

-- it fits
pub fits-apart : (s : SummaryValue) (apart : Option SummaryValue) (more all : SummaryValue) → passes (totals_plus (with_apart s apart).totals more.totals) ≡ None → IsTogether apart more all
    → TotalsFit (totals_plus s.totals all.totals)
fits-apart s None more all room is = subst (λ (v : SummaryValue). TotalsFit (totals_plus s.totals v.totals)) (sym is) (all-within (totals_plus s.totals more.totals) room)
fits-apart s (Some apart) more all room (ordered, both) =
    subst (λ (t : Totals). TotalsFit (totals_plus s.totals t)) (sym both.totals)
    (subst TotalsFit (sym (totals-together s.totals apart.totals more.totals)) (all-within (totals_plus (totals_plus s.totals apart.totals) more.totals) room))

pub room-together : (s : SummaryValue) (apart : Option SummaryValue) (more : SummaryValue) → passes (totals_plus (with_apart s apart).totals more.totals) ≡ None
    → IfSome apart (λ one. TotalsFit (totals_plus one.totals more.totals))
room-together s None more room = tt
room-together s (Some apart) more room = fit-less s.totals apart.totals more.totals (all-within (totals_plus (totals_plus s.totals apart.totals) more.totals) room)
