-- What is counted of two lists of outcomes, one after the other.
use Rattle.std.proofs.Common.{◌≡◌, ℕ, ◌+◌, cond, ◌||◌, ◌++◌, List, [], ◌∷◌, filter, nat_lt, max, refl, sym, ap, ◌∙◌, arith, length-append}
use Rattle.std.specs.List.{list_any}
use Rattle.std.proofs.lemmas.Bool.Decides.{nat_tests}
use Rattle.std.proofs.lemmas.List.Folds.{list_any-append}
use Rattle.std.proofs.lemmas.List.Elements.{filter-append}
use Rattle.std.proofs.lemmas.List.Sums.{sum_by-append}
use Rattle.ga_base.specs.declared.key.Key.{Key}
use Rattle.ga_base.specs.declared.key.Visitor.{Visitor}
use Rattle.ga_base.specs.declared.counts.Sums.{Sums}
use Rattle.ga_base.specs.declared.counts.Totals.{Totals}
use Rattle.ga_summary.specs.Outcomes.{Hit, Outcome, Failed, Excluded, Counted, hits_of, hits_at, has_key, is_by, is_failed, is_excluded, greatest_time, sums_of, has_visit, totals_of}
use Rattle.ga_summary.specs.SummaryRows.{SummaryValue, sums_plus}
use Rattle.ga_base.specs.Totals.{totals_plus}
use Rattle.ga_summary.specs.Sums.{IsSumOf, IsMerged}
use Rattle.ga_summary.proofs.Lines.{same_totals}
use Rattle.ga_summary.proofs.Merging.{same_sums}

greatest_time-append : (xs ys : List Hit) → greatest_time (xs ++ ys) ≡ max (greatest_time xs) (greatest_time ys)
greatest_time-append [] ys = omega arith
greatest_time-append (x ∷ xs) ys = omega (arith, greatest_time-append xs ys)

hits_of-append : (xs ys : List Outcome) → hits_of (xs ++ ys) ≡ hits_of xs ++ hits_of ys
hits_of-append [] ys = refl
hits_of-append (Failed ∷ xs) ys = hits_of-append xs ys
hits_of-append (Excluded ∷ xs) ys = hits_of-append xs ys
hits_of-append (Counted hit ∷ xs) ys = ap (λ (l : List Hit). hit ∷ l) (hits_of-append xs ys)

hits_at-append : (key : Key) (xs ys : List Outcome) → hits_at key (xs ++ ys) ≡ hits_at key xs ++ hits_at key ys
hits_at-append key xs ys = ap (filter (has_key key)) (hits_of-append xs ys) ∙ filter-append (has_key key) (hits_of xs) (hits_of ys)

pub sums_of-append : (key : Key) (xs ys : List Outcome) → sums_of key (xs ++ ys) ≡ sums_plus (sums_of key xs) (sums_of key ys)
sums_of-append key xs ys =
    let u = hits_at key xs in
    let v = hits_at key ys in
    rw (hits_at-append key xs ys) (same_sums _ _ (length-append u v) (sum_by-append (λ (hit : Hit). hit.bytes) u v) (sum_by-append (λ (hit : Hit). hit.micros) u v) (greatest_time-append u v))

pub has_visit-append : (key : Key) (visitor : Visitor) (xs ys : List Outcome) → has_visit key visitor (xs ++ ys) ≡ (has_visit key visitor xs || has_visit key visitor ys)
has_visit-append key visitor xs ys = ap (list_any (λ (hit : Hit). is_by visitor hit.visitor)) (hits_at-append key xs ys) ∙ list_any-append (λ (hit : Hit). is_by visitor hit.visitor) (hits_at key xs) (hits_at key ys)

pub totals_of-append : (xs ys : List Outcome) → totals_of (xs ++ ys) ≡ totals_plus (totals_of xs) (totals_of ys)
totals_of-append xs ys =
    let u = hits_of xs in
    let v = hits_of ys in
    rw (hits_of-append xs ys) (same_totals _ _ (length-append xs ys)
    (sum_by-append (λ (o : Outcome). cond (is_failed o) 1 0) xs ys)
    (sum_by-append (λ (o : Outcome). cond (is_excluded o) 1 0) xs ys)
    (length-append u v) (sum_by-append (λ (hit : Hit). hit.bytes) u v) (sum_by-append (λ (hit : Hit). hit.micros) u v))

some_of_sum : (m n : ℕ) → (nat_lt 0 m || nat_lt 0 n) ≡ nat_lt 0 (m + n)
some_of_sum m n = grind (arith, nat_tests)

-- the sums of two lists merged are the sum of one list after the other
pub IsSumOf-append : (xs ys : List Outcome) (a b s : SummaryValue) → IsSumOf xs a → IsSumOf ys b → IsMerged a b s → IsSumOf (xs ++ ys) s
IsSumOf-append xs ys a b s x y m = record {
  totals = rw (m.totals, x.totals, y.totals) (sym (totals_of-append xs ys));
  sums = λ key. rw (m.sums key, x.sums key, y.sums key) (sym (sums_of-append key xs ys));
  pairs = λ key visitor. rw (m.pairs key visitor, x.pairs key visitor, y.pairs key visitor) (sym (has_visit-append key visitor xs ys));
  present = λ key. rw (m.present key, x.present key, y.present key, some_of_sum) (ap (λ (v : Sums). nat_lt 0 v.hits) (sym (sums_of-append key xs ys)));
  ordered = m.ordered;
}

-- a sum may represent another sum of the same outcomes
pub IsMerged-same : (xs : List Outcome) (a b c s : SummaryValue) → IsSumOf xs b → IsSumOf xs c → IsMerged a b s → IsMerged a c s
IsMerged-same xs a b c s x y m = record {
  totals = m.totals ∙ ap (λ (t : Totals). totals_plus a.totals t) (x.totals ∙ sym y.totals);
  sums = λ key. rw (m.sums key, x.sums key, y.sums key);
  pairs = λ key visitor. rw (m.pairs key visitor, x.pairs key visitor, y.pairs key visitor);
  present = λ key. rw (m.present key, x.present key, y.present key);
  ordered = m.ordered;
}
