-- Lists of outcomes of which the same is counted, and the outcomes of lists of lines.
use Rattle.std.proofs.Common.{◌≡◌, ◌||◌, ℕ, max, List, [], ◌∷◌, ◌++◌, refl, sym, ap, ◌∙◌, subst, arith}
use Rattle.std.proofs.Math.Nat.{add_comm}
use Rattle.std.proofs.Math.Bool.{or_comm}
use Rattle.std.specs.List.{All}
use Rattle.std.proofs.lemmas.List.Elements.{All-append}
use Rattle.ga_base.specs.declared.counts.Sums.{Sums}
use Rattle.ga_base.specs.declared.counts.Totals.{Totals}
use Rattle.ga_summary.specs.Outcomes.{Hit, Outcome, Failed, Excluded, Counted, hits_of, sums_of, has_visit, totals_of}
use Rattle.ga_summary.specs.SummaryRows.{sums_plus}
use Rattle.ga_base.specs.Totals.{totals_plus}
use Rattle.ga_summary.specs.Sound.{AllCountable, IsCountable}
use Rattle.ga_summary.proofs.Appends.{sums_of-append, has_visit-append, totals_of-append}
use Rattle.ga_workers.specs.Together.{AreAlike}

pub alike-refl : (xs : List Outcome) → AreAlike xs xs
alike-refl xs = record { totals = refl; sums = λ key. refl; visits = λ key visitor. refl }

pub alike-trans : (xs ys zs : List Outcome) → AreAlike xs ys → AreAlike ys zs → AreAlike xs zs
alike-trans xs ys zs a b = record {
  totals = a.totals ∙ b.totals;
  sums = λ key. a.sums key ∙ b.sums key;
  visits = λ key visitor. a.visits key visitor ∙ b.visits key visitor;
}

-- after and before the same
pub alike-append : (xs xs' ys ys' : List Outcome) → AreAlike xs xs' → AreAlike ys ys' → AreAlike (xs ++ ys) (xs' ++ ys')
alike-append xs xs' ys ys' a b = record {
  totals = totals_of-append xs ys ∙ (λ i. totals_plus (a.totals i) (b.totals i)) ∙ sym (totals_of-append xs' ys');
  sums = λ key. sums_of-append key xs ys ∙ (λ i. sums_plus (a.sums key i) (b.sums key i)) ∙ sym (sums_of-append key xs' ys');
  visits = λ key visitor. has_visit-append key visitor xs ys ∙ (λ i. a.visits key visitor i || b.visits key visitor i) ∙ sym (has_visit-append key visitor xs' ys');
}

totals_plus-comm : (a b : Totals) → totals_plus a b ≡ totals_plus b a
totals_plus-comm a b = λ i. record {
  lines = add_comm a.lines b.lines i;
  failed = add_comm a.failed b.failed i;
  excluded = add_comm a.excluded b.excluded i;
  hits = add_comm a.hits b.hits i;
  bytes = add_comm a.bytes b.bytes i;
  micros = add_comm a.micros b.micros i;
}

max-comm : (m n : ℕ) → max m n ≡ max n m
max-comm m n = omega arith

sums_plus-comm : (a b : Sums) → sums_plus a b ≡ sums_plus b a
sums_plus-comm a b = λ i. record {
  hits = add_comm a.hits b.hits i;
  bytes = add_comm a.bytes b.bytes i;
  micros = add_comm a.micros b.micros i;
  max_micros = max-comm a.max_micros b.max_micros i;
}

-- in whichever order
pub alike-swap : (xs ys : List Outcome) → AreAlike (xs ++ ys) (ys ++ xs)
alike-swap xs ys = record {
  totals = totals_of-append xs ys ∙ totals_plus-comm (totals_of xs) (totals_of ys) ∙ sym (totals_of-append ys xs);
  sums = λ key. sums_of-append key xs ys ∙ sums_plus-comm (sums_of key xs) (sums_of key ys) ∙ sym (sums_of-append key ys xs);
  visits = λ key visitor. has_visit-append key visitor xs ys ∙ or_comm (has_visit key visitor xs) (has_visit key visitor ys) ∙ sym (has_visit-append key visitor ys xs);
}

pub alike-same : (xs ys : List Outcome) → xs ≡ ys → AreAlike xs ys
alike-same xs ys e = subst (λ (zs : List Outcome). AreAlike xs zs) e (alike-refl xs)

hits_of-append : (xs ys : List Outcome) → hits_of (xs ++ ys) ≡ hits_of xs ++ hits_of ys
hits_of-append [] ys = refl
hits_of-append (Failed ∷ xs) ys = hits_of-append xs ys
hits_of-append (Excluded ∷ xs) ys = hits_of-append xs ys
hits_of-append (Counted hit ∷ xs) ys = ap (λ (l : List Hit). hit ∷ l) (hits_of-append xs ys)

pub countable-append : (xs ys : List Outcome) → AllCountable xs → AllCountable ys → AllCountable (xs ++ ys)
countable-append xs ys a b =
    subst (λ (hits : List Hit). All (λ hit. (date : ℕ) × IsCountable date hit) hits) (sym (hits_of-append xs ys))
    (All-append (λ (hit : Hit). (date : ℕ) × IsCountable date hit) (hits_of xs) (hits_of ys) a b)
