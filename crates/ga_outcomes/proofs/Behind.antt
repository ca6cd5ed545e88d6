-- Outcomes after others, and where a counter passes its limit.
use Rattle.std.proofs.Common.{◌≡◌, ℕ, Bool, List, [], ◌∷◌, ◌++◌, refl, ap, sym, ◌∙◌, subst, Option, Some, None, arith, cond, length, sum_by, add_assoc, add-zero, zero-add}
use Rattle.std.specs.Prelude.{count_by, ◌+◌}
use Rattle.std.proofs.lemmas.List.Sums.{sum_by-cons}
use Rattle.ga_base.specs.declared.counts.Counter.{Counter}
use Rattle.ga_base.specs.declared.counts.Totals.{Totals}
use Rattle.ga_summary.specs.Limits.{over, passes, or_else}
use Rattle.ga_summary.specs.Outcomes.{Hit, Outcome, Counted, hits_of, is_failed, is_excluded, totals_of}
use Rattle.ga_summary.specs.Outcomes as outcomes
use Rattle.ga_base.specs.Totals.{totals_plus}
use Rattle.ga_outcomes.specs.LineOutcomes.{HaveOutcomes, listed}
use Rattle.ga_outcomes.specs.declared.setup.Setup.{Setup}

abbrev pub six : ℕ → ℕ → ℕ → ℕ → ℕ → ℕ → Totals
six l f e h b m = record { lines = l; failed = f; excluded = e; hits = h; bytes = b; micros = m }

pub six-eq : (l f e h b m l' f' e' h' b' m' : ℕ) → l ≡ l' → f ≡ f' → e ≡ e' → h ≡ h' → b ≡ b' → m ≡ m' → six l f e h b m ≡ six l' f' e' h' b' m'
six-eq l f e h b m l' f' e' h' b' m' p q r s t u = cc

pub plus-assoc : (a b c : Totals) → totals_plus (totals_plus a b) c ≡ totals_plus a (totals_plus b c)
plus-assoc a b c = six-eq _ _ _ _ _ _ _ _ _ _ _ _ (add_assoc a.lines b.lines c.lines) (add_assoc a.failed b.failed c.failed) (add_assoc a.excluded b.excluded c.excluded)
    (add_assoc a.hits b.hits c.hits) (add_assoc a.bytes b.bytes c.bytes) (add_assoc a.micros b.micros c.micros)

count-more : (p : Outcome → Bool) (x : Outcome) (xs : List Outcome) → count_by p (x ∷ []) + count_by p xs ≡ count_by p (x ∷ xs)
count-more p x xs = omega (arith, sum_by-cons (λ (o : Outcome). cond (p o) 1 0) x xs, sum_by-cons (λ (o : Outcome). cond (p o) 1 0) x [])

sum-more : (f : Hit → ℕ) (hit : Hit) (hits : List Hit) → sum_by f (hit ∷ []) + sum_by f hits ≡ sum_by f (hit ∷ hits)
sum-more f hit hits = omega (arith, sum_by-cons f hit hits, sum_by-cons f hit [])

lines-more : (x : Outcome) (xs : List Outcome) → length (x ∷ []) + length xs ≡ length (x ∷ xs)
lines-more x xs = omega arith

-- the totals of an outcome and of those after it
pub totals-cons : (x : Outcome) (xs : List Outcome) → totals_plus (totals_of (x ∷ [])) (totals_of xs) ≡ totals_of (x ∷ xs)
totals-cons outcomes.Failed xs =
    six-eq _ _ _ _ _ _ _ _ _ _ _ _ (lines-more outcomes.Failed xs) (count-more is_failed outcomes.Failed xs) (count-more is_excluded outcomes.Failed xs)
    (zero-add (length (hits_of xs))) (zero-add (sum_by (λ (h : Hit). h.bytes) (hits_of xs))) (zero-add (sum_by (λ (h : Hit). h.micros) (hits_of xs)))
totals-cons outcomes.Excluded xs =
    six-eq _ _ _ _ _ _ _ _ _ _ _ _ (lines-more outcomes.Excluded xs) (count-more is_failed outcomes.Excluded xs) (count-more is_excluded outcomes.Excluded xs)
    (zero-add (length (hits_of xs))) (zero-add (sum_by (λ (h : Hit). h.bytes) (hits_of xs))) (zero-add (sum_by (λ (h : Hit). h.micros) (hits_of xs)))
totals-cons (Counted hit) xs =
    six-eq _ _ _ _ _ _ _ _ _ _ _ _ (lines-more (Counted hit) xs) (count-more is_failed (Counted hit) xs) (count-more is_excluded (Counted hit) xs)
    (omega arith) (sum-more (λ (h : Hit). h.bytes) hit (hits_of xs)) (sum-more (λ (h : Hit). h.micros) hit (hits_of xs))

pub or_else-none : {A : Type 0} (a b : Option A) → or_else a b ≡ None → (a ≡ None) × (b ≡ None)
or_else-none None b e = (refl, e)
or_else-none (Some x) b e = absurd (cc e)

-- where nothing is over along some outcomes, the first that is over after them is the first of the others
pub over-append : (t : Totals) (xs ys : List Outcome) → over t xs ≡ None → over t (xs ++ ys) ≡ over (totals_plus t (totals_of xs)) ys
over-append t [] ys e =
    let same : totals_plus t (totals_of []) ≡ t =
    six-eq _ _ _ _ _ _ _ _ _ _ _ _ (add-zero t.lines) (add-zero t.failed) (add-zero t.excluded) (add-zero t.hits) (add-zero t.bytes) (add-zero t.micros) in
    ap (λ (u : Totals). over u ys) (sym same)
over-append t (x ∷ xs) ys e =
    let more : Totals = totals_plus t (totals_of (x ∷ [])) in
    let parts = or_else-none (passes more) (over more xs) e in
    let rest = over-append more xs ys parts.1 in
    let sums : totals_plus more (totals_of xs) ≡ totals_plus t (totals_of (x ∷ xs)) =
    plus-assoc t (totals_of (x ∷ [])) (totals_of xs) ∙ ap (λ (u : Totals). totals_plus t u) (totals-cons x xs) in
    ap (λ (o : Option (Counter × ℕ)). or_else o (over more (xs ++ ys))) parts.0 ∙ rest ∙ ap (λ (u : Totals). over u ys) sums

-- lines before and after have outcomes before and after
pub have_outcomes-append : (setup : Setup) (xs ys : List (List ℕ)) (os ps : List Outcome) → HaveOutcomes setup xs os → HaveOutcomes setup ys ps → HaveOutcomes setup (xs ++ ys) (os ++ ps)
have_outcomes-append setup [] ys os ps h k = subst (λ (o : List Outcome). HaveOutcomes setup ys (o ++ ps)) (sym h) k
have_outcomes-append setup (x ∷ xs) ys os ps (first, rest, comes, h, is) k =
    (first, rest ++ ps, comes, have_outcomes-append setup xs ys rest ps h k, ap (λ (o : List Outcome). o ++ ps) is ∙ listed-append first rest ps)
  where
    listed-append : (first : Option Outcome) (rest ps : List Outcome) → listed first rest ++ ps ≡ listed first (rest ++ ps)
    listed-append None rest ps = refl
    listed-append (Some o) rest ps = refl
