-- The first counter that passes its limit along lines.
use Rattle.std.proofs.Common.{◌≡◌, ℕ, List, [], ◌∷◌, ◌++◌, Option, Some, None, refl, sym, ap, ◌∙◌, subst, arith, append_assoc, append-nil, add-zero}
use Rattle.std.specs.Option.{option_map}
use Rattle.std.proofs.lemmas.Bool.Decides.{nat_tests}
use Rattle.ga_base.specs.declared.counts.Counter.{Counter}
use Rattle.ga_base.specs.declared.counts.Totals.{Totals}
use Rattle.ga_workers.specs.Steps.CounterLimits.{WeighsLine, weighed, weight_in, weight_of, weight_plus}
use Rattle.ga_workers.specs.declared.counter_limits.Weight.{Weight}
use Rattle.ga_outcomes.proofs.Behind.{have_outcomes-append, over-append, plus-assoc}
use Rattle.ga_summary.specs.Limits.{or_else, over, passes}
use Rattle.ga_summary.specs.Outcomes.{Outcome, totals_of}
use Rattle.ga_base.specs.Totals.{totals_plus, TotalsFit}
use Rattle.ga_summary.proofs.Appends.{totals_of-append}
use Rattle.ga_outcomes.specs.LineOutcomes.{HaveOutcomes, HasOutcome, FillsAmong, listed}
use Rattle.ga_outcomes.specs.declared.setup.Setup.{Setup}

pub plus-none : (a : Totals) → totals_plus a (totals_of []) ≡ a
plus-none a = λ i. record {
  lines = add-zero a.lines i;
  failed = add-zero a.failed i;
  excluded = add-zero a.excluded i;
  hits = add-zero a.hits i;
  bytes = add-zero a.bytes i;
  micros = add-zero a.micros i;
}

-- an outcome and those after it
totals-cons : (t : Totals) (x : Outcome) (xs : List Outcome) → totals_plus (totals_plus t (totals_of (x ∷ []))) (totals_of xs) ≡ totals_plus t (totals_of (x ∷ xs))
totals-cons t x xs = plus-assoc t (totals_of (x ∷ [])) (totals_of xs) ∙ ap (totals_plus t) (sym (totals_of-append (x ∷ []) xs))

fits-none : (t : Totals) → TotalsFit t → passes t ≡ None
fits-none t fit = grind (arith, nat_tests)

-- where all outcomes fit, nothing is over along them
pub over-none : (t : Totals) (xs : List Outcome) → TotalsFit (totals_plus t (totals_of xs)) → over t xs ≡ None
over-none t [] fit = refl
over-none t (x ∷ xs) fit =
    let more : Totals = totals_plus t (totals_of (x ∷ [])) in
    let all : TotalsFit (totals_plus more (totals_of xs)) = subst TotalsFit (sym (totals-cons t x xs)) fit in
    let now : TotalsFit more = record { lines = omega (arith, all.lines); bytes = omega (arith, all.bytes); micros = omega (arith, all.micros) } in
    ap (λ (o : Option (Counter × ℕ)). or_else o (over more xs)) (fits-none more now) ∙ over-none more xs all

-- no counter passed its limit along the lines up to those that are left
pub record PassedUpTo (setup : Setup) (before : Totals) (all rest : List (List ℕ)) (w : Weight) : Type 0 where
  pub seen : List (List ℕ)
  pub split : all ≡ seen ++ rest
  pub outcomes : List Outcome
  pub have_outcomes : HaveOutcomes setup seen outcomes
  pub none : over before outcomes ≡ None
  pub weight : w ≡ weight_in (totals_plus before (totals_of outcomes))

pub passed-none : (setup : Setup) (before : Totals) (all : List (List ℕ)) (w : Weight) → w ≡ weight_in before → PassedUpTo setup before all all w
passed-none setup before all w is = record {
  seen = [];
  split = refl;
  outcomes = [];
  have_outcomes = refl;
  none = refl;
  weight = is ∙ ap weight_in (sym (plus-none before));
}

have_outcomes-one : (setup : Setup) (line : List ℕ) (outcome : Option Outcome) → HasOutcome setup line outcome → HaveOutcomes setup (line ∷ []) (listed outcome [])
have_outcomes-one setup line outcome comes = (outcome, [], comes, refl, refl)

module _ (setup : Setup) (before : Totals) (all rest next : List (List ℕ)) (line : List ℕ) (w : Weight) (passed : PassedUpTo setup before all rest w) (is : rest ≡ line ∷ next) where
  split-more : all ≡ (passed.seen ++ line ∷ []) ++ next
  split-more = passed.split ∙ ap (λ (x : List (List ℕ)). passed.seen ++ x) is ∙ sym (append_assoc passed.seen (line ∷ []) next)

  have_outcomes-more : (outcome : Option Outcome) → HasOutcome setup line outcome → HaveOutcomes setup (passed.seen ++ line ∷ []) (passed.outcomes ++ listed outcome [])
  have_outcomes-more outcome comes = have_outcomes-append setup passed.seen (line ∷ []) passed.outcomes (listed outcome []) passed.have_outcomes (have_outcomes-one setup line outcome comes)

  -- a line without an outcome
  pub passed-over : HasOutcome setup line None → PassedUpTo setup before all next w
  passed-over comes = record {
    seen = passed.seen ++ line ∷ [];
    split = split-more;
    outcomes = passed.outcomes;
    have_outcomes = subst (HaveOutcomes setup (passed.seen ++ line ∷ [])) (append-nil passed.outcomes) (have_outcomes-more None comes);
    none = passed.none;
    weight = passed.weight;
  }

  weight-more : (o : Outcome) → weight_plus w (weight_of o) ≡ weight_in (totals_plus before (totals_of (passed.outcomes ++ o ∷ [])))
  weight-more o =
      ap (λ (u : Weight). weight_plus u (weight_of o)) passed.weight
      ∙ ap weight_in (plus-assoc before (totals_of passed.outcomes) (totals_of (o ∷ [])) ∙ ap (totals_plus before) (sym (totals_of-append passed.outcomes (o ∷ []))))

  over-more : (o : Outcome) → over before (passed.outcomes ++ o ∷ []) ≡ or_else (passes (weighed (weight_plus w (weight_of o)))) None
  over-more o =
      over-append before passed.outcomes (o ∷ []) passed.none
      ∙ ap (λ (u : Weight). or_else (passes (weighed (weight_plus u (weight_of o)))) None) (sym passed.weight)

  -- a line more
  pub passed-more : (o : Outcome) (sum : Weight) → HasOutcome setup line (Some o) → sum ≡ weight_plus w (weight_of o) → passes (weighed (weight_plus w (weight_of o))) ≡ None
      → PassedUpTo setup before all next sum
  passed-more o sum comes sums none = record {
    seen = passed.seen ++ line ∷ [];
    split = split-more;
    outcomes = passed.outcomes ++ o ∷ [];
    have_outcomes = have_outcomes-more (Some o) comes;
    none = over-more o ∙ ap (λ (p : Option (Counter × ℕ)). or_else p None) none;
    weight = sums ∙ weight-more o;
  }

  -- a line at which a counter passes its limit
  pub fills-here : (o : Outcome) (which : Counter) (total : ℕ) → HasOutcome setup line (Some o) → passes (weighed (weight_plus w (weight_of o))) ≡ Some (which, total)
      → FillsAmong setup before all which total
  fills-here o which total comes full = record {
    front = passed.seen ++ line ∷ [];
    back = next;
    split = split-more;
    outcomes = passed.outcomes ++ o ∷ [];
    have_outcomes = have_outcomes-more (Some o) comes;
    full = over-more o ∙ ap (λ (p : Option (Counter × ℕ)). or_else p None) full;
  }

-- a line, by the answer of its weight
comes-so : (setup : Setup) (line : List ℕ) (answer : Option Weight) (says : WeighsLine setup line answer) → HasOutcome setup line (says.2.outcome)
comes-so setup line answer (said, is, weighs) = (said, is, weighs.is)

some-weight : (o : Option Outcome) (more : Weight) → Some more ≡ option_map weight_of o → (one : Outcome) × (o ≡ Some one) × (more ≡ weight_of one)
some-weight None more e = absurd (cc e)
some-weight (Some one) more e = (one, refl, cc e)

none-weight : (o : Option Outcome) → None ≡ option_map weight_of o → o ≡ None
none-weight None e = refl
none-weight (Some one) e = absurd (cc e)

module _ (setup : Setup) (before : Totals) (all rest next : List (List ℕ)) (line : List ℕ) (w : Weight) (answer : Option Weight) (passed : PassedUpTo setup before all rest w) (is : rest ≡ line ∷ next)
    (says : WeighsLine setup line answer) where
  pub step-over : answer ≡ None → PassedUpTo setup before all next w
  step-over none =
      passed-over setup before all rest next line w passed is (subst (HasOutcome setup line) (none-weight says.2.outcome (sym none ∙ says.2.weight)) (comes-so setup line answer says))

  pub step-more : (more sum : Weight) → answer ≡ Some more → sum ≡ weight_plus w more → passes (weighed (weight_plus w more)) ≡ None → PassedUpTo setup before all next sum
  step-more more sum some sums none =
      let one = some-weight says.2.outcome more (sym some ∙ says.2.weight) in
      passed-more setup before all rest next line w passed is one.0 sum (subst (HasOutcome setup line) one.1 (comes-so setup line answer says))
      (sums ∙ ap (weight_plus w) one.2) (subst (λ (m : Weight). passes (weighed (weight_plus w m)) ≡ None) one.2 none)

  pub step-fills : (more : Weight) (which : Counter) (total : ℕ) → answer ≡ Some more → passes (weighed (weight_plus w more)) ≡ Some (which, total) → FillsAmong setup before all which total
  step-fills more which total some full =
      let one = some-weight says.2.outcome more (sym some ∙ says.2.weight) in
      fills-here setup before all rest next line w passed is one.0 which total (subst (HasOutcome setup line) one.1 (comes-so setup line answer says))
      (subst (λ (m : Weight). passes (weighed (weight_plus w m)) ≡ Some (which, total)) one.2 full)
