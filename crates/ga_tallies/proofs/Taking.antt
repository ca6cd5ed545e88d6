-- One line after the other.
use Rattle.std.proofs.Common.{◌≡◌, ℕ, List, [], ◌∷◌, ◌++◌, Option, Some, None, refl, sym, ap, ◌∙◌, subst, append_assoc, append-nil}
use Rattle.std.proofs.lemmas.List.Elements.{All-append}
use Rattle.ga_summary.specs.Outcomes.{Hit, Outcome, Failed, Excluded, Counted, hits_of, totals_of}
use Rattle.ga_summary.specs.Sound.{AllCountable, IsCountable}
use Rattle.ga_base.specs.Totals.{TotalsFit}
use Rattle.ga_outcomes.specs.LineOutcomes.{listed}
use Rattle.ga_tallies.specs.Steps.OneLine.{OverfillsLine, TakesLine}
use Rattle.ga_tallies.specs.Tallies.{IsTallyOf, Overfills, TakesIn, TallySeen}
use Rattle.ga_outcomes.specs.declared.setup.Setup.{Setup}
use Rattle.ga_tallies.proofs.OneLine.{none-countable}

-- no lines leave the tally as it is
pub takes-none : (setup : Setup) (t : TallySeen) → TakesIn setup [] t t
takes-none setup t = record {
  outcomes = [];
  have_outcomes = refl;
  countable = none-countable;
  tally = λ before is. subst (λ (os : List Outcome). IsTallyOf os t) (sym (append-nil before)) is;
}

listed-append : (first : Option Outcome) (rest : List Outcome) → listed first [] ++ rest ≡ listed first rest
listed-append None rest = refl
listed-append (Some o) rest = refl

-- the counted lines of both
both-countable : (first : Option Outcome) (rest : List Outcome) → AllCountable (listed first []) → AllCountable rest → AllCountable (listed first rest)
both-countable None rest h k = k
both-countable (Some Failed) rest h k = k
both-countable (Some Excluded) rest h k = k
both-countable (Some (Counted hit)) rest h k = All-append (λ (x : Hit). (date : ℕ) × IsCountable date x) (hit ∷ []) (hits_of rest) h k

-- a line, and then others
pub takes-more : (setup : Setup) (line : List ℕ) (rest : List (List ℕ)) (old mid new : TallySeen) → TakesLine setup line old mid → TakesIn setup rest mid new → TakesIn setup (line ∷ rest) old new
takes-more setup line rest old mid new (said, says, one) more = record {
  outcomes = listed one.outcome more.outcomes;
  have_outcomes = (one.outcome, more.outcomes, (said, says, one.is), more.have_outcomes, refl);
  countable = both-countable one.outcome more.outcomes one.countable more.countable;
  tally = λ before is.
      let along : (before ++ listed one.outcome []) ++ more.outcomes ≡ before ++ listed one.outcome more.outcomes =
      append_assoc before (listed one.outcome []) more.outcomes ∙ ap (λ (os : List Outcome). before ++ os) (listed-append one.outcome more.outcomes) in
      subst (λ (os : List Outcome). IsTallyOf os new) along (more.tally (before ++ listed one.outcome []) (one.adds before is));
}

-- a line that is too much, whatever follows it
pub overfills-here : (setup : Setup) (line : List ℕ) (rest : List (List ℕ)) (old : TallySeen) → OverfillsLine setup line old → Overfills setup (line ∷ rest) old
overfills-here setup line rest old (said, says, one) before is = record {
  front = line ∷ [];
  back = rest;
  split = refl;
  outcomes = one.outcome ∷ [];
  have_outcomes = (Some one.outcome, [], (said, says, one.is), refl, refl);
  full = one.full before is;
}

-- a line, and then others that are too much
pub overfills-later : (setup : Setup) (line : List ℕ) (rest : List (List ℕ)) (old mid : TallySeen) → TakesLine setup line old mid → Overfills setup rest mid → Overfills setup (line ∷ rest) old
overfills-later setup line rest old mid (said, says, one) more before is =
    let later = more (before ++ listed one.outcome []) (one.adds before is) in
    let along : (before ++ listed one.outcome []) ++ later.outcomes ≡ before ++ listed one.outcome later.outcomes =
    append_assoc before (listed one.outcome []) later.outcomes ∙ ap (λ (os : List Outcome). before ++ os) (listed-append one.outcome later.outcomes) in
    record {
      front = line ∷ later.front;
      back = later.back;
      split = ap (λ (ls : List (List ℕ)). line ∷ ls) later.split;
      outcomes = listed one.outcome later.outcomes;
      have_outcomes = (one.outcome, later.outcomes, (said, says, one.is), later.have_outcomes, refl);
      full = subst (λ (os : List Outcome). ¬ TotalsFit (totals_of os)) along later.full;
    }
