-- Lines have outcomes, and a sum unless they fill a counter.
use Rattle.std.proofs.Common.{◌≡◌, ℕ, List, [], ◌∷◌, Option, Some, None, inl, inr, refl, sym, append-nil}
use Rattle.std.proofs.lemmas.List.Elements.{All-from_recursion}
use Rattle.ga_base.specs.declared.counts.Counter.{Counter}
use Rattle.ga_base.specs.declared.counts.Totals.{Totals}
use Rattle.ga_base.specs.declared.key.Key.{Key}
use Rattle.ga_base.specs.declared.record.Line.{Line}
use Rattle.ga_base.specs.declared.record.Line.TheVariants.{Skipped, Failed, Good}
use Rattle.ga_base.specs.declared.record.Record.{Record}
use Rattle.ga_line.specs.Records.{IsLineOf, SaysSomething}
use Rattle.ga_line.specs.declared.setup.LineSetup.{LineSetup}
use Rattle.ga_outcomes.specs.LineOutcomes.{CountsLines, FillsAmong, HasOutcome, HaveOutcomes, listed}
use Rattle.ga_outcomes.specs.declared.setup.Setup.{Setup}
use Rattle.ga_outcomes.proofs.Dated.{outcomes-dated}
use Rattle.ga_panels.specs.Table.{AreKeysOf}
use Rattle.ga_panels.specs.Visitors.{IsExcluded, visitor_in}
use Rattle.ga_panels.specs.declared.setup.PanelSetup.{PanelSetup}
use Rattle.ga_summary.specs.Dated.{AllDated, IsDated}
use Rattle.ga_summary.specs.Limits.{over}
use Rattle.ga_summary.specs.Outcomes.{Outcome, Counted, Excluded, hit_of, hits_of}
use Rattle.ga_summary.specs.Outcomes as outcomes
use Rattle.ga_summary.specs.SummaryRows.{SummaryValue}
use Rattle.ga_summary.specs.Sums.{IsSumOf}

-- what the laws of lines, keys and sums say
abbrev SomeLine : Type 0
SomeLine = (setup : LineSetup) (line : List ℕ) → SaysSomething setup line

abbrev SomeKeys : Type 0
SomeKeys = (setup : PanelSetup) (rec : Record) → ((keys : List Key) → AreKeysOf setup rec keys → ⊥) → ⊥

abbrev SomeSum : Type 0
SomeSum = (xs : List Outcome) → AllDated xs → (s : SummaryValue) × IsSumOf xs s

module _ (lines : SomeLine) (keys : SomeKeys) (setup : Setup) where
  said-outcome : (line : List ℕ) (said : Line) → IsLineOf setup.line line said → ((outcome : Option Outcome) → HasOutcome setup line outcome → ⊥) → ⊥
  said-outcome line Skipped says none = none None (Skipped, says, refl)
  said-outcome line Failed says none = none (Some outcomes.Failed) (Failed, says, refl)
  said-outcome line (Good rec) says none = counted (λ excluded. none (Some Excluded) (Good rec, says, inl (excluded, refl)))
    where
      counted : (IsExcluded setup.panels rec → ⊥) → ⊥
      counted here = keys setup.panels rec (λ ks are. none (Some (Counted (hit_of ks (visitor_in setup.panels rec) rec))) (Good rec, says, inr (here, (ks, are, refl))))

  some-outcome : (line : List ℕ) → ((outcome : Option Outcome) → HasOutcome setup line outcome → ⊥) → ⊥
  some-outcome line none = let said = lines setup.line line in said-outcome line said.0 said.1 none

  pub some-outcomes : (all : List (List ℕ)) → ((xs : List Outcome) → HaveOutcomes setup all xs → ⊥) → ⊥
  some-outcomes [] none = none [] refl
  some-outcomes (line ∷ more) none =
      some-outcomes more (λ rest later. some-outcome line (λ first has. none (listed first rest) (first, rest, has, later, refl)))

  module _ (sums : SomeSum) (start : Totals) (all : List (List ℕ)) where
    pub some-count : ((sum : SummaryValue) → CountsLines setup start all sum → ⊥) → ((which : Counter) (total : ℕ) → FillsAmong setup start all which total → ⊥) → ⊥
    some-count counts fills = some-outcomes all (λ xs have. by xs have (over start xs) refl)
      where
        by : (xs : List Outcome) → HaveOutcomes setup all xs → (full : Option (Counter × ℕ)) → over start xs ≡ full → ⊥
        by xs have None fits =
            let sum = sums xs (All-from_recursion IsDated (hits_of xs) (outcomes-dated setup all xs have)) in
            counts sum.0 (record { outcomes = xs; have_outcomes = have; is_sum = sum.1; fits = fits })
        by xs have (Some (which, total)) full =
            fills which total (record { front = all; back = []; split = sym (append-nil all); outcomes = xs; have_outcomes = have; full = full })
