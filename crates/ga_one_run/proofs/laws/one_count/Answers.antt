use Rattle.std.proofs.Common.{◌≡◌, ℕ, List, Option}
use Rattle.ga_agents.specs.declared.row.Rule.{Rule}
use Rattle.ga_line.specs.declared.setup.LineSetup.{LineSetup}
use Rattle.ga_summary.specs.Outcomes.{Outcome}
use Rattle.ga_words.specs.declared.settings.Settings.{Settings}
use Rattle.ga_outcomes.specs.LineOutcomes.{HasOutcome}
use Rattle.ga_one_run.specs.Setups.{IsLineSetup, setup_of}
use Rattle.ga_one_run.proofs.OneCount.{one-outcome, one-count, one-counter, not-both}
use Rattle.ga_one_run.proofs.laws.one_count.Goals as goal

pub returns : goal.returns
returns c =
    let one : (s : Settings) (line : LineSetup) (rules : List Rule) → IsLineSetup s line → (text : List ℕ) (a b : Option Outcome) → HasOutcome (setup_of line s rules) text a
    → HasOutcome (setup_of line s rules) text b → a ≡ b =
    λ s line rules is. one-outcome c.one_list_of_keys.ensures (setup_of line s rules) (λ text. c.one_meaning.ensures line text is.date.complete is.time.complete) in
    record {
      sum = λ s line rules is start all. one-count (setup_of line s rules) (one s line rules is) start all c.one_sum.ensures;
      counter = λ s line rules is start all. one-counter (setup_of line s rules) (one s line rules is) start all;
      apart = λ s line rules is start all. not-both (setup_of line s rules) (one s line rules is) start all;
    }
