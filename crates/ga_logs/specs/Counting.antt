-- What was counted of lines, batch after batch, and by whom.
use Rattle.std.specs.Prelude.{◌≡◌, ◌⊎◌, ℕ, List, [], Option, Some, None}
use Rattle.ga_base.specs.declared.counts.Totals.{Totals}
use Rattle.ga_outcomes.specs.LineOutcomes.{HaveOutcomes, FillsAmong}
use Rattle.ga_outcomes.specs.declared.setup.Setup.{Setup}
use Rattle.ga_workers.specs.Together.{AreCounted, HasTallyForEach}
use Rattle.ga_workers.specs.Workers.{batch_limit}
use Rattle.ga_workers.specs.declared.workers.Workers.{Workers}
use Rattle.ga_logs.specs.declared.full.Full.{Full}
use Rattle.ga_summary.specs.Limits.{over}
use Rattle.ga_summary.specs.Outcomes.{Outcome}
use Rattle.ga_summary.specs.Sound.{AllCountable}
use Rattle.ga_tallies.specs.Tallies.{IsTallyOf, TallySeen}

-- what a counting has from its beginning on, and keeps
pub record CountingStart : Type 0 where
  -- what the counters began at
  pub totals : Totals
  -- the workers that count
  pub workers : Workers
  -- the most bytes of a batch that is counted
  pub limit : ℕ

-- what it has where these workers count: a batch has no more bytes than theirs
abbrev pub begun_with : Totals → Workers → CountingStart
begun_with totals workers = record { totals = totals; workers = workers; limit = batch_limit workers }

-- what was counted, as contracts see it
pub record CountingSeen : Type 0 where
  pub start : CountingStart
  -- what each worker has counted since, as long as no counter was full
  pub tallies : List TallySeen
  -- the counter that is full
  pub full : Option Full

-- the workers have counted these outcomes, each some of them, and no counter passed its limit on the way
pub record AreTallied (start : Totals) (outcomes : List Outcome) (tallies : List TallySeen) : Type 0 where
  pub counted : AreCounted outcomes tallies
  pub countable : AllCountable outcomes
  pub fits : over start outcomes ≡ None

-- these lines are counted: their outcomes are
pub record LinesAreCounted (setup : Setup) (start : Totals) (all : List (List ℕ)) (tallies : List TallySeen) : Type 0 where
  pub outcomes : List Outcome
  pub have_outcomes : HaveOutcomes setup all outcomes
  pub tallied : AreTallied start outcomes tallies

-- these lines are counted, or they fill a counter, which is named
abbrev pub HasCountedBy : Option Full → Setup → Totals → List (List ℕ) → List TallySeen → Type 0
HasCountedBy None setup start all tallies = LinesAreCounted setup start all tallies
HasCountedBy (Some full) setup start all tallies = FillsAmong setup start all full.which full.total

abbrev pub HasCounted : Setup → List (List ℕ) → CountingSeen → Type 0
HasCounted setup all c = HasCountedBy c.full setup c.start.totals all c.tallies

-- these lines are counted in the total, and no counter passed its limit on the way
pub record AreInTotal (setup : Setup) (start : Totals) (all : List (List ℕ)) (total : TallySeen) : Type 0 where
  pub outcomes : List Outcome
  pub have_outcomes : HaveOutcomes setup all outcomes
  pub tally : IsTallyOf outcomes total
  pub countable : AllCountable outcomes
  pub fits : over start outcomes ≡ None

-- each worker has a tally, or none has one, since no batch had a byte or a counter is full
abbrev pub HaveTallies : ℕ → List TallySeen → Type 0
HaveTallies jobs tallies = (tallies ≡ []) ⊎ HasTallyForEach jobs tallies

-- the total is what the tallies of these workers, one for each, have together; no batch had more bytes than theirs
pub record IsCountedBy (workers : Workers) (totals : Totals) (total : TallySeen) : Type 0 where
  pub counting : CountingSeen
  pub start : counting.start ≡ begun_with totals workers
  pub tallies : HaveTallies workers.jobs counting.tallies
  pub together : (outcomes : List Outcome) → AreCounted outcomes counting.tallies → IsTallyOf outcomes total
