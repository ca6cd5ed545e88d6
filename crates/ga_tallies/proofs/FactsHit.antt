-- What a record counts for, by its facts.
use Rattle.std.proofs.Common.{◌≡◌, ℕ, ◌<◌, ◌∷◌, [], IfSome, List, None, Option, Some, refl}
use Rattle.std.specs.Option.{unwrap_or}
use Rattle.ga_base.specs.Days.{HasEightDigits}
use Rattle.ga_base.specs.declared.key.Key.{Key}
use Rattle.ga_base.specs.declared.record.Record.{Record}
use Rattle.ga_line.specs.Bounds.{RecordBounds}
use Rattle.ga_panels.specs.Form.{AreKeysOfDay}
use Rattle.ga_panels.specs.Known.{AreFactsOf, facts_of}
use Rattle.ga_panels.specs.Table.{AreKeysOf, table_keys}
use Rattle.ga_panels.specs.Visitors.{visitor_in}
use Rattle.ga_panels.specs.declared.record_facts.RecordFacts.{RecordFacts}
use Rattle.ga_panels.specs.declared.setup.PanelSetup.{PanelSetup}
use Rattle.ga_panels.proofs.DayKeys.{keys_of_day}
use Rattle.ga_summary.specs.Outcomes.{Counted, Hit, hit_of}
use Rattle.ga_summary.specs.Sound.{AllCountable}
use Rattle.ga_tallies.specs.Steps.OneLine.{hit_told}
use Rattle.ga_tallies.proofs.OneLine.{countable}

-- a minute that is there is one of the day
pub minute-timed : (minute : Option ℕ) → unwrap_or minute 0 < 1440 → IfSome minute (λ m. m < 1440)
minute-timed None small = tt
minute-timed (Some minute) small = small

module _ (panels : PanelSetup) (rec : Record) (known : RecordFacts) where
  -- what the record counts for with these facts
  abbrev pub told-hit : Hit
  told-hit = hit_of (table_keys panels rec (facts_of known)) (visitor_in panels rec) rec

  pub hit-as : AreFactsOf panels rec known → hit_told known ≡ told-hit
  hit-as are = λ i. hit_of (table_keys (are.its_setup i) (are.its_values i) (facts_of known)) (visitor_in (are.its_setup i) (are.its_values i)) (are.its_values i)

  pub keys-are : AreFactsOf panels rec known → (keys : List Key) × AreKeysOf panels rec keys × (Some (Counted told-hit) ≡ Some (Counted (hit_of keys (visitor_in panels rec) rec)))
  keys-are are = (table_keys panels rec (facts_of known), (facts_of known, are.its_facts, refl), refl)

  pub told-form : HasEightDigits rec.date → IfSome rec.minute (λ m. m < 1440) → AreKeysOfDay rec.date (table_keys panels rec (facts_of known))
  told-form dated timed = keys_of_day panels rec (facts_of known) dated timed known.named

  pub told-countable : RecordBounds rec → AllCountable (Counted told-hit ∷ [])
  told-countable bounds = countable panels rec (table_keys panels rec (facts_of known)) bounds (told-form bounds.date bounds.minute)
