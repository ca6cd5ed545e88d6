-- What a record is held with: its setup, its values and its facts.
use Rattle.std.specs.Prelude.{◌≡◌}
use Rattle.ga_base.specs.Records.{record_in}
use Rattle.ga_base.specs.declared.record.Record.{Record}
use Rattle.ga_panels.specs.Facts.{Facts, HasFacts}
use Rattle.ga_panels.specs.Refs.{facts_in}
use Rattle.ga_panels.specs.declared.record_facts.RecordFacts.{RecordFacts}
use Rattle.ga_panels.specs.declared.setup.PanelSetup.{PanelSetup}

abbrev pub setup_of : RecordFacts → PanelSetup
setup_of known = known.setup.now

abbrev pub record_of : RecordFacts → Record
record_of known = record_in known.rec

abbrev pub facts_of : RecordFacts → Facts
facts_of known = facts_in known.class known.referral known.is_static

-- these are the facts of this record under this setup
pub record AreFactsOf (setup : PanelSetup) (rec : Record) (known : RecordFacts) : Type 0 where
  pub its_setup : setup_of known ≡ setup
  pub its_values : record_of known ≡ rec
  pub its_facts : HasFacts setup rec (facts_of known)
