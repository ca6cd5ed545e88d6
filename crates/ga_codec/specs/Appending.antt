-- The bytes of a snapshot or a run record, appended to others.
use Rattle.std.specs.Prelude.{◌≡◌, ℕ, List, Option, ◌++◌, map}
use Rattle.ga_base.specs.declared.entry.Entry.{Entry}
use Rattle.ga_codec.specs.Shapes.{SpellDelta, SpellSnapshot}
use Rattle.ga_codec.specs.Values.{entry_value}
use Rattle.ga_summary.specs.SummaryRows.{SummaryValue}

-- what follows the old bytes spells this snapshot
pub record AppendsSnapshot (generation : ℕ) (keep : Option ℕ) (summary : SummaryValue) (entries : List Entry) (old new : List ℕ) : Type 0 where
  pub bytes : List ℕ
  pub spells : SpellSnapshot bytes (record { generation = generation; keep = keep; summary = summary; entries = map entry_value entries })
  pub appended : new ≡ old ++ bytes

-- what follows them spells this run record
pub record AppendsDelta (summary : SummaryValue) (entries : List Entry) (old new : List ℕ) : Type 0 where
  pub bytes : List ℕ
  pub spells : SpellDelta bytes (record { summary = summary; entries = map entry_value entries })
  pub appended : new ≡ old ++ bytes
