-- What is put down in a tally for one line: its visitor, and then each of its keys.
use Rattle.std.specs.Prelude.{◌≡◌, ℕ, List, [], ◌∷◌, slice_get, Option, Some, None}
use Rattle.std.specs.Option.{option_map}
use Rattle.ga_base.specs.Orders.{is_same_key, is_same_visitor}
use Rattle.ga_base.specs.declared.counts.Sums.{Sums}
use Rattle.ga_base.specs.declared.key.Key.{Key}
use Rattle.ga_base.specs.declared.key.Visitor.{Visitor}
use Rattle.ga_panels.specs.Known.{facts_of, record_of, setup_of}
use Rattle.ga_panels.specs.Table.{table_keys}
use Rattle.ga_panels.specs.declared.record_facts.RecordFacts.{RecordFacts}
use Rattle.ga_shards.specs.Numbers.{noted, place_of}
use Rattle.ga_tallies.specs.Steps.Adding.{AddsOne, added_at}
use Rattle.ga_tallies.specs.Tallies.{TallySeen}
use Rattle.ga_tallies.specs.declared.note_keys.Visit.{Visit}

-- a key's number was put down with a visitor's, where there is a visitor
abbrev pub AddsVisit : ℕ → Option ℕ → List (ℕ × ℕ) → List (ℕ × ℕ) → Type 0
AddsVisit k None old new = new ≡ old
AddsVisit k (Some v) old new = AddsOne (k, v) old new

-- the number of a line's visitor, where it has one
abbrev pub number_in : Option Visit → Option ℕ
number_in visit = option_map (λ (v : Visit). v.number) visit

-- one key of a line was noted, with its visitor's number
pub record NotesKey (key : Key) (visitor : Option ℕ) (line : Sums) (old new : TallySeen) : Type 0 where
  pub keys : new.keys ≡ noted is_same_key old.keys key
  pub stands : slice_get new.keys (place_of is_same_key old.keys key) ≡ Some key
  pub sums : new.sums ≡ added_at (place_of is_same_key old.keys key) line old.sums
  pub pairs : AddsVisit (place_of is_same_key old.keys key) visitor old.pairs new.pairs
  pub others : new ≡ record old { keys = new.keys; sums = new.sums; pairs = new.pairs }

-- these keys of a line were noted, one after the other
abbrev pub NotesKeys : List Key → Option ℕ → Sums → TallySeen → TallySeen → Type 0
NotesKeys [] visitor line old new = new ≡ old
NotesKeys (key ∷ keys) visitor line old new = (mid : TallySeen) × NotesKey key visitor line old mid × NotesKeys keys visitor line mid new

-- the keys of a record by these facts
abbrev pub keys_told : RecordFacts → List Key
keys_told facts = table_keys (setup_of facts) (record_of facts) (facts_of facts)

-- a visitor was noted and has this number
pub record NotesOne (visitor : Visitor) (v : ℕ) (old new : TallySeen) : Type 0 where
  pub place : v ≡ place_of is_same_visitor old.visitors visitor
  pub visitors : new ≡ record old { visitors = noted is_same_visitor old.visitors visitor }
  pub stands : slice_get new.visitors v ≡ Some visitor

-- the same of a visitor or none
abbrev pub NotesVisitor : Option Visitor → Option ℕ → TallySeen → TallySeen → Type 0
NotesVisitor None place old new = (place ≡ None) × (new ≡ old)
NotesVisitor (Some visitor) place old new = (v : ℕ) × (place ≡ Some v) × NotesOne visitor v old new
