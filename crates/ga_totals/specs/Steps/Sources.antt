-- The rows of a total's keys: the sums of each, and how many visitors it has.
use Rattle.std.specs.Prelude.{◌≡◌, ℕ, ◌<◌, ◌==◌, eqb, List, [], ◌∷◌, count_by, length, map, filter, slice_index, slice_index_or}
use Rattle.std.specs.Set.{distinct_count}
use Rattle.ga_base.specs.declared.counts.Sums.{Sums}
use Rattle.ga_base.specs.declared.key.Key.{Key}
use Rattle.ga_base.specs.declared.panel.Panel.{Panel}
use Rattle.ga_base.specs.Panels.{is_same_panel, panel_number}
use Rattle.ga_report.specs.SoundRows.{AreSound}
use Rattle.ga_report.specs.Source.{SourceRow}

-- the visitors in pairs of a key's number
abbrev pub visitors_of : ℕ → List (ℕ × ℕ) → List ℕ
visitors_of number pairs = map (λ pair. pair.1) (filter (λ pair. pair.0 == number) pairs)

-- of this many keys each has the number of its different visitors at its own number
pub record AreVisits (keys : ℕ) (pairs : List (ℕ × ℕ)) (visits : List ℕ) : Type 0 where
  pub many : length visits ≡ keys
  pub each : (number : ℕ) → number < keys → slice_index visits number ≡ distinct_count eqb (visitors_of number pairs)

-- the row of each key, of which sums and number of visitors stand at its place
abbrev pub source_rows : List Key → List Sums → List ℕ → List SourceRow
source_rows (key ∷ keys) (sums ∷ more) (visitors ∷ visits) = record { key = key; sums = sums; visitors = visitors } ∷ source_rows keys more visits
source_rows keys sums visits = []

-- each key has its sums and its number of visitors, and the rows of all are sound
pub record CanBeSource (keys : List Key) (sums : List Sums) (visits : List ℕ) : Type 0 where
  pub summed : length sums ≡ length keys
  pub visited : length visits ≡ length keys
  pub sound : AreSound (source_rows keys sums visits)

-- how many of these each panel is, at the panel's number
abbrev pub AreSizes : List Panel → List ℕ → Type 0
AreSizes panels sizes = (panel : Panel) → slice_index_or sizes (panel_number panel) 0 ≡ count_by (λ own. is_same_panel own panel) panels
