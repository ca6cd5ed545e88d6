-- How rows are passed one by one, and tested.
use Rattle.std.specs.Prelude.{◌≡◌, ℕ, ◌+◌, ◌≤◌, ◌<◌, Bool, true, false, cond, ◌==◌, ◌&&◌, List, [], length, take, All}
use Rattle.std.specs.List.Sorted.{IsStrictlySortedBy}
use Rattle.std.specs.declared.cmp.Ordering.{Ordering}
use Rattle.std.specs.declared.cmp.Ordering.TheVariants.{Less}
use Rattle.std.specs.Ordering.{nat_cmp, ordering_then}
use Rattle.ga_base.specs.declared.key.Key.{Key}
use Rattle.ga_base.specs.declared.name.Name.{Name}
use Rattle.ga_base.specs.declared.panel.Panel.TheVariants.{Visitors}
use Rattle.ga_base.specs.Layers.{HasForm, is_empty, is_flag}
use Rattle.ga_base.specs.Orders.{key_cmp, name_cmp, text_cmp}
use Rattle.ga_base.specs.Panels.{is_same_panel, panel_number}
use Rattle.ga_summary.specs.declared.layer_sums.LayerSums.{LayerSums}
use Rattle.ga_summary.specs.declared.load.Load.{Load}
use Rattle.ga_summary.specs.declared.summary_parts.PartRow.{PartRow}
use Rattle.ga_summary.specs.SummaryParts.{RowsAreGood, rows_in}
use Rattle.ga_summary.specs.SummaryRows.{SummaryRow, has_name}
use Rattle.ga_summary.specs.Sound.{layer_rows}
use Rattle.ga_summary.specs.Steps.Loads.{load_of, load_plus, no_load}

-- what is tested of a row by itself
pub record StandsAlone (row : SummaryRow) : Type 0 where
  pub form : HasForm row.key
  pub names : IsStrictlySortedBy name_cmp row.names
  pub hit : 1 ≤ row.sums.hits
  pub visits : length row.names ≤ row.sums.hits

-- each of the names is among the others
abbrev pub AllAmong : List Name → List Name → Type 0
AllAmong names among = All (λ name. has_name among name ≡ true) names

-- the name is among the names, and those above it are among them where they are among the rest
pub record IsBehind (names : List Name) (name : Name) (rest : List Name) : Type 0 where
  pub found : has_name names name ≡ true
  pub rising : IsStrictlySortedBy name_cmp rest
  pub above : (other : Name) → name_cmp name other ≡ Less → has_name rest other ≡ has_name names other

-- how a key in its form is ordered beside that of a day
abbrev pub day_cmp : Key → ℕ → Ordering
day_cmp key date = ordering_then (nat_cmp (panel_number key.panel) 0) (ordering_then (nat_cmp key.date date) (text_cmp key.parent []))

-- the layers' sums before the first row
abbrev pub begun : LayerSums
begun = record { panel = Visitors; date = 0; no_parent = true; groups = no_load; entries = no_load }

-- whether these are the sums of the key's panel and day, and of keys with a parent or without one, as the key is
abbrev pub is_at : LayerSums → Key → Bool
is_at sums key = is_same_panel sums.panel key.panel && ((sums.date == key.date) && is_flag sums.no_parent (is_empty key.parent))

abbrev pub reached : LayerSums → Key → LayerSums
reached sums key = cond (is_at sums key) sums (record { panel = key.panel; date = key.date; no_parent = is_empty key.parent; groups = no_load; entries = no_load })

abbrev pub layer_load : LayerSums → Bool → Load
layer_load sums no_label = cond no_label sums.groups sums.entries

-- what the key's layer sums to with one more row of the key
abbrev pub layer_plus : LayerSums → Key → Load → Load
layer_plus sums key more = load_plus (layer_load (reached sums key) (is_empty key.label)) more

-- the sums with one more row of the key
abbrev pub with_load : LayerSums → Key → Load → LayerSums
with_load sums key more = let at_key = reached sums key in
    cond (is_empty key.label) (record at_key { groups = load_plus at_key.groups more }) (record at_key { entries = load_plus at_key.entries more })

-- the sums are those of the rows; and a key that is above all rows, and not where the sums are, is the first of its layers
pub record AreSumsOf (rows : List SummaryRow) (sums : LayerSums) : Type 0 where
  pub here : (no_label : Bool) → layer_load sums no_label ≡ load_of (layer_rows (record { panel = sums.panel; no_parent = sums.no_parent; no_label = no_label }) sums.date rows)
  pub ahead : (key : Key) (no_label : Bool) → All (λ row. key_cmp row.key key ≡ Less) rows → is_at sums key ≡ false
      → layer_rows (record { panel = key.panel; no_parent = is_empty key.parent; no_label = no_label }) key.date rows ≡ []

-- the rows before each place up to this one are good
abbrev pub GoodUpTo : List PartRow → ℕ → Type 0
GoodUpTo rows at = (n : ℕ) → n ≤ at → RowsAreGood (rows_in (take n rows))

-- so are those before this place, and with the one at it they aren't
pub record IsFirstBadRow (rows : List PartRow) (at : ℕ) : Type 0 where
  pub within : at < length rows
  pub before : GoodUpTo rows at
  pub here : ¬ RowsAreGood (rows_in (take (at + 1) rows))
