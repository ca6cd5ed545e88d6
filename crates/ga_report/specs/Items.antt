-- The items of a report: keys that differ in their day alone are one item, whose numbers are added.
use Rattle.std.specs.Prelude.{◌≡◌, ℕ, ◌==◌, Bool, true, ◌&&◌, ◌||◌, not, max, if◌then◌else◌, List, [], ◌∷◌, length, filter, sum_by, count_by, All}
use Rattle.std.specs.List.{list_any}
use Rattle.std.specs.List.Sorted.{IsSorted}
use Rattle.std.specs.Str.{bytes_eq}
use Rattle.std.specs.Ordering.{nat_cmp, ordering_then}
use Rattle.std.specs.declared.cmp.Ordering.{Ordering}
use Rattle.ga_base.specs.declared.date_spec.DateSpec.{DateSpec}
use Rattle.ga_base.specs.declared.date_spec.DateSpec.TheVariants as D
use Rattle.ga_base.specs.declared.key.Key.{Key}
use Rattle.ga_base.specs.declared.panel.Panel.{Panel}
use Rattle.ga_base.specs.declared.panel.Panel.TheVariants.{Visitors, VisitTimes}
use Rattle.ga_base.specs.Layers.{has_groups, is_empty}
use Rattle.ga_base.specs.Orders.{key_cmp, text_cmp, is_same_key}
use Rattle.ga_base.specs.Panels.{is_same_panel}
use Rattle.ga_report.specs.Source.{SourceRow}

-- a key without its day
abbrev pub undated : Key → Key
undated key = record { panel = key.panel; date = 0; parent = key.parent; label = key.label; method = key.method; protocol = key.protocol }

-- a key of VISITORS is that of a day, or of a part of a day, as fine as this: a part has the day's digits and two more for the hour,
-- and four for the minute
abbrev pub is_as_fine : DateSpec → Key → Bool
is_as_fine D.Date key = is_empty key.parent
is_as_fine D.Hour key = not (is_empty key.parent) && (length key.label == 10)
is_as_fine D.Minute key = not (is_empty key.parent) && (length key.label == 12)

-- VISITORS shows the keys that are so fine; the other panels all
abbrev pub is_shown : DateSpec → Key → Bool
is_shown spec key = not (is_same_panel key.panel Visitors) || is_as_fine spec key

abbrev pub shown_rows : DateSpec → List SourceRow → List SourceRow
shown_rows spec rows = filter (λ row. is_shown spec row.key) rows

-- whether a row is of the item that a key is of
abbrev pub is_of : Key → SourceRow → Bool
is_of key row = is_same_key (undated row.key) (undated key)

-- the rows of an item, one for each day
abbrev pub of_item : Key → List SourceRow → List SourceRow
of_item key rows = filter (is_of key) rows

abbrev pub has_item : Key → List SourceRow → Bool
has_item key rows = list_any (is_of key) rows

-- the greatest of the rows' times
abbrev pub greatest_time : List SourceRow → ℕ
greatest_time [] = 0
greatest_time (row ∷ rows) = max row.sums.max_micros (greatest_time rows)

-- what rows have together. A visitor is one of a day, so that those of several days are different
abbrev pub together : Key → List SourceRow → SourceRow
together key rows = record {
  key = undated key;
  sums = record {
    hits = sum_by (λ row. row.sums.hits) rows;
    bytes = sum_by (λ row. row.sums.bytes) rows;
    micros = sum_by (λ row. row.sums.micros) rows;
    max_micros = greatest_time rows;
  };
  visitors = sum_by (λ row. row.visitors) rows;
}

-- the item of a key
abbrev pub item_of : Key → List SourceRow → SourceRow
item_of key rows = together key (of_item key rows)

-- items by their data, method and protocol
abbrev pub item_order : SourceRow → SourceRow → Ordering
item_order a b = key_cmp (undated a.key) (undated b.key)

abbrev pub last_first : SourceRow → SourceRow → Ordering
last_first a b = ordering_then (text_cmp b.key.label a.key.label) (item_order a b)

abbrev pub by_hits : SourceRow → SourceRow → Ordering
by_hits a b = ordering_then (nat_cmp b.sums.hits a.sums.hits) (item_order a b)

-- the last day stands first, hours rise, and elsewhere hits fall; what ties so stands by its data, method and protocol
abbrev pub order : Panel → SourceRow → SourceRow → Ordering
order Visitors a b = last_first a b
order VisitTimes a b = item_order a b
order _ a b = by_hits a b

-- in a panel with groups the rows are the groups
abbrev pub is_row : Panel → Key → Bool
is_row panel key = is_same_panel key.panel panel && (if has_groups panel then is_empty key.label else true)

-- whether a key is of an entry of the group that another key is of
abbrev pub is_child : Key → Key → Bool
is_child group key = (is_same_panel key.panel group.panel && has_groups group.panel) && (bytes_eq key.parent group.parent && not (is_empty key.label))

-- the items of the rows that are to be shown, each once, in their order
pub record AreItems (panel : Panel) (is_shown : Key → Bool) (rows items : List SourceRow) : Type 0 where
  pub once : (key : Key) → count_by (is_of key) items ≡ (if is_shown key && has_item key rows then 1 else 0)
  pub sums : All (λ item. item ≡ item_of item.key rows) items
  pub ordered : IsSorted (order panel) items
