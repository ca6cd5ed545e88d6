-- A report on a source is one on the same rows in another order.
use Rattle.std.proofs.Common.{◌≡◌, ℕ, ◌&&◌, Bool, cond, List, [], ◌∷◌, sum_by, true, false, refl, sym, ap, ◌∙◌, subst}
use Rattle.std.specs.List.Sorted.{IsPermutation}
use Rattle.std.proofs.lemmas.List.Elements.{All-from_recursion, recursion_from_All}
use Rattle.std.proofs.lemmas.List.Sorted.{sum_by-IsPermutation, list_any-IsPermutation}
use Rattle.ga_base.specs.declared.date_spec.DateSpec.{DateSpec}
use Rattle.ga_base.specs.declared.date_spec.DateSpec.TheVariants as D
use Rattle.ga_base.specs.declared.key.Key.{Key}
use Rattle.ga_base.specs.declared.panel.Panel.{Panel}
use Rattle.ga_base.specs.Layers.{is_day}
use Rattle.ga_report.specs.declared.report.General.{General}
use Rattle.ga_report.specs.declared.report.PanelList.{PanelList}
use Rattle.ga_report.specs.declared.report.Report.{Report}
use Rattle.ga_report.specs.declared.report.Row.{Row}
use Rattle.ga_report.specs.Source.{SameSource, SourceRow, SourceValue}
use Rattle.ga_report.specs.Items.{AreItems, has_item, is_child, is_of, is_row, is_shown, item_of, shown_rows, together, undated}
use Rattle.ga_report.specs.Reports.{IsPanelList, IsReport, IsRow, Pairwise, general_of, panels_of}
use Rattle.ga_report.specs.SoundRows.{day_rows}
use Rattle.ga_report.proofs.Alone.{all-there, has-there, none-there}
use Rattle.ga_report.proofs.ItemSums.{item-moved}
use Rattle.ga_report.proofs.Lists.{all-weaker, sum_by-filter}

module _ (xs ys : List SourceRow) (moved : IsPermutation xs ys) where
  days-moved : (f : SourceRow → ℕ) → sum_by f (day_rows ys) ≡ sum_by f (day_rows xs)
  days-moved f =
      let is-day = λ (row : SourceRow). is_day row.key in
      sum_by-filter f is-day ys ∙ sum_by-IsPermutation (λ x. cond (is-day x) (f x) 0) xs ys moved ∙ sym (sum_by-filter f is-day xs)

-- rows that pass by their keys without the day are the same of each item, in any order
module _ (spec : DateSpec) (xs ys : List SourceRow) (moved : IsPermutation xs ys) where
  undates : (key : Key) → is_shown spec (undated key) ≡ is_shown spec key
  undates key = by-spec spec
    where
      by-spec : (s : DateSpec) → is_shown s (undated key) ≡ is_shown s key
      by-spec D.Date = refl
      by-spec D.Hour = refl
      by-spec D.Minute = refl

  has-shown : (key : Key) → has_item key (shown_rows spec xs) ≡ has_item key (shown_rows spec ys)
  has-shown key =
      let shown = is_shown spec key in
      has-there (is_shown spec) undates xs key shown refl ∙ ap (λ (b : Bool). shown && b) (list_any-IsPermutation (is_of key) xs ys moved) ∙ sym (has-there (is_shown spec) undates ys key shown refl)

  item-shown : (key : Key) → item_of key (shown_rows spec ys) ≡ item_of key (shown_rows spec xs)
  item-shown key = go (is_shown spec key) refl
    where
      go : (b : Bool) → is_shown spec key ≡ b → item_of key (shown_rows spec ys) ≡ item_of key (shown_rows spec xs)
      go true e =
          ap (together key) (all-there (is_shown spec) undates ys key e ys) ∙ item-moved key xs ys moved ∙ sym (ap (together key) (all-there (is_shown spec) undates xs key e xs))
      go false e =
          ap (together key) (none-there (is_shown spec) undates ys key e ys) ∙ sym (ap (together key) (none-there (is_shown spec) undates xs key e xs))

module _ (xs ys : List SourceRow) (has : (key : Key) → has_item key xs ≡ has_item key ys) (own : (key : Key) → item_of key ys ≡ item_of key xs) where
  items-moved : (panel : Panel) (shown : Key → Bool) (items : List SourceRow) → AreItems panel shown xs items → AreItems panel shown ys items
  items-moved panel shown items are = record {
    once = λ key. are.once key ∙ ap {B = ℕ} (λ (b : Bool). cond (shown key && b) 1 0) (has key);
    sums = All-from_recursion (λ item. item ≡ item_of item.key ys) items
        (all-weaker (λ item. item ≡ item_of item.key xs) (λ item. item ≡ item_of item.key ys) (λ item sums. sums ∙ sym (own item.key)) items (recursion_from_All _ items are.sums));
    ordered = are.ordered;
  }

  row-moved : (general : General) (most : ℕ) (item : SourceRow) (row : Row) → IsRow general most xs item row → IsRow general most ys item row
  row-moved general most item row is = record {
    is_item = is.is_item;
    children = record {
      entries = is.children.entries;
      are_entries = items-moved item.key.panel (is_child item.key) is.children.entries is.children.are_entries;
      shown = is.children.shown;
    };
  }

  rows-moved : (general : General) (most : ℕ) (items : List SourceRow) (rows : List Row) → Pairwise (IsRow general most xs) items rows → Pairwise (IsRow general most ys) items rows
  rows-moved general most [] [] pairs = pairs
  rows-moved general most [] (row ∷ rows) pairs = pairs
  rows-moved general most (item ∷ items) [] pairs = pairs
  rows-moved general most (item ∷ items) (row ∷ rows) pairs = (row-moved general most item row pairs.0, rows-moved general most items rows pairs.1)

  lists-moved : (general : General) (most : ℕ) (panels : List Panel) (lists : List PanelList) → Pairwise (IsPanelList general most xs) panels lists → Pairwise (IsPanelList general most ys) panels lists
  lists-moved general most [] [] pairs = pairs
  lists-moved general most [] (list ∷ lists) pairs = pairs
  lists-moved general most (panel ∷ panels) [] pairs = pairs
  lists-moved general most (panel ∷ panels) (list ∷ lists) pairs =
      let is = pairs.0 in (
        record {
          is_panel = is.is_panel;
          items = is.items;
          are_items = items-moved panel (is_row panel) is.items is.are_items;
          shown = rows-moved general most _ list.rows is.shown;
        },
        lists-moved general most panels lists pairs.1,
      )

pub report-alike : (a b : SourceValue) (set : List Bool) (most : ℕ) (spec : DateSpec) (report : Report) → SameSource a b → IsReport a set most spec report → IsReport b set most spec report
report-alike a b set most spec report alike is =
    let h = days-moved a.rows b.rows alike.rows (λ row. row.sums.hits) in
    let v = days-moved a.rows b.rows alike.rows (λ row. row.visitors) in
    let w = days-moved a.rows b.rows alike.rows (λ row. row.sums.bytes) in
    let general : general_of a ≡ general_of b = λ i. record {
      total_requests = (alike.totals i).lines;
      valid_requests = sym h i;
      failed_requests = (alike.totals i).failed;
      excluded_hits = (alike.totals i).excluded;
      unique_visitors = sym v i;
      bandwidth = sym w i;
    } in
    record {
      general = is.general ∙ general;
      panels = lists-moved (shown_rows spec a.rows) (shown_rows spec b.rows) (has-shown spec a.rows b.rows alike.rows) (item-shown spec a.rows b.rows alike.rows) (general_of b) most (panels_of set) report.panels
          (subst (λ (g : General). Pairwise (IsPanelList g most (shown_rows spec a.rows)) (panels_of set) report.panels) general is.panels);
    }
