-- The keys of a record are keys of its day.
use Rattle.std.proofs.Common.{◌≡◌, ℕ, ◌<◌, true, false, List, [], ◌∷◌, ◌++◌, IfSome, refl, arith}
use Rattle.std.specs.Prelude.{Contains}
use Rattle.std.proofs.lemmas.List.Elements.{All-from_recursion}
use Rattle.ga_agents.specs.Classes.{HasNames}
use Rattle.ga_base.specs.Days.{HasEightDigits, eight_digits}
use Rattle.ga_base.specs.Layers.{HasForm, day_key}
use Rattle.ga_base.specs.Panels.{is_same_panel}
use Rattle.ga_base.specs.declared.key.Key.{Key}
use Rattle.ga_base.specs.declared.panel.Panel.TheVariants.{Visitors}
use Rattle.ga_base.specs.declared.record.Record.{Record}
use Rattle.ga_panels.specs.Facts.{Facts}
use Rattle.ga_panels.specs.Form.{AreKeysOfDay}
use Rattle.ga_panels.specs.Labels.{part_digits, part_parent}
use Rattle.ga_panels.specs.Table.{PanelRow, counted_key, row, table, table_keys, with_group}
use Rattle.ga_panels.specs.declared.setup.PanelSetup.{PanelSetup}
use Rattle.ga_panels.proofs.RowForms.{rows_formed, rows_stand}
use Rattle.ga_panels.proofs.RowKeys.{AreOfPanel, IsFormed, all-weaker, row_gives, rows_layers, rows_own, rows_rise}

pub first_is : (key : Key) (keys : List Key) → Contains (key ∷ keys) key
first_is key keys = (0, omega arith, refl)

module _ (setup : PanelSetup) (rec : Record) (facts : Facts) where
  abbrev keys_of_row : PanelRow → List Key
  keys_of_row row = with_group (counted_key setup.panels rec row)

  -- the first key is the day's: by itself, or beside that of a part of the day, whose parent has the day's digits
  day_first : (part : List ℕ) (rest : List Key) → Contains (keys_of_row (row Visitors true (part_parent rec.date part) (eight_digits rec.date ++ part) false) ++ rest) (day_key rec.date)
  unfolding is_same_panel
  day_first [] rest = first_is (day_key rec.date) rest
  day_first (digit ∷ part) rest =
      first_is (day_key rec.date) (record { panel = Visitors; date = rec.date; parent = part_parent rec.date (digit ∷ part); label = eight_digits rec.date ++ digit ∷ part; method = []; protocol = [] } ∷ rest)

  day_is : Contains (table_keys setup rec facts) (day_key rec.date)
  day_is = day_first (part_digits setup.date_spec rec.minute) _

  pub keys_of_day : HasEightDigits rec.date → IfSome rec.minute (λ m. m < 1440) → HasNames facts.agent → AreKeysOfDay rec.date (table_keys setup rec facts)
  keys_of_day dated timed named =
      let rows = table setup rec facts in
      let give = all-weaker (λ row. row.has_key ≡ true → IsFormed rec.date row) (λ row. AreOfPanel rec.date row.panel (keys_of_row row)) (λ row formed. row_gives setup.panels rec row dated formed) rows (rows_formed setup rec facts timed named) in
      let own = rows_own rec.date keys_of_row rows give in
      let keys = table_keys setup rec facts in
      record {
        rising = rows_rise rec.date keys_of_row 0 rows (rows_stand setup rec facts) give;
        dated = All-from_recursion (λ (key : Key). key.date ≡ rec.date) keys (all-weaker (λ (key : Key). (key.date ≡ rec.date) × HasForm key) (λ (key : Key). key.date ≡ rec.date) (λ key o. o.0) keys own);
        formed = All-from_recursion HasForm keys (all-weaker (λ (key : Key). (key.date ≡ rec.date) × HasForm key) HasForm (λ key o. o.1) keys own);
        day = day_is;
        layers = rows_layers rec.date keys_of_row 0 rows (rows_stand setup rec facts) give;
      }
