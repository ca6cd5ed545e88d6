-- In a sound summary each row's sums are at most the limit, so two of them fit 64 bits.
use Rattle.std.proofs.Common.{◌≡◌, ℕ, zero, suc, ◌<◌, ◌≤◌, Bool, true, false, cond, ◌&&◌, ◌==◌, List, [], ◌∷◌, Option, Some, None, Box, length, get_or, filter, sum_by, refl, ap, ◌∙◌, eq-eqb, arith}
use Rattle.std.specs.List.{All, AllByRecursion, Contains}
use Rattle.std.specs.List.Sorted.{IsStrictlySortedBy}
use Rattle.std.proofs.lemmas.List.Sums.{sum_by-cons}
use Rattle.std.proofs.lemmas.List.Elements.{All-from_recursion, All-weaker, All-contains_itself, recursion_from_All}
use Rattle.std.specs.Option.{option_map_or, option_map}
use Rattle.ga_base.specs.declared.counts.Sums.{Sums}
use Rattle.ga_base.specs.declared.counts.TheConstants.{LIMIT}
use Rattle.ga_base.specs.declared.key.Key.{Key}
use Rattle.ga_base.specs.declared.panel.Panel.{Panel}
use Rattle.ga_base.specs.declared.panel.Panel.TheVariants.{Visitors}
use Rattle.ga_summary.specs.declared.entry.Entry.{Entry}
use Rattle.ga_base.specs.Orders.{name_cmp, is_same_key}
use Rattle.ga_summary.specs.SummaryRows.{SummaryRow, SummaryValue, IsInOrder, row_at, sums_at, no_sums}
use Rattle.ga_summary.specs.Steps.Entries.{AllClosed, IsClosed, entry_names, rows_of, row_of}
use Rattle.ga_summary.specs.Steps.Room.{AreSmall, AllCanGrow, CanGrow, SumsFit, entry_at, HasRoom, HasPlace, AllHaveRoom, AllHavePlace}
use Rattle.ga_summary.specs.Sound.{IsSound}
use Rattle.ga_base.specs.Layers.{day_key, Layer, in_layer, is_day, is_flag, is_empty, layer_of}
use Rattle.ga_base.specs.Panels.{is_same_panel, panel_number}
use Rattle.ga_summary.proofs.Merging.{sum_by-filter, all-row_at}
use Rattle.ga_summary.proofs.Put.{equal_from_is_eq, find-map}
use Rattle.ga_base.proofs.OrderLemmas.{key_cmp_exact}

-- small sums fit together
pub small_fit : (a b : Sums) → AreSmall a → AreSmall b → SumsFit a b
small_fit a b s t = record {
  hits = omega (arith, s.hits, t.hits);
  bytes = omega (arith, s.bytes, t.bytes);
  micros = omega (arith, s.micros, t.micros);
}

pub is_same_panel-itself : (panel : Panel) → is_same_panel panel panel ≡ true
unfolding is_same_panel
is_same_panel-itself panel = eq-eqb (panel_number panel) (panel_number panel) refl

is_flag-itself : (b : Bool) → is_flag b b ≡ true
is_flag-itself true = refl
is_flag-itself false = refl

-- one of the rows that pass a test has at most what they have together
part_of_sum : (f : SummaryRow → ℕ) (test : SummaryRow → Bool) (rows : List SummaryRow) (row : SummaryRow) → Contains rows row → test row ≡ true → f row ≤ sum_by f (filter test rows)
part_of_sum f test rows row at pass = rw (sum_by-filter f test rows) (go rows at.0 at.1 at.2)
  where
    go : (rows : List SummaryRow) (k : ℕ) → k < length rows → get_or rows k row ≡ row → f row ≤ sum_by (λ r. cond (test r) (f r) 0) rows
    go [] k lt e = absurd (omega arith)
    go (x ∷ rows) zero lt e =
        let w = λ (r : SummaryRow). cond (test r) (f r) 0 in
        let here : cond (test x) (f x) 0 ≡ f row = rw (e, pass) in
        omega (arith, sum_by-cons w x rows)
    go (x ∷ rows) (suc k) lt e =
        let w = λ (r : SummaryRow). cond (test r) (f r) 0 in
        omega (arith, sum_by-cons w x rows, go rows k (omega arith) e)

-- so has the one that is found at a key that passes
found_of_sum : (f : SummaryRow → ℕ) (test : Key → Bool) (rows : List SummaryRow) (key : Key) → test key ≡ true → option_map_or f (row_at rows key) 0 ≤ sum_by f (filter (λ row. test row.key) rows)
found_of_sum f test rows key pass = rw (sum_by-filter f (λ row. test row.key) rows) (go rows)
  where
    go : (rows : List SummaryRow) → option_map_or f (row_at rows key) 0 ≤ sum_by (λ row. cond (test row.key) (f row) 0) rows
    go [] = omega arith
    go (x ∷ rows) =
        let w = λ (row : SummaryRow). cond (test row.key) (f row) 0 in
        let rest = go rows in
        elim (is_same_key key x.key) as (λ v. is_same_key key x.key ≡ v → option_map_or f (cond v (Some x) (row_at rows key)) 0 ≤ sum_by w (x ∷ rows)) [
          | true ↦ λ same.
              let same_key : key ≡ x.key = key_cmp_exact key x.key (equal_from_is_eq _ same) in
              let here : cond (test x.key) (f x) 0 ≡ f x = rw (← same_key, pass) in
              omega (arith, sum_by-cons w x rows)
          | false ↦ λ other. omega (arith, sum_by-cons w x rows)
        ] refl

module _ (s : SummaryValue) (sound : IsSound s) where
  -- a day's row has at most the totals
  day_small : (date : ℕ) → AreSmall (sums_at s.rows (day_key date))
  day_small date =
      let pass : is_day (day_key date) ≡ true = rw (is_same_panel-itself Visitors) refl in
      let test = λ (key : Key). is_day key in
      let hits = found_of_sum (λ (row : SummaryRow). row.sums.hits) test s.rows (day_key date) pass in
      let bytes = found_of_sum (λ (row : SummaryRow). row.sums.bytes) test s.rows (day_key date) pass in
      let micros = found_of_sum (λ (row : SummaryRow). row.sums.micros) test s.rows (day_key date) pass in
      small (row_at s.rows (day_key date)) (omega (arith, hits, sound.totals.days.hits, sound.totals.lines, sound.totals.fit.lines)) (omega (arith, bytes, sound.totals.days.bytes, sound.totals.fit.bytes)) (omega (arith, micros, sound.totals.days.micros, sound.totals.fit.micros))
    where
      small : (o : Option SummaryRow) → option_map_or (λ (row : SummaryRow). row.sums.hits) o 0 ≤ LIMIT → option_map_or (λ (row : SummaryRow). row.sums.bytes) o 0 ≤ LIMIT → option_map_or (λ (row : SummaryRow). row.sums.micros) o 0 ≤ LIMIT → AreSmall (option_map_or (λ (row : SummaryRow). row.sums) o no_sums)
      small None h b m = record { hits = h; bytes = b; micros = m }
      small (Some row) h b m = record { hits = h; bytes = b; micros = m }

  row_small : (row : SummaryRow) → Contains s.rows row → AreSmall row.sums
  row_small row at =
      let layer : Layer = layer_of row.key in
      let test = λ (r : SummaryRow). (r.key.date == row.key.date) && in_layer layer r.key in
      let pass : test row ≡ true = rw (eq-eqb row.key.date row.key.date refl, is_same_panel-itself row.key.panel, is_flag-itself (is_empty row.key.parent)) (is_flag-itself (is_empty row.key.label)) in
      let day = day_small row.key.date in
      let within = sound.rows.layers layer row.key.date in
      record {
        hits = omega (arith, part_of_sum (λ (r : SummaryRow). r.sums.hits) test s.rows row at pass, within.hits, day.hits);
        bytes = omega (arith, part_of_sum (λ (r : SummaryRow). r.sums.bytes) test s.rows row at pass, within.bytes, day.bytes);
        micros = omega (arith, part_of_sum (λ (r : SummaryRow). r.sums.micros) test s.rows row at pass, within.micros, day.micros);
      }

  pub rows_small : All (λ row. AreSmall row.sums) s.rows
  rows_small = All-weaker (Contains s.rows) (λ row. AreSmall row.sums) row_small s.rows (All-contains_itself s.rows)

module _ {A : Type 0} (entries : List (Box Entry A)) (ordered : IsInOrder (rows_of entries)) (small : All (λ (row : SummaryRow). AreSmall row.sums) (rows_of entries)) where
  row_at-entry : (key : Key) (boxed : Box Entry A) → entry_at entries key ≡ Some boxed → row_at (rows_of entries) key ≡ Some (row_of boxed.value)
  row_at-entry key boxed found = find-map (λ (row : SummaryRow). is_same_key key row.key) (λ (b : Box Entry A). row_of b.value) entries ∙ ap (option_map (λ (b : Box Entry A). row_of b.value)) found

  place_from_room : (more : Entry) → AreSmall more.sums → IsStrictlySortedBy name_cmp (entry_names more) → IsClosed more → HasRoom entries more → HasPlace entries more
  place_from_room more more_small more_rises closed room boxed found =
      let row = row_at-entry more.key boxed found in
      let here = all-row_at (λ (r : SummaryRow). AreSmall r.sums) (rows_of entries) more.key (row_of boxed.value) small row in
      record {
        rising = all-row_at (λ (r : SummaryRow). IsStrictlySortedBy name_cmp r.names) (rows_of entries) more.key (row_of boxed.value) ordered.names row;
        rising_more = rw closed at more_rises;
        closed_more = closed;
        room = room boxed found;
        sums = small_fit boxed.value.sums more.sums here more_small;
      }

  -- where there is room for all names, all entries have their places
  pub places_from_room : (more : List (Box Entry A)) → All (λ (row : SummaryRow). AreSmall row.sums) (rows_of more) → All (λ (row : SummaryRow). IsStrictlySortedBy name_cmp row.names) (rows_of more) → AllClosed more → AllHaveRoom entries more → AllHavePlace entries more
  places_from_room more more_small more_rise closed room = go more (recursion_from_All _ (rows_of more) more_small) (recursion_from_All _ (rows_of more) more_rise) (recursion_from_All (λ (b : Box Entry A). IsClosed b.value) more closed) (recursion_from_All (λ (b : Box Entry A). HasRoom entries b.value) more room)
    where
      go : (more : List (Box Entry A)) → AllByRecursion (λ (row : SummaryRow). AreSmall row.sums) (rows_of more) → AllByRecursion (λ (row : SummaryRow). IsStrictlySortedBy name_cmp row.names) (rows_of more) → AllByRecursion (λ (b : Box Entry A). IsClosed b.value) more → AllByRecursion (λ (b : Box Entry A). HasRoom entries b.value) more → AllHavePlace entries more
      go [] p r c q = tt
      go (boxed ∷ more) p r c q = (place_from_room boxed.value p.0 r.0 c.0 q.0, go more p.1 r.1 c.1 q.1)

-- the closed entries of a summary can grow
pub entries_can_grow : {A : Type 0} (entries : List (Box Entry A)) → All (λ (row : SummaryRow). AreSmall row.sums) (rows_of entries) → All (λ (row : SummaryRow). IsStrictlySortedBy name_cmp row.names) (rows_of entries) → AllClosed entries → AllCanGrow entries
entries_can_grow {A} entries small rise closed = All-from_recursion (λ (b : Box Entry A). CanGrow b.value) entries (go entries (recursion_from_All _ (rows_of entries) small) (recursion_from_All _ (rows_of entries) rise) (recursion_from_All (λ (b : Box Entry A). IsClosed b.value) entries closed))
  where
    go : (entries : List (Box Entry A)) → AllByRecursion (λ (row : SummaryRow). AreSmall row.sums) (rows_of entries) → AllByRecursion (λ (row : SummaryRow). IsStrictlySortedBy name_cmp row.names) (rows_of entries) → AllByRecursion (λ (b : Box Entry A). IsClosed b.value) entries → AllByRecursion (λ (b : Box Entry A). CanGrow b.value) entries
    go [] p r c = tt
    go (boxed ∷ entries) p r c = (record { closed = c.0; rising = r.0; small = p.0 }, go entries p.1 r.1 c.1)
