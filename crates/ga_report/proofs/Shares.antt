-- What an item has together is at most what the days have.
use Rattle.std.proofs.Common.{◌≡◌, ℕ, ◌+◌, ◌≤◌, ◌==◌, ◌&&◌, ◌||◌, Bool, true, false, cond, List, [], ◌∷◌, filter, map, sum_by, refl, sym, ap, ◌∙◌, arith, eq-eqb, All}
use Rattle.std.specs.Ordering.{is_eq}
use Rattle.std.specs.List.{AllByRecursion, IsDistinct, list_any}
use Rattle.std.proofs.lemmas.Bool.{false≢true}
use Rattle.std.proofs.lemmas.Bool.Decides.{Decides-eqb}
use Rattle.std.proofs.lemmas.Cmp.{tied_itself}
use Rattle.std.proofs.lemmas.List.Elements.{recursion_from_All}
use Rattle.std.proofs.lemmas.List.Sums.{sum_by-cons}
use Rattle.ga_base.specs.declared.key.Key.{Key}
use Rattle.ga_base.specs.declared.panel.Panel.{Panel}
use Rattle.ga_base.specs.Layers.{Layer, in_layer, is_flag, is_empty, layer_of}
use Rattle.ga_base.specs.Orders.{is_same_key}
use Rattle.ga_base.specs.Panels.{is_same_panel, panel_number}
use Rattle.ga_base.proofs.OrderLemmas.{key_cmp_total}
use Rattle.ga_report.specs.Source.{SourceRow, SourceValue}
use Rattle.ga_report.specs.Items.{is_of, of_item, item_of}
use Rattle.ga_report.specs.Reports.{general_of}
use Rattle.ga_report.specs.SoundRows.{AreSound, SumsFit, SumsWithin, day_rows, layer_rows}
use Rattle.ga_report.specs.Steps.Summed.{undate, IsPart}
use Rattle.ga_report.proofs.ItemSums.{same-item}
use Rattle.ga_report.proofs.Lists.{all-weaker, map-all, sum-among, sum_by-filter}

module _ (f : SourceRow → ℕ) where
  abbrev weight : (SourceRow → Bool) → SourceRow → ℕ
  weight test row = cond (test row) (f row) 0

  abbrev total : (SourceRow → Bool) → List SourceRow → ℕ
  total test rows = sum_by (weight test) rows

  weaker-one : (a b : Bool) (n : ℕ) → (a ≡ true → b ≡ true) → cond a n 0 ≤ cond b n 0
  weaker-one true b n h = rw (h refl) (omega arith)
  weaker-one false b n h = omega arith

  -- where more rows pass, they sum to more
  weaker : (p q : SourceRow → Bool) → ((row : SourceRow) → p row ≡ true → q row ≡ true) → (rows : List SourceRow) → total p rows ≤ total q rows
  weaker p q h [] = omega arith
  weaker p q h (x ∷ xs) = omega (arith, sum_by-cons (weight p) x xs, sum_by-cons (weight q) x xs, weaker-one (p x) (q x) (f x) (h x), weaker p q h xs)

  none-pass : (p : SourceRow → Bool) (rows : List SourceRow) → AllByRecursion (λ row. p row ≡ true → false ≡ true) rows → total p rows ≤ 0
  none-pass p [] none = omega arith
  none-pass p (x ∷ xs) none = omega (arith, sum_by-cons (weight p) x xs, weaker-one (p x) false (f x) none.0, none-pass p xs none.1)

  split-one : (d a : Bool) (n : ℕ) → cond a n 0 ≤ cond (d && a) n 0 + cond (cond d false a) n 0
  split-one true a n = omega arith
  split-one false a n = omega arith

  split : (d p : SourceRow → Bool) (rows : List SourceRow) → total p rows ≤ total (λ row. d row && p row) rows + total (λ row. cond (d row) false (p row)) rows
  split d p [] = omega arith
  split d p (x ∷ xs) =
      omega (arith, sum_by-cons (weight p) x xs, sum_by-cons (weight (λ row. d row && p row)) x xs, sum_by-cons (weight (λ row. cond (d row) false (p row))) x xs, split-one (d x) (p x) (f x), split d p xs)

  -- whether a row is of the day of another
  abbrev of-day : SourceRow → SourceRow → Bool
  of-day day row = row.key.date == day.key.date

  later : (d p any : Bool) → (p ≡ true → (d || any) ≡ true) → cond d false p ≡ true → any ≡ true
  later true p any h e = absurd (false≢true e)
  later false p any h e = h e

  both : (d p : Bool) → cond d false p ≡ true → p ≡ true
  both true p e = absurd (false≢true e)
  both false p e = e

  and-both : (a d p : Bool) → (a && cond d false p) ≡ true → (a && p) ≡ true
  and-both true d p e = both d p e
  and-both false d p e = e

  -- rows whose days are all there sum to at most what the days sum to, where each day's do
  cover : (p : SourceRow → Bool) (rows days : List SourceRow) → AllByRecursion (λ row. p row ≡ true → list_any (λ day. of-day day row) days ≡ true) rows
      → AllByRecursion (λ day. total (λ row. of-day day row && p row) rows ≤ f day) days → total p rows ≤ sum_by f days
  cover p rows [] dated within = none-pass p rows dated
  cover p rows (day ∷ days) dated within =
      let off = λ (row : SourceRow). cond (of-day day row) false (p row) in
      let rest = cover off rows days
      (all-weaker (λ row. p row ≡ true → list_any (λ d. of-day d row) (day ∷ days) ≡ true) (λ row. off row ≡ true → list_any (λ d. of-day d row) days ≡ true)
      (λ row h. later (of-day day row) (p row) (list_any (λ d. of-day d row) days) h) rows dated)
      (all-weaker (λ d. total (λ row. of-day d row && p row) rows ≤ f d) (λ d. total (λ row. of-day d row && off row) rows ≤ f d)
      (λ d h. omega (arith, h, weaker (λ row. of-day d row && off row) (λ row. of-day d row && p row) (λ row. and-both (of-day d row) (of-day day row) (p row)) rows)) days within.1) in
      omega (arith, sum_by-cons f day days, split (of-day day) p rows, within.0, rest)

  -- of rows whose keys are different, one at the most has a key
  one-row : (k : Key) (n : ℕ) (q : SourceRow → Bool) (rows : List SourceRow) → IsDistinct is_same_key (map (λ row. row.key) rows) → ((row : SourceRow) → q row ≡ true → row.key ≡ k)
      → AllByRecursion (λ row. q row ≡ true → f row ≤ n) rows → total q rows ≤ n
  unfolding IsDistinct
  one-row k n q [] apart is within = omega arith
  one-row k n q (x ∷ xs) apart is within = go (q x) refl (one-row k n q xs apart.1 is within.1)
    where
      not-again : q x ≡ true → (y : SourceRow) → is_same_key x.key y.key ≡ false → q y ≡ true → false ≡ true
      not-again here y other e =
          let same : is_same_key x.key y.key ≡ true = rw (is x here, is y e) (ap is_eq (tied_itself key_cmp_total k)) in
          absurd (false≢true (sym other ∙ same))

      go : (b : Bool) → q x ≡ b → total q xs ≤ n → total q (x ∷ xs) ≤ n
      go true here rest =
          let others = map-all (λ (row : SourceRow). row.key) (λ b. is_same_key x.key b ≡ false) xs apart.0 in
          let none = none-pass q xs (all-weaker (λ y. is_same_key x.key y.key ≡ false) (λ y. q y ≡ true → false ≡ true) (not-again here) xs others) in
          omega (arith, sum_by-cons (weight q) x xs, weaker-one (q x) true (f x) (λ e. refl), none, within.0 here)
      go false other rest =
          omega (arith, sum_by-cons (weight q) x xs, weaker-one (q x) false (f x) (λ e. sym other ∙ e), rest)

and-left : (a b : Bool) → (a && b) ≡ true → a ≡ true
and-left true b e = refl
and-left false b e = e

and-right : (a b : Bool) → (a && b) ≡ true → b ≡ true
and-right true b e = e
and-right false b e = absurd (false≢true e)

and-more : (a b c : Bool) → (b ≡ true → c ≡ true) → (a && b) ≡ true → (a && c) ≡ true
and-more true b c h e = h e
and-more false b c h e = e

same_panel-itself : (panel : Panel) → is_same_panel panel panel ≡ true
unfolding is_same_panel
same_panel-itself panel = eq-eqb (panel_number panel) (panel_number panel) refl

is_flag-itself : (b : Bool) → is_flag b b ≡ true
is_flag-itself true = refl
is_flag-itself false = refl

and-true : (a b : Bool) → a ≡ true → b ≡ true → (a && b) ≡ true
and-true a b e h = rw (e, h) refl

in-own-layer : (key : Key) (row : SourceRow) → is_of key row ≡ true → in_layer (layer_of key) row.key ≡ true
in-own-layer key row e =
    ap (λ (k : Key). in_layer (layer_of key) k) (same-item key row e)
    ∙ and-true (is_same_panel key.panel key.panel) (is_flag (is_empty key.parent) (is_empty key.parent) && is_flag (is_empty key.label) (is_empty key.label)) (same_panel-itself key.panel)
    (and-true (is_flag (is_empty key.parent) (is_empty key.parent)) (is_flag (is_empty key.label) (is_empty key.label)) (is_flag-itself (is_empty key.parent)) (is_flag-itself (is_empty key.label)))

-- the key of an item on a day
abbrev on-day : Key → ℕ → Key
on-day key date = record { panel = key.panel; date = date; parent = key.parent; label = key.label; method = key.method; protocol = key.protocol }

is-on-day : (key : Key) (date : ℕ) (row : SourceRow) → ((row.key.date == date) && is_of key row) ≡ true → row.key ≡ on-day key date
is-on-day key date row e =
    let same = same-item key row (and-right (row.key.date == date) (is_of key row) e) in
    let day : row.key.date ≡ date = (Decides-eqb row.key.date date).0 (and-left (row.key.date == date) (is_of key row) e) in
    λ i. record { panel = (same i).panel; date = day i; parent = (same i).parent; label = (same i).label; method = (same i).method; protocol = (same i).protocol }

module _ (rows : List SourceRow) (sound : AreSound rows) (key : Key) where
  covered : (f : SourceRow → ℕ) → AllByRecursion (λ day. total f (λ row. of-day f day row && is_of key row) rows ≤ f day) (day_rows rows) → sum_by f (of_item key rows) ≤ sum_by f (day_rows rows)
  covered f within =
      let dated = all-weaker (λ row. list_any (λ day. row.key.date == day.key.date) (day_rows rows) ≡ true) (λ row. is_of key row ≡ true → list_any (λ day. of-day f day row) (day_rows rows) ≡ true)
      (λ row h of. h) rows (recursion_from_All _ rows sound.dated) in
      omega (arith, sum_by-filter f (is_of key) rows, cover f (is_of key) rows (day_rows rows) dated within)

  in-layers : (f : SourceRow → ℕ) → ((day : SourceRow) → ((layer : Layer) → sum_by f (layer_rows layer day.key.date rows) ≤ f day) → total f (λ row. of-day f day row && is_of key row) rows ≤ f day)
  in-layers f day within =
      let of = λ (row : SourceRow). (row.key.date == day.key.date) && in_layer (layer_of key) row.key in
      omega (
        arith,
        weaker f (λ row. of-day f day row && is_of key row) of (λ row. and-more (of-day f day row) (is_of key row) (in_layer (layer_of key) row.key) (in-own-layer key row)) rows,
        sum_by-filter f of rows,
        within (layer_of key),
      )

  pub hits-within : sum_by (λ row. row.sums.hits) (of_item key rows) ≤ sum_by (λ row. row.sums.hits) (day_rows rows)
  hits-within = covered (λ row. row.sums.hits) (all-weaker (λ day. (layer : Layer) → SumsWithin (layer_rows layer day.key.date rows) day.sums) (λ day. total (λ row. row.sums.hits) (λ row. (row.key.date == day.key.date) && is_of key row) rows ≤ day.sums.hits)
      (λ day w. in-layers (λ row. row.sums.hits) day (λ layer. (w layer).hits)) (day_rows rows) (recursion_from_All _ (day_rows rows) sound.layers))

  pub bytes-within : sum_by (λ row. row.sums.bytes) (of_item key rows) ≤ sum_by (λ row. row.sums.bytes) (day_rows rows)
  bytes-within = covered (λ row. row.sums.bytes) (all-weaker (λ day. (layer : Layer) → SumsWithin (layer_rows layer day.key.date rows) day.sums) (λ day. total (λ row. row.sums.bytes) (λ row. (row.key.date == day.key.date) && is_of key row) rows ≤ day.sums.bytes)
      (λ day w. in-layers (λ row. row.sums.bytes) day (λ layer. (w layer).bytes)) (day_rows rows) (recursion_from_All _ (day_rows rows) sound.layers))

  pub micros-within : sum_by (λ row. row.sums.micros) (of_item key rows) ≤ sum_by (λ row. row.sums.micros) (day_rows rows)
  micros-within = covered (λ row. row.sums.micros) (all-weaker (λ day. (layer : Layer) → SumsWithin (layer_rows layer day.key.date rows) day.sums) (λ day. total (λ row. row.sums.micros) (λ row. (row.key.date == day.key.date) && is_of key row) rows ≤ day.sums.micros)
      (λ day w. in-layers (λ row. row.sums.micros) day (λ layer. (w layer).micros)) (day_rows rows) (recursion_from_All _ (day_rows rows) sound.layers))

  visitors-on : (day : SourceRow) → All (λ row. row.key.date ≡ day.key.date → row.visitors ≤ day.visitors) rows → total (λ row. row.visitors) (λ row. (row.key.date == day.key.date) && is_of key row) rows ≤ day.visitors
  visitors-on day within =
      one-row (λ row. row.visitors) (on-day key day.key.date) day.visitors (λ row. (row.key.date == day.key.date) && is_of key row) rows sound.different (is-on-day key day.key.date)
      (all-weaker (λ row. row.key.date ≡ day.key.date → row.visitors ≤ day.visitors) (λ row. ((row.key.date == day.key.date) && is_of key row) ≡ true → row.visitors ≤ day.visitors)
      (λ row h e. h ((Decides-eqb row.key.date day.key.date).0 (and-left (row.key.date == day.key.date) (is_of key row) e))) rows (recursion_from_All _ rows within))

  pub visitors-within : sum_by (λ row. row.visitors) (of_item key rows) ≤ sum_by (λ row. row.visitors) (day_rows rows)
  visitors-within = covered (λ row. row.visitors) (all-weaker (λ day. All (λ row. row.key.date ≡ day.key.date → row.visitors ≤ day.visitors) rows)
      (λ day. total (λ row. row.visitors) (λ row. (row.key.date == day.key.date) && is_of key row) rows ≤ day.visitors) visitors-on (day_rows rows) (recursion_from_All _ (day_rows rows) sound.visits))

  pub item-fits : SumsFit (of_item key rows)
  item-fits = record {
    hits = omega (arith, hits-within, sound.fit.hits);
    visitors = omega (arith, visitors-within, sound.fit.visitors);
    bytes = omega (arith, bytes-within, sound.fit.bytes);
    micros = omega (arith, micros-within, sound.fit.micros);
  }

-- an item of some of the rows is a part of the whole
pub is-part : (source : SourceValue) (t : SourceRow → Bool) → AreSound source.rows → (item : SourceRow) → undate item ≡ item_of item.key (filter t source.rows) → IsPart (general_of source) item
is-part source t sound item e =
    let of = is_of item.key in
    record {
      hits = omega (arith, ap (λ (r : SourceRow). r.sums.hits) e, sum-among (λ (r : SourceRow). r.sums.hits) of t source.rows, hits-within source.rows sound item.key);
      visitors = omega (arith, ap (λ (r : SourceRow). r.visitors) e, sum-among (λ (r : SourceRow). r.visitors) of t source.rows, visitors-within source.rows sound item.key);
      bytes = omega (arith, ap (λ (r : SourceRow). r.sums.bytes) e, sum-among (λ (r : SourceRow). r.sums.bytes) of t source.rows, bytes-within source.rows sound item.key);
    }
