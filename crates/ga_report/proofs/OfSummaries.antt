-- What a summary has is sound.
use Rattle.std.proofs.Common.{◌≡◌, ℕ, suc, ◌+◌, ◌≤◌, ◌==◌, ◌&&◌, ◌||◌, Bool, true, false, cond, List, [], ◌∷◌, Option, Some, Less, Equal, Greater, length, filter, map, sum_by, refl, ap, sym, ◌∙◌, subst, inl, inr, arith, eq-eqb, All}
use Rattle.std.specs.declared.cmp.Ordering.{Ordering}
use Rattle.std.specs.Ordering.{is_eq, ordering_reverse}
use Rattle.std.specs.Option.{is_some, option_map_or}
use Rattle.std.specs.List.{AllByRecursion, IsDistinct, list_any}
use Rattle.std.specs.List.Sorted.{IsStrictlySortedBy}
use Rattle.std.proofs.lemmas.Bool.{false≢true}
use Rattle.std.proofs.lemmas.Bool.Decides.{Decides-eqb}
use Rattle.std.proofs.lemmas.Cmp.{tied_itself}
use Rattle.std.proofs.lemmas.List.Elements.{All-from_recursion, recursion_from_All}
use Rattle.std.proofs.lemmas.List.Sums.{sum_by-cons}
use Rattle.std.proofs.lemmas.Map.Keys.{IsDistinct-from_sorted}
use Rattle.ga_base.specs.declared.counts.Sums.{Sums}
use Rattle.ga_base.specs.declared.key.Key.{Key}
use Rattle.ga_base.specs.declared.key.Visitor.{Visitor}
use Rattle.ga_base.specs.declared.name.Name.{Name}
use Rattle.ga_base.specs.declared.panel.Panel.{Panel}
use Rattle.ga_base.specs.declared.panel.Panel.TheVariants.{Visitors}
use Rattle.ga_base.specs.Days.{eight_digits}
use Rattle.ga_base.specs.Layers.{IsDayOrPart, Layer, day_key, in_layer, is_day, is_empty}
use Rattle.ga_base.specs.Orders.{key_cmp, is_same_key, is_same_name, name_cmp}
use Rattle.ga_base.specs.Panels.{is_same_panel, panel_number}
use Rattle.ga_base.proofs.OrderLemmas.{key_cmp_total, key_cmp_exact, name_cmp_total, name_cmp_exact, panel_number_exact}
use Rattle.ga_summary.specs.SummaryRows.{SummaryRow, SummaryValue, row_at, sums_at, names_at, no_sums, has_name, has_pair}
use Rattle.ga_summary.specs.Sound.{IsSummary}
use Rattle.ga_report.specs.OfSummary.{source_row}
use Rattle.ga_report.specs.SoundRows.{AreSound, HasDay, SumsFit, SumsWithin, day_rows, layer_rows}
use Rattle.ga_report.specs.Source.{SourceRow}
use Rattle.ga_report.proofs.Lists.{all-weaker, all-both, all-map, all-filter}

-- what a source has of rows that pass a test
pub filter-source : (p : SourceRow → Bool) (xs : List SummaryRow) → filter p (map source_row xs) ≡ map source_row (filter (λ x. p (source_row x)) xs)
filter-source p [] = refl
filter-source p (x ∷ xs) = elim (p (source_row x)) as (λ v. cond v (source_row x ∷ filter p (map source_row xs)) (filter p (map source_row xs)) ≡ map source_row (cond v (x ∷ filter (λ y. p (source_row y)) xs) (filter (λ y. p (source_row y)) xs))) [
  | true ↦ ap (λ (r : List SourceRow). source_row x ∷ r) (filter-source p xs)
  | false ↦ filter-source p xs
]

pub sum-source : (f : SourceRow → ℕ) (xs : List SummaryRow) → sum_by f (map source_row xs) ≡ sum_by (λ x. f (source_row x)) xs
sum-source f [] = refl
sum-source f (x ∷ xs) = sum_by-cons f (source_row x) (map source_row xs) ∙ ap (λ (n : ℕ). f (source_row x) + n) (sum-source f xs) ∙ sym (sum_by-cons (λ y. f (source_row y)) x xs)

sum-filter-source : (f : SourceRow → ℕ) (p : SourceRow → Bool) (xs : List SummaryRow) → sum_by f (filter p (map source_row xs)) ≡ sum_by (λ x. f (source_row x)) (filter (λ x. p (source_row x)) xs)
sum-filter-source f p xs = ap (sum_by f) (filter-source p xs) ∙ sum-source f (filter (λ x. p (source_row x)) xs)

keys-source : (xs : List SummaryRow) → map (λ row. row.key) (map source_row xs) ≡ map (λ row. row.key) xs
keys-source [] = refl
keys-source (x ∷ xs) = ap (λ (r : List Key). x.key ∷ r) (keys-source xs)

pub any-source : (p : SourceRow → Bool) (xs : List SummaryRow) → list_any p (map source_row xs) ≡ list_any (λ x. p (source_row x)) xs
any-source p [] = refl
any-source p (x ∷ xs) = ap (λ (b : Bool). p (source_row x) || b) (any-source p xs)

equal-by : (v : Ordering) → is_eq v ≡ true → v ≡ Equal
equal-by Less e = absurd (false≢true e)
equal-by Equal e = refl
equal-by Greater e = absurd (false≢true e)

found-behind : (x : SummaryRow) (xs ys : List SummaryRow) → AllByRecursion (λ k. key_cmp x.key k ≡ Less) (map (λ row. row.key) ys) → AllByRecursion (λ y. row_at xs y.key ≡ Some y) ys
    → AllByRecursion (λ y. row_at (x ∷ xs) y.key ≡ Some y) ys
found-behind x xs [] above own = tt
found-behind x xs (y ∷ ys) above own =
    let greater : key_cmp y.key x.key ≡ Greater = key_cmp_total.antisymm y.key x.key ∙ ap ordering_reverse above.0 in
    (rw greater own.0, found-behind x xs ys above.1 own.1)

-- each row of a list whose keys rise is the one found at its key
each-found : (xs : List SummaryRow) → IsStrictlySortedBy key_cmp (map (λ row. row.key) xs) → AllByRecursion (λ x. row_at xs x.key ≡ Some x) xs
unfolding IsStrictlySortedBy
each-found [] rises = tt
each-found (x ∷ xs) rises = (rw (tied_itself key_cmp_total x.key) refl, found-behind x xs xs rises.0 (each-found xs rises.1))

same_panel-itself : (panel : Panel) → is_same_panel panel panel ≡ true
unfolding is_same_panel
same_panel-itself panel = eq-eqb (panel_number panel) (panel_number panel) refl

same_panel-exact : (a b : Panel) → is_same_panel a b ≡ true → a ≡ b
unfolding is_same_panel
same_panel-exact a b e = panel_number_exact a b ((Decides-eqb (panel_number a) (panel_number b)).0 e)

same_key : (a b : Key) → a.panel ≡ b.panel → a.date ≡ b.date → a.parent ≡ b.parent → a.label ≡ b.label → a.method ≡ b.method → a.protocol ≡ b.protocol → a ≡ b
same_key a b p d r l m o = λ i. record { panel = p i; date = d i; parent = r i; label = l i; method = m i; protocol = o i }

or-true : (b : Bool) {c : Bool} → c ≡ true → (b || c) ≡ true
or-true true e = refl
or-true false e = e

both-true : (a b : Bool) → (a && b) ≡ true → (a ≡ true) × (b ≡ true)
both-true true b e = (refl, e)
both-true false b e = cc

empty-is : (text : List ℕ) → is_empty text ≡ true → text ≡ []
empty-is [] e = refl
empty-is (b ∷ text) e = cc

-- a key without a parent that is a day's or a part's is a day's
day-label : {date : ℕ} {parent label : List ℕ} → IsDayOrPart date parent label → parent ≡ [] → label ≡ eight_digits date
day-label (inl day) none = day.1
day-label (inr part) none = let clash : [] ≡ eight_digits _ = sym none ∙ part.0 in cc

day-is-day : (date : ℕ) → is_day (day_key date) ≡ true
day-is-day date = rw (same_panel-itself Visitors) refl

abbrev is-day : SummaryRow → Bool
is-day row = is_day row.key

-- a day whose key is there is among the days' rows
day-there : (date : ℕ) (rows : List SummaryRow) → is_some (row_at rows (day_key date)) ≡ true → list_any (λ day. date == day.key.date) (filter is-day rows) ≡ true
day-there date [] e = e
day-there date (x ∷ xs) e = elim (is_same_key (day_key date) x.key) as (λ v. is_same_key (day_key date) x.key ≡ v → is_some (cond v (Some x) (row_at xs (day_key date))) ≡ true → list_any (λ day. date == day.key.date) (filter is-day (x ∷ xs)) ≡ true) [
  | true ↦ λ same here.
      let is : day_key date ≡ x.key = key_cmp_exact (day_key date) x.key (equal-by _ same) in
      let panel : is_day x.key ≡ true = subst (λ (k : Key). is_day k ≡ true) is (day-is-day date) in
      let of : (date == x.key.date) ≡ true = subst (λ (k : Key). (date == k.date) ≡ true) is (eq-eqb date date refl) in
      rw (panel, of) refl
  | false ↦ λ other there. elim (is_day x.key) as (λ v. list_any (λ day. date == day.key.date) (cond v (x ∷ filter is-day xs) (filter is-day xs)) ≡ true) [
    | true ↦ or-true (date == x.key.date) (day-there date xs there)
    | false ↦ day-there date xs there
  ]
] refl e

-- names that rise and are all among others are no more than those
has-itself : (n : Name) → is_same_name n n ≡ true
has-itself n = ap is_eq (tied_itself name_cmp_total n)

take-out : (n : Name) (ms : List Name) → has_name ms n ≡ true → (rest : List Name) × (length ms ≡ suc (length rest)) × ((k : Name) → has_name ms k ≡ true → (is_same_name k n ≡ false) → has_name rest k ≡ true)
take-out n [] e = absurd (false≢true e)
take-out n (m ∷ ms) e = go (is_same_name n m) refl (take-out n ms) e
  where
    drops : n ≡ m → (k : Name) → has_name (m ∷ ms) k ≡ true → is_same_name k n ≡ false → (b : Bool) → is_same_name k m ≡ b → has_name ms k ≡ true
    drops same k has other true e = absurd (false≢true (sym other ∙ subst (λ (x : Name). is_same_name k x ≡ true) (sym same) e))
    drops same k has other false e = sym (ap (λ (b : Bool). b || has_name ms k) e) ∙ has

    keeps : (rest : List Name) → ((k : Name) → has_name ms k ≡ true → is_same_name k n ≡ false → has_name rest k ≡ true)
        → (k : Name) → has_name (m ∷ ms) k ≡ true → is_same_name k n ≡ false → (b : Bool) → is_same_name k m ≡ b → has_name (m ∷ rest) k ≡ true
    keeps rest f k has other true e = ap (λ (b : Bool). b || has_name rest k) e
    keeps rest f k has other false e = or-true (is_same_name k m) (f k (sym (ap (λ (b : Bool). b || has_name ms k) e) ∙ has) other)

    go : (b : Bool) → is_same_name n m ≡ b
        → (has_name ms n ≡ true → (rest : List Name) × (length ms ≡ suc (length rest)) × ((k : Name) → has_name ms k ≡ true → (is_same_name k n ≡ false) → has_name rest k ≡ true))
        → (b || has_name ms n) ≡ true → (rest : List Name) × (length (m ∷ ms) ≡ suc (length rest)) × ((k : Name) → has_name (m ∷ ms) k ≡ true → (is_same_name k n ≡ false) → has_name rest k ≡ true)
    go true h deeper has = (ms, refl, λ k has' other. drops (name_cmp_exact n m (equal-by _ h)) k has' other (is_same_name k m) refl)
    go false h deeper has =
        let r = deeper has in
        (m ∷ r.0, ap suc r.1, λ k has' other. keeps r.0 r.2 k has' other (is_same_name k m) refl)

less-equal : Less ≡ Equal → ⊥
less-equal e = cc

-- a name of those after another is after it, and is another
behind : (n k : Name) (xs : List Name) → AllByRecursion (λ y. name_cmp n y ≡ Less) xs → has_name xs k ≡ true → name_cmp n k ≡ Less
behind n k [] above has = absurd (false≢true has)
behind n k (x ∷ xs) above has = elim (is_same_name k x) as (λ v. is_same_name k x ≡ v → (v || has_name xs k) ≡ true → name_cmp n k ≡ Less) [
  | true ↦ λ same here. subst (λ (y : Name). name_cmp n y ≡ Less) (sym (name_cmp_exact k x (equal-by _ same))) above.0
  | false ↦ λ other there. behind n k xs above.1 there
] refl has

not-first : (n k : Name) → name_cmp n k ≡ Less → (b : Bool) → is_same_name k n ≡ b → b ≡ false
not-first n k less false e = refl
not-first n k less true e =
    let same : k ≡ n = name_cmp_exact k n (equal-by _ e) in
    absurd (less-equal (sym (subst (λ (x : Name). name_cmp n x ≡ Less) same less) ∙ tied_itself name_cmp_total n))

and-true : (a b : Bool) → a ≡ true → b ≡ true → (a && b) ≡ true
and-true a b e h = rw (e, h) refl

and-right : (a b : Bool) → (a && b) ≡ true → b ≡ true
and-right true b e = e
and-right false b e = absurd (false≢true e)

no-more : (ns ms : List Name) → IsStrictlySortedBy name_cmp ns → ((n : Name) → has_name ns n ≡ true → has_name ms n ≡ true) → length ns ≤ length ms
unfolding IsStrictlySortedBy
no-more [] ms up among = omega arith
no-more (n ∷ ns) ms up among =
    let r = take-out n ms (among n (ap (λ (b : Bool). b || has_name ns n) (has-itself n))) in
    let rest = no-more ns r.0 up.1 (λ k has. r.2 k (among k (or-true (is_same_name k n) has)) (apart k has)) in
    omega (arith, r.1, rest)
  where
    apart : (k : Name) → has_name ns k ≡ true → is_same_name k n ≡ false
    apart k has = not-first n k (behind n k ns up.0 has) (is_same_name k n) refl

module _ (s : SummaryValue) (is : IsSummary s) where
  found : AllByRecursion (λ row. row_at s.rows row.key ≡ Some row) s.rows
  found = each-found s.rows is.ordered.keys

  sums-found : (row : SummaryRow) → row_at s.rows row.key ≡ Some row → sums_at s.rows row.key ≡ row.sums
  sums-found row at = ap (λ (o : Option SummaryRow). option_map_or (λ (r : SummaryRow). r.sums) o no_sums) at

  names-found : (row : SummaryRow) → row_at s.rows row.key ≡ Some row → names_at s.rows row.key ≡ row.names
  names-found row at = ap (λ (o : Option SummaryRow). option_map_or (λ (r : SummaryRow). r.names) o []) at

  -- a day's row has the day's key
  day-is : (day : SummaryRow) → is-day day ≡ true → row_at s.rows day.key ≡ Some day → day.key ≡ day_key day.key.date
  day-is day panel at =
      let parts = both-true (is_same_panel day.key.panel Visitors) (is_empty day.key.parent) panel in
      let visitors : day.key.panel ≡ Visitors = same_panel-exact day.key.panel Visitors parts.0 in
      let form = is.sound.rows.form day.key (rw at refl) in
      let request = form.request (rw visitors refl) in
      let none : day.key.parent ≡ [] = empty-is day.key.parent parts.1 in
      same_key day.key (day_key day.key.date) visitors refl none (day-label (form.visit visitors) none) request.0 request.1

  -- each day's row, and what holds of it in the source
  days-all : (Q : SourceRow → Type 0) → ((day : SummaryRow) → day.key ≡ day_key day.key.date → row_at s.rows day.key ≡ Some day → Q (source_row day)) → All Q (day_rows (map source_row s.rows))
  days-all Q h =
      subst (λ (xs : List SourceRow). All Q xs) (sym (filter-source (λ row. is_day row.key) s.rows))
      (All-from_recursion Q (map source_row (filter is-day s.rows)) (all-map source_row Q (filter is-day s.rows)
      (all-filter (λ row. row_at s.rows row.key ≡ Some row) (λ row. Q (source_row row)) is-day (λ day panel at. h day (day-is day panel at) at) s.rows found)))

  rows-all : (Q : SourceRow → Type 0) → ((row : SummaryRow) → row_at s.rows row.key ≡ Some row → Q (source_row row)) → All Q (map source_row s.rows)
  rows-all Q h = All-from_recursion Q (map source_row s.rows) (all-map source_row Q s.rows (all-weaker (λ row. row_at s.rows row.key ≡ Some row) (λ row. Q (source_row row)) h s.rows found))

  dated : (row : SummaryRow) → row_at s.rows row.key ≡ Some row → HasDay (day_rows (map source_row s.rows)) (source_row row)
  dated row at =
      ap (λ (xs : List SourceRow). list_any (λ day. row.key.date == day.key.date) xs) (filter-source (λ r. is_day r.key) s.rows)
      ∙ any-source (λ day. row.key.date == day.key.date) (filter is-day s.rows) ∙ day-there row.key.date s.rows (is.sound.rows.day row.key (rw at refl))

  day-sums : (day : SummaryRow) → day.key ≡ day_key day.key.date → row_at s.rows day.key ≡ Some day → sums_at s.rows (day_key day.key.date) ≡ day.sums
  day-sums day key at = subst (λ (k : Key). sums_at s.rows k ≡ day.sums) key (sums-found day at)

  layered : (day : SummaryRow) → day.key ≡ day_key day.key.date → row_at s.rows day.key ≡ Some day → (layer : Layer) → SumsWithin (layer_rows layer day.key.date (map source_row s.rows)) day.sums
  layered day key at layer =
      let within = is.sound.rows.layers layer day.key.date in
      let sums = day-sums day key at in
      let test = λ (row : SourceRow). (row.key.date == day.key.date) && in_layer layer row.key in
      record {
        hits = omega (arith, within.hits, ap (λ (x : Sums). x.hits) sums, sum-filter-source (λ row. row.sums.hits) test s.rows);
        bytes = omega (arith, within.bytes, ap (λ (x : Sums). x.bytes) sums, sum-filter-source (λ row. row.sums.bytes) test s.rows);
        micros = omega (arith, within.micros, ap (λ (x : Sums). x.micros) sums, sum-filter-source (λ row. row.sums.micros) test s.rows);
      }

  names-rise : AllByRecursion (λ row. IsStrictlySortedBy name_cmp row.names) s.rows
  names-rise = recursion_from_All _ s.rows is.ordered.names

  -- a key's names are among the day's
  among : (day row : SummaryRow) → day.key ≡ day_key day.key.date → row_at s.rows day.key ≡ Some day → row_at s.rows row.key ≡ Some row → row.key.date ≡ day.key.date
      → (n : Name) → has_name row.names n ≡ true → has_name day.names n ≡ true
  among day row key at at' date n has =
      let v : Visitor = record { host = n.host; date = row.key.date; agent = n.agent } in
      let own : has_pair s.rows row.key v ≡ true =
      and-true (row.key.date == row.key.date) (has_name (names_at s.rows row.key) n) (eq-eqb row.key.date row.key.date refl)
      (ap (λ (ns : List Name). has_name ns n) (names-found row at') ∙ has) in
      let there : has_pair s.rows (day_key row.key.date) v ≡ true = is.sound.rows.visitors row.key v own in
      let names : names_at s.rows (day_key row.key.date) ≡ day.names =
      ap (λ (d : ℕ). names_at s.rows (day_key d)) date ∙ subst (λ (k : Key). names_at s.rows k ≡ day.names) key (names-found day at) in
      ap (λ (ns : List Name). has_name ns n) (sym names) ∙ and-right (row.key.date == row.key.date) (has_name (names_at s.rows (day_key row.key.date)) n) there

  visited : (day : SummaryRow) → day.key ≡ day_key day.key.date → row_at s.rows day.key ≡ Some day
      → All (λ row. row.key.date ≡ day.key.date → row.visitors ≤ length day.names) (map source_row s.rows)
  visited day key at =
      All-from_recursion (λ row. row.key.date ≡ day.key.date → row.visitors ≤ length day.names) (map source_row s.rows)
      (all-map source_row (λ row. row.key.date ≡ day.key.date → row.visitors ≤ length day.names) s.rows
      (all-both (λ row. row_at s.rows row.key ≡ Some row) (λ row. IsStrictlySortedBy name_cmp row.names) (λ row. row.key.date ≡ day.key.date → length row.names ≤ length day.names)
      (λ row at' up date. no-more row.names day.names up (among day row key at at' date)) s.rows found names-rise))

  visits : AllByRecursion (λ row. length row.names ≤ row.sums.hits) s.rows
  visits = all-weaker (λ row. row_at s.rows row.key ≡ Some row) (λ row. length row.names ≤ row.sums.hits)
      (λ row at. omega (arith, is.sound.rows.visits row.key, ap length (names-found row at), ap (λ (x : Sums). x.hits) (sums-found row at))) s.rows found

  fewer : (rows : List SummaryRow) → AllByRecursion (λ row. length row.names ≤ row.sums.hits) rows → sum_by (λ row. length row.names) (filter is-day rows) ≤ sum_by (λ row. row.sums.hits) (filter is-day rows)
  fewer [] all = omega arith
  fewer (x ∷ xs) all = elim (is-day x) as (λ v. sum_by (λ (row : SummaryRow). length row.names) (cond v (x ∷ filter is-day xs) (filter is-day xs)) ≤ sum_by (λ (row : SummaryRow). row.sums.hits) (cond v (x ∷ filter is-day xs) (filter is-day xs))) [
    | true ↦ omega (arith, sum_by-cons (λ (row : SummaryRow). length row.names) x (filter is-day xs), sum_by-cons (λ (row : SummaryRow). row.sums.hits) x (filter is-day xs), all.0, fewer xs all.1)
    | false ↦ fewer xs all.1
  ]

  fit : SumsFit (day_rows (map source_row s.rows))
  fit =
      let test = λ (row : SourceRow). is_day row.key in
      record {
        hits = omega (arith, sum-filter-source (λ row. row.sums.hits) test s.rows, is.sound.totals.days.hits, is.sound.totals.lines, is.sound.totals.fit.lines);
        visitors = omega (arith, sum-filter-source (λ row. row.visitors) test s.rows, fewer s.rows visits, is.sound.totals.days.hits, is.sound.totals.lines, is.sound.totals.fit.lines);
        bytes = omega (arith, sum-filter-source (λ row. row.sums.bytes) test s.rows, is.sound.totals.days.bytes, is.sound.totals.fit.bytes);
        micros = omega (arith, sum-filter-source (λ row. row.sums.micros) test s.rows, is.sound.totals.days.micros, is.sound.totals.fit.micros);
      }

  pub source-sound : AreSound (map source_row s.rows)
  source-sound = record {
    different = subst (λ (ks : List Key). IsDistinct is_same_key ks) (sym (keys-source s.rows)) (IsDistinct-from_sorted key_cmp _ is.ordered.keys);
    hit = rows-all (λ row. 1 ≤ row.sums.hits) (λ row at. omega (arith, is.sound.rows.hit row.key (rw at refl), ap (λ (x : Sums). x.hits) (sums-found row at)));
    dated = rows-all (HasDay (day_rows (map source_row s.rows))) dated;
    layers = days-all (λ day. (layer : Layer) → SumsWithin (layer_rows layer day.key.date (map source_row s.rows)) day.sums) layered;
    visits = days-all (λ day. All (λ row. row.key.date ≡ day.key.date → row.visitors ≤ day.visitors) (map source_row s.rows)) visited;
    fit = fit;
  }
