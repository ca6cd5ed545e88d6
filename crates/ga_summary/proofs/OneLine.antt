-- The summary of one counted line is the sum of its outcome, and sound.
use Rattle.std.proofs.Common.{◌≡◌, ℕ, zero, suc, ◌*◌, ◌<◌, ◌≤◌, Bool, true, false, cond, ◌||◌, ◌&&◌, ◌==◌, List, [], ◌∷◌, Option, Some, None, is_some, length, map, filter, sum_by, count_by, nat_lt, refl, sym, ap, ◌∙◌, subst, arith, get_or, eqb→eq, T, inl, inr}
use Rattle.std.specs.List.{list_any, All, AllByRecursion, Contains}
use Rattle.std.specs.Option.{option_map_or, ForSome}
use Rattle.std.specs.List.Sorted.{IsStrictlySortedBy}
use Rattle.std.proofs.lemmas.Bool.{false≢true}
use Rattle.std.proofs.lemmas.Cmp.{tied_itself}
use Rattle.std.proofs.lemmas.List.Sums.{sum_by-cons}
use Rattle.std.proofs.lemmas.List.Elements.{All-from_recursion, recursion_from_All}
use Rattle.std.proofs.Math.Nat.{mul-le-mul_left}
use Rattle.std.proofs.lemmas.Bool.{eqb-true}
use Rattle.ga_base.specs.declared.counts.Sums.{Sums}
use Rattle.ga_base.specs.declared.counts.TheConstants.{BIG}
use Rattle.ga_base.specs.declared.key.Key.{Key}
use Rattle.ga_base.specs.declared.key.Visitor.{Visitor}
use Rattle.ga_base.specs.declared.panel.Panel.{Panel}
use Rattle.ga_base.specs.declared.panel.Panel.TheVariants.{Visitors}
use Rattle.ga_base.specs.declared.name.Name.{Name}
use Rattle.ga_base.specs.Orders.{key_cmp, name_cmp, is_same_key, name_of}
use Rattle.ga_summary.specs.Outcomes.{Hit, Counted, has_key, is_by, greatest_time, sums_of, has_visit}
use Rattle.ga_summary.specs.SummaryRows.{SummaryRow, IsInOrder, row_at, sums_at, names_at, has_name, has_pair, no_sums}
use Rattle.ga_summary.specs.OneLine.{names_of, line_sums, line_row, line_value}
use Rattle.ga_summary.specs.Dated.{IsDated}
use Rattle.ga_summary.specs.Sums.{IsSumOf}
use Rattle.ga_base.specs.Layers.{HasForm}
use Rattle.ga_summary.specs.Sound.{IsSummary, IsCountable, HasRow, layer_rows, day_rows, SumsWithin}
use Rattle.ga_base.specs.Layers.{IsDayOrPart, day_key, Layer, in_layer, is_day, is_empty}
use Rattle.ga_base.specs.Panels.{is_same_panel, panel_number}
use Rattle.ga_summary.proofs.Put.{equal_from_is_eq}
use Rattle.ga_summary.proofs.Lines.{same_totals}
use Rattle.ga_summary.proofs.Merging.{same_sums, sum_by-filter}
use Rattle.ga_base.proofs.OrderLemmas.{key_cmp_total, key_cmp_exact, panel_number_exact}

pub both_true : (a b : Bool) → (a && b) ≡ true → (a ≡ true) × (b ≡ true)
both_true true b e = (refl, e)
both_true false b e = absurd (false≢true e)

-- the names of one visitor or none rise
one_name : (v : Option Visitor) → IsStrictlySortedBy name_cmp (names_of v)
unfolding IsStrictlySortedBy
one_name None = tt
one_name (Some w) = (tt, tt)

-- the key of a day is in the layer of days
day_layer : (key : Key) → is_same_panel key.panel Visitors ≡ true → is_empty key.parent ≡ true → IsDayOrPart key.date key.parent key.label
    → in_layer (record { panel = Visitors; no_parent = true; no_label = false }) key ≡ true
day_layer key panel none (inl day) = rw (panel, none, day.1) refl
day_layer key panel none (inr part) = let some : is_empty key.parent ≡ false = rw (part.0) refl in absurd (false≢true (sym some ∙ none))

-- panels that test as the same are
pub same_panel : (a b : Panel) → is_same_panel a b ≡ true → a ≡ b
unfolding is_same_panel
same_panel a b e = panel_number_exact a b (eqb-true (panel_number a) (panel_number b) e)

module _ (hit : Hit) where
  rows_at_key : (keys : List Key) (key : Key) → row_at (map (line_row (line_sums hit.bytes hit.micros) hit.visitor) keys) key ≡ cond (list_any (λ other. is_same_key key other) keys) (Some (line_row (line_sums hit.bytes hit.micros) hit.visitor key)) None
  rows_at_key [] key = refl
  rows_at_key (x ∷ keys) key =
      let rest = rows_at_key keys key in
      elim (is_same_key key x) as (λ v. is_same_key key x ≡ v → cond v (Some (line_row (line_sums hit.bytes hit.micros) hit.visitor x)) (row_at (map (line_row (line_sums hit.bytes hit.micros) hit.visitor) keys) key) ≡ cond (v || list_any (λ other. is_same_key key other) keys) (Some (line_row (line_sums hit.bytes hit.micros) hit.visitor key)) None) [
        | true ↦ λ same. ap (λ (k : Key). Some (line_row (line_sums hit.bytes hit.micros) hit.visitor k)) (sym (key_cmp_exact key x (equal_from_is_eq _ same)))
        | false ↦ λ other. rest
      ] refl

  -- the row of a key is the line's, where the line has the key
  pub row_at-line : (key : Key) → row_at (line_value hit).rows key ≡ cond (has_key key hit) (Some (line_row (line_sums hit.bytes hit.micros) hit.visitor key)) None
  row_at-line key = rows_at_key hit.keys key

  sums_at-line : (key : Key) → sums_at (line_value hit).rows key ≡ cond (has_key key hit) (line_sums hit.bytes hit.micros) no_sums
  sums_at-line key = ap (λ (o : Option SummaryRow). option_map_or (λ (row : SummaryRow). row.sums) o no_sums) (row_at-line key) ∙ split (has_key key hit)
    where
      split : (b : Bool) → option_map_or (λ (row : SummaryRow). row.sums) (cond b (Some (line_row (line_sums hit.bytes hit.micros) hit.visitor key)) None) no_sums ≡ cond b (line_sums hit.bytes hit.micros) no_sums
      split true = refl
      split false = refl

  names_at-line : (key : Key) → names_at (line_value hit).rows key ≡ cond (has_key key hit) (names_of hit.visitor) []
  names_at-line key = ap (λ (o : Option SummaryRow). option_map_or (λ (row : SummaryRow). row.names) o []) (row_at-line key) ∙ split (has_key key hit)
    where
      split : (b : Bool) → option_map_or (λ (row : SummaryRow). row.names) (cond b (Some (line_row (line_sums hit.bytes hit.micros) hit.visitor key)) None) [] ≡ cond b (names_of hit.visitor) []
      split true = refl
      split false = refl

  present-line : (key : Key) → is_some (row_at (line_value hit).rows key) ≡ has_key key hit
  present-line key = ap is_some (row_at-line key) ∙ split (has_key key hit)
    where
      split : (b : Bool) → is_some (cond b (Some (line_row (line_sums hit.bytes hit.micros) hit.visitor key)) None) ≡ b
      split true = refl
      split false = refl

  -- what holds of the line's keys holds of a key that it has
  at_key : (P : Key → Type 0) → All P hit.keys → (key : Key) → has_key key hit ≡ true → P key
  at_key P all key has = go hit.keys (recursion_from_All P hit.keys all) has
    where
      go : (keys : List Key) → AllByRecursion P keys → list_any (λ other. is_same_key key other) keys ≡ true → P key
      go [] h e = absurd (false≢true e)
      go (x ∷ keys) h e = elim (is_same_key key x) as (λ v. is_same_key key x ≡ v → (v || list_any (λ other. is_same_key key other) keys) ≡ true → P key) [
        | true ↦ λ same _. subst P (sym (key_cmp_exact key x (equal_from_is_eq _ same))) h.0
        | false ↦ λ other rest. go keys h.1 rest
      ] refl e

  -- a key that is among the line's is one that it has
  has_contained : (key : Key) → Contains hit.keys key → has_key key hit ≡ true
  has_contained key at = go hit.keys at.0 at.1 at.2
    where
      go : (keys : List Key) (k : ℕ) → k < length keys → get_or keys k key ≡ key → list_any (λ other. is_same_key key other) keys ≡ true
      go [] k lt e = absurd (omega arith)
      go (x ∷ keys) zero lt e = rw (e, tied_itself key_cmp_total key)
      go (x ∷ keys) (suc k) lt e = rw (go keys k (omega arith) e) (or_true (is_same_key key x))
        where
          or_true : (b : Bool) → (b || true) ≡ true
          or_true true = refl
          or_true false = refl

  -- the sum of one counted line
  pairs-line : IsDated hit → (key : Key) (visitor : Visitor) → has_pair (line_value hit).rows key visitor ≡ has_visit key visitor (Counted hit ∷ [])
  pairs-line dated key visitor =
      ap (λ (names : List Name). (visitor.date == key.date) && has_name names (name_of visitor)) (names_at-line key)
      ∙ split (has_key key hit) hit.visitor (λ has. dated key has)
    where
      either : (b v : Bool) → (b && (v || false)) ≡ ((b && v) || false)
      either true v = refl
      either false v = refl

      same_day : (d e : ℕ) (v : Bool) → d ≡ e → ((visitor.date == d) && (v || false)) ≡ (((visitor.date == e) && v) || false)
      same_day d e v h = rw h (either (visitor.date == e) v)

      none : (v : Bool) → (v && false) ≡ false
      none true = refl
      none false = refl

      split : (b : Bool) (v : Option Visitor) → (b ≡ true → ForSome v (λ w. w.date ≡ key.date))
          → ((visitor.date == key.date) && has_name (cond b (names_of v) []) (name_of visitor)) ≡ list_any (λ (h : Hit). is_by visitor h.visitor) (cond b (record hit { visitor = v } ∷ []) [])
      split false v p = none _
      split true None p = none _
      split true (Some w) p = same_day key.date w.date _ (sym (p refl w refl))

  pub sums_of-line : (key : Key) → sums_of key (Counted hit ∷ []) ≡ cond (has_key key hit) (line_sums hit.bytes hit.micros) no_sums
  sums_of-line key = split (has_key key hit)
    where
      weigh : List Hit → Sums
      weigh hits = record { hits = length hits; bytes = sum_by (λ (h : Hit). h.bytes) hits; micros = sum_by (λ (h : Hit). h.micros) hits; max_micros = greatest_time hits }

      split : (b : Bool) → weigh (cond b (hit ∷ []) []) ≡ cond b (line_sums hit.bytes hit.micros) no_sums
      split true = same_sums _ _ refl (omega arith) (omega arith) (omega arith)
      split false = refl

  present_is : (key : Key) → has_key key hit ≡ nat_lt 0 (sums_of key (Counted hit ∷ [])).hits
  present_is key = split (has_key key hit)
    where
      split : (b : Bool) → b ≡ nat_lt 0 (length {A = Hit} (cond b (hit ∷ []) []))
      split true = refl
      split false = refl

  -- a line whose keys rise and are of its visitor's day
  module _ (rising : IsStrictlySortedBy key_cmp hit.keys) (dated : IsDated hit) where
    -- the rows are in order
    ordered-line : IsInOrder (line_value hit).rows
    ordered-line = record {
      keys = subst (IsStrictlySortedBy key_cmp) (sym (keys-line hit.keys)) rising;
      names = All-from_recursion _ _ (all_names hit.keys);
    }
      where
        keys-line : (keys : List Key) → map (λ (row : SummaryRow). row.key) (map (line_row (line_sums hit.bytes hit.micros) hit.visitor) keys) ≡ keys
        keys-line [] = refl
        keys-line (key ∷ keys) = ap (λ (l : List Key). key ∷ l) (keys-line keys)

        all_names : (keys : List Key) → AllByRecursion (λ (row : SummaryRow). IsStrictlySortedBy name_cmp row.names) (map (line_row (line_sums hit.bytes hit.micros) hit.visitor) keys)
        all_names [] = tt
        all_names (key ∷ keys) = (one_name hit.visitor, all_names keys)

    pub rising-sum : IsSumOf (Counted hit ∷ []) (line_value hit)
    rising-sum = record {
      totals = same_totals _ _ refl refl refl refl (omega arith) (omega arith);
      sums = λ key. sums_at-line key ∙ sym (sums_of-line key);
      pairs = pairs-line dated;
      present = λ key. present-line key ∙ present_is key;
      ordered = ordered-line;
    }

  module _ (date : ℕ) (can : IsCountable date hit) where
    of_its_day : IsDated hit
    of_its_day key has w is = can.visitor w is ∙ sym (at_key (λ (k : Key). k.date ≡ date) can.dated key has)

    pub IsSumOf-line : IsSumOf (Counted hit ∷ []) (line_value hit)
    IsSumOf-line = rising-sum can.rising of_its_day

    has_key_of : (key : Key) → HasRow (line_value hit).rows key → has_key key hit ≡ true
    has_key_of key has = sym (present-line key) ∙ has

    day_has_row : HasRow (line_value hit).rows (day_key date)
    day_has_row = present-line (day_key date) ∙ has_contained (day_key date) can.day

    day_of : (key : Key) → has_key key hit ≡ true → key.date ≡ date
    day_of key has = at_key (λ (k : Key). k.date ≡ date) can.dated key has

    day-line : (key : Key) → HasRow (line_value hit).rows key → HasRow (line_value hit).rows (day_key key.date)
    day-line key has = rw (day_of key (has_key_of key has)) day_has_row

    -- the sums at the day's key are the line's
    day_sums : sums_at (line_value hit).rows (day_key date) ≡ line_sums hit.bytes hit.micros
    day_sums = rw (sums_at-line (day_key date), has_contained (day_key date) can.day)

    -- a sum over rows whose keys all are in one layer is at most one line's
    in_one_layer : (f : SummaryRow → ℕ) (m : ℕ) → ((key : Key) → f (line_row (line_sums hit.bytes hit.micros) hit.visitor key) ≡ m) → (test : Key → Bool) (layer : Layer) → All (λ key. test key ≡ true → in_layer layer key ≡ true) hit.keys → sum_by f (filter (λ (row : SummaryRow). test row.key) (line_value hit).rows) ≤ m
    in_one_layer f m each test layer within =
        rw (sum_by-filter f (λ (row : SummaryRow). test row.key) (line_value hit).rows)
        (omega (arith, go hit.keys (recursion_from_All _ hit.keys within), mul-le-mul_left m (can.layers layer)))
      where
        step : (t l : Bool) (n : ℕ) → (t ≡ true → l ≡ true) → n ≡ m → cond t n 0 ≤ m * cond l 1 0
        step true true n h e = omega arith
        step true false n h e = absurd (false≢true (h refl))
        step false l n h e = omega arith

        go : (keys : List Key) → AllByRecursion (λ key. test key ≡ true → in_layer layer key ≡ true) keys
            → sum_by (λ (row : SummaryRow). cond (test row.key) (f row) 0) (map (line_row (line_sums hit.bytes hit.micros) hit.visitor) keys) ≤ m * count_by (in_layer layer) keys
        go [] h = omega arith
        go (key ∷ keys) h =
            let row = line_row (line_sums hit.bytes hit.micros) hit.visitor key in
            let rest = go keys h.1 in
            let here = step (test key) (in_layer layer key) (f row) h.0 (each key) in
            rw (sum_by-cons (λ (row : SummaryRow). cond (test row.key) (f row) 0) row (map (line_row (line_sums hit.bytes hit.micros) hit.visitor) keys), sum_by-cons (λ (key : Key). cond (in_layer layer key) 1 0) key keys) (omega arith)

    within_line : (test : Key → Bool) (layer : Layer) → All (λ key. test key ≡ true → in_layer layer key ≡ true) hit.keys → SumsWithin (filter (λ (row : SummaryRow). test row.key) (line_value hit).rows) 1 hit.bytes hit.micros
    within_line test layer within = record {
      hits = in_one_layer (λ (row : SummaryRow). row.sums.hits) 1 (λ _. refl) test layer within;
      bytes = in_one_layer (λ (row : SummaryRow). row.sums.bytes) hit.bytes (λ _. refl) test layer within;
      micros = in_one_layer (λ (row : SummaryRow). row.sums.micros) hit.micros (λ _. refl) test layer within;
    }

    layers-line : (layer : Layer) (day : ℕ) → let d = sums_at (line_value hit).rows (day_key day) in SumsWithin (layer_rows layer day (line_value hit).rows) d.hits d.bytes d.micros
    layers-line layer day =
        elim (date == day) as (λ v. (date == day) ≡ v → let d = sums_at (line_value hit).rows (day_key day) in SumsWithin (layer_rows layer day (line_value hit).rows) d.hits d.bytes d.micros) [
          | true ↦ λ same.
              let e : date ≡ day = eqb→eq date day (subst T (sym same) tt) in
              rw (← e, day_sums) (within_line (λ (key : Key). (key.date == date) && in_layer layer key) layer (λ k d lt h. (both_true _ _ h).1))
          | false ↦ λ other. none other
        ] refl
      where
        none : (date == day) ≡ false → let d = sums_at (line_value hit).rows (day_key day) in SumsWithin (layer_rows layer day (line_value hit).rows) d.hits d.bytes d.micros
        none other = rw (go hit.keys (recursion_from_All _ hit.keys can.dated)) (record { hits = omega arith; bytes = omega arith; micros = omega arith })
          where
            go : (keys : List Key) → AllByRecursion (λ key. key.date ≡ date) keys → layer_rows layer day (map (line_row (line_sums hit.bytes hit.micros) hit.visitor) keys) ≡ []
            go [] h = refl
            go (key ∷ keys) h = rw (h.0, other) (go keys h.1)

    days-line : SumsWithin (day_rows (line_value hit).rows) 1 hit.bytes hit.micros
    days-line = within_line (λ (key : Key). is_day key) (record { panel = Visitors; no_parent = true; no_label = false }) (λ k d lt h.
        let parts = both_true _ _ h in
        day_layer (get_or hit.keys k d) parts.0 parts.1 ((can.formed k d lt).visit (same_panel _ Visitors parts.0)))

    visitors-line : (key : Key) (visitor : Visitor) → has_pair (line_value hit).rows key visitor ≡ true → has_pair (line_value hit).rows (day_key key.date) visitor ≡ true
    visitors-line key visitor has =
        elim (has_key key hit) as (λ v. has_key key hit ≡ v → has_pair (line_value hit).rows (day_key key.date) visitor ≡ true) [
          | true ↦ λ h.
              let date_is = day_of key h in
              let names : names_at (line_value hit).rows (day_key key.date) ≡ names_at (line_value hit).rows key =
              names_at-line (day_key key.date) ∙ ap (λ (b : Bool). cond b (names_of hit.visitor) []) (ap (λ (d : ℕ). has_key (day_key d) hit) date_is ∙ has_contained (day_key date) can.day ∙ sym h) ∙ sym (names_at-line key) in
              ap (λ (n : List Name). (visitor.date == key.date) && has_name n (name_of visitor)) names ∙ has
          | false ↦ λ h.
              let names : names_at (line_value hit).rows key ≡ [] = names_at-line key ∙ ap (λ (b : Bool). cond b (names_of hit.visitor) []) h in
              absurd (false≢true ((both_true _ _ (ap (λ (n : List Name). (visitor.date == key.date) && has_name n (name_of visitor)) (sym names) ∙ has)).1))
        ] refl

    visits-line : (key : Key) → length (names_at (line_value hit).rows key) ≤ (sums_at (line_value hit).rows key).hits
    visits-line key = rw (names_at-line key, sums_at-line key) (split (has_key key hit) hit.visitor)
      where
        split : (b : Bool) (v : Option Visitor) → length (cond b (names_of v) []) ≤ (cond b (line_sums hit.bytes hit.micros) no_sums).hits
        split true None = omega arith
        split true (Some w) = omega arith
        split false v = omega arith

    times-line : (key : Key) → ((sums_at (line_value hit).rows key).max_micros ≤ BIG) × ((sums_at (line_value hit).rows key).max_micros ≤ (sums_at (line_value hit).rows key).micros)
    times-line key = rw (sums_at-line key) (split (has_key key hit))
      where
        split : (b : Bool) → ((cond b (line_sums hit.bytes hit.micros) no_sums).max_micros ≤ BIG) × ((cond b (line_sums hit.bytes hit.micros) no_sums).max_micros ≤ (cond b (line_sums hit.bytes hit.micros) no_sums).micros)
        split true = (can.micros, omega arith)
        split false = (omega arith, omega arith)

    pub IsSummary-line : IsSummary (line_value hit)
    IsSummary-line = record {
      ordered = ordered-line can.rising of_its_day;
      sound = record {
        rows = record {
          form = λ key has. at_key HasForm can.formed key (has_key_of key has);
          day = day-line;
          layers = layers-line;
          hit = λ key has. rw (sums_at-line key, has_key_of key has) (omega arith);
          visitors = visitors-line;
          visits = visits-line;
        };
        totals = record {
          days = days-line;
          lines = omega arith;
          fit = record { lines = omega arith; bytes = omega (arith, can.bytes); micros = omega (arith, can.micros) };
          times = times-line;
        };
      };
    }
