-- Rows that are good, with one more after them: when all are good.
use Rattle.std.proofs.Common.{◌≡◌, ℕ, zero, suc, ◌<◌, ◌≤◌, Bool, true, false, cond, ◌&&◌, ◌||◌, ◌==◌, List, [], ◌∷◌, ◌++◌, Option, Some, None, Less, is_some, length, get_or, refl, sym, ap, ◌∙◌, subst, eq-eqb, eqb→eq, T, append-nil, arith}
use Rattle.std.specs.Ordering.{is_eq, ordering_reverse}
use Rattle.std.specs.Option.{option_or}
use Rattle.std.specs.List.{AllByRecursion}
use Rattle.std.specs.List.Sorted.{IsStrictlySortedBy}
use Rattle.std.proofs.lemmas.Bool.{false≢true}
use Rattle.std.proofs.lemmas.Cmp.{tied_itself}
use Rattle.std.proofs.lemmas.List.Elements.{All-contains, All-push, Contains-push, filter-append, recursion_from_All}
use Rattle.std.proofs.lemmas.List.Folds.{find-append}
use Rattle.ga_base.specs.declared.counts.Sums.{Sums}
use Rattle.ga_base.specs.declared.key.Key.{Key}
use Rattle.ga_base.specs.declared.key.Visitor.{Visitor}
use Rattle.ga_base.specs.declared.name.Name.{Name}
use Rattle.ga_base.specs.Layers.{HasForm, Layer, day_key, in_layer, is_empty, is_flag, layer_of}
use Rattle.ga_base.specs.Orders.{key_cmp, name_cmp, is_same_key, is_same_name, name_of}
use Rattle.ga_base.proofs.OrderLemmas.{key_cmp_total, key_cmp_exact, name_cmp_total, name_cmp_exact}
use Rattle.ga_summary.specs.SummaryParts.{RowsAreGood}
use Rattle.ga_summary.specs.SummaryRows.{SummaryRow, row_at, sums_at, names_at, has_name, has_pair, no_sums}
use Rattle.ga_summary.specs.Sound.{HasRow, SumsWithin, layer_rows}
use Rattle.ga_summary.specs.Steps.Passing.{AllAmong, StandsAlone}
use Rattle.ga_summary.proofs.Bounds.{is_same_panel-itself}
use Rattle.ga_summary.proofs.OneLine.{both_true, same_panel}
use Rattle.ga_summary.proofs.PartRows.{KeysRise}
use Rattle.ga_summary.proofs.Put.{equal_from_is_eq}
use Rattle.ga_summary.proofs.Rising.{Below, below_from_push}

-- where all rows are below a key, it has none
pub none_at_above : (rows : List SummaryRow) (key : Key) → Below key_cmp (λ (row : SummaryRow). row.key) rows key → row_at rows key ≡ None
none_at_above rows key below = go rows (recursion_from_All _ rows below)
  where
    go : (rows : List SummaryRow) → AllByRecursion (λ (row : SummaryRow). key_cmp row.key key ≡ Less) rows → row_at rows key ≡ None
    go [] b = refl
    go (row ∷ rows) b =
        let other : is_same_key key row.key ≡ false = ap is_eq (key_cmp_total.antisymm key row.key ∙ ap ordering_reverse b.0) in
        rw other (go rows b.1)

-- a name among names that are all among others
pub among_has : (names among : List Name) (name : Name) → AllAmong names among → has_name names name ≡ true → has_name among name ≡ true
among_has names among name all has = go names (recursion_from_All _ names all) has
  where
    go : (names : List Name) → AllByRecursion (λ (n : Name). has_name among n ≡ true) names → has_name names name ≡ true → has_name among name ≡ true
    go [] b e = absurd (false≢true e)
    go (n ∷ names) b e = elim (is_same_name name n) as (λ v. is_same_name name n ≡ v → (v || has_name names name) ≡ true → has_name among name ≡ true) [
      | true ↦ λ same _. subst (λ (m : Name). has_name among m ≡ true) (sym (name_cmp_exact name n (equal_from_is_eq _ same))) b.0
      | false ↦ λ other rest. go names b.1 rest
    ] refl e

-- a name that stands among names is one of them
pub has_itself : (names : List Name) (k : ℕ) (d : Name) → k < length names → has_name names (get_or names k d) ≡ true
has_itself [] k d lt = absurd (omega arith)
has_itself (n ∷ names) zero d lt = rw (tied_itself name_cmp_total n)
has_itself (n ∷ names) (suc k) d lt = rw (has_itself names k d (omega arith)) (or_true (is_same_name (get_or names k d) n))
  where
    or_true : (b : Bool) → (b || true) ≡ true
    or_true true = refl
    or_true false = refl

pub is_flag-same : (a b : Bool) → is_flag a b ≡ true → a ≡ b
is_flag-same true b e = sym e
is_flag-same false true e = absurd (false≢true e)
is_flag-same false false e = refl

pub is_flag-refl : (b : Bool) → is_flag b b ≡ true
is_flag-refl true = refl
is_flag-refl false = refl

-- what a key has in rows with one more
pub data At (rows : List SummaryRow) (row : SummaryRow) (key : Key) : Type 0 where
  before : HasRow rows key → row_at (rows ++ row ∷ []) key ≡ row_at rows key → At rows row key
  here : key ≡ row.key → row_at rows key ≡ None → row_at (rows ++ row ∷ []) key ≡ Some row → At rows row key
  nowhere : is_same_key key row.key ≡ false → row_at rows key ≡ None → row_at (rows ++ row ∷ []) key ≡ None → At rows row key

pub at_push : (rows : List SummaryRow) (row : SummaryRow) (key : Key) → At rows row key
at_push rows row key = go (row_at rows key) refl (is_same_key key row.key) refl
  where
    all : row_at (rows ++ row ∷ []) key ≡ option_or (row_at rows key) (cond (is_same_key key row.key) (Some row) None)
    all = find-append (λ (r : SummaryRow). is_same_key key r.key) rows (row ∷ [])

    go : (o : Option SummaryRow) → row_at rows key ≡ o → (v : Bool) → is_same_key key row.key ≡ v → At rows row key
    go (Some r) e v same = before (ap is_some e) (all ∙ ap (λ (o : Option SummaryRow). option_or o (cond (is_same_key key row.key) (Some row) None)) e ∙ sym e)
    go None e true same = here (key_cmp_exact key row.key (equal_from_is_eq _ same)) e (all ∙ (λ i. option_or (e i) (cond (same i) (Some row) None)))
    go None e false same = nowhere same e (all ∙ (λ i. option_or (e i) (cond (same i) (Some row) None)))

module _ (rows : List SummaryRow) (row : SummaryRow) where
  -- a layer's rows with one more
  pub layer_push : (layer : Layer) (date : ℕ) → layer_rows layer date (rows ++ row ∷ []) ≡ layer_rows layer date rows ++ cond ((row.key.date == date) && in_layer layer row.key) (row ∷ []) []
  layer_push layer date = filter-append (λ (r : SummaryRow). (r.key.date == date) && in_layer layer r.key) rows (row ∷ [])

  -- the row is in its key's layer, and in no other
  pub in_its_layer : ((row.key.date == row.key.date) && in_layer (layer_of row.key) row.key) ≡ true
  in_its_layer = rw (eq-eqb row.key.date row.key.date refl, is_same_panel-itself row.key.panel, is_flag-refl (is_empty row.key.parent), is_flag-refl (is_empty row.key.label))

  pub only_in_its_layer : (layer : Layer) (date : ℕ) → ((row.key.date == date) && in_layer layer row.key) ≡ true → (date ≡ row.key.date) × (layer ≡ layer_of row.key)
  only_in_its_layer layer date e =
      let parts = both_true _ _ e in
      let both = both_true _ _ parts.1 in
      let panel : layer.panel ≡ row.key.panel = sym (same_panel _ _ both.0) in
      let flags = both_true _ _ both.1 in
      let no_parent : layer.no_parent ≡ is_empty row.key.parent = is_flag-same _ _ flags.0 in
      let no_label : layer.no_label ≡ is_empty row.key.label = is_flag-same _ _ flags.1 in
      (sym (eqb→eq row.key.date date (subst T (sym parts.0) tt)), λ i. record { panel = panel i; no_parent = no_parent i; no_label = no_label i })

  -- what was there is there
  pub kept : (key : Key) → HasRow rows key → row_at (rows ++ row ∷ []) key ≡ row_at rows key
  kept key has = elim (at_push rows row key) [
    | before _ e ↦ e
    | here _ none _ ↦ absurd (false≢true (sym (ap is_some none) ∙ has))
    | nowhere _ none _ ↦ absurd (false≢true (sym (ap is_some none) ∙ has))
  ]

  pub has_kept : (key : Key) → HasRow rows key → HasRow (rows ++ row ∷ []) key
  has_kept key has = ap is_some (kept key has) ∙ has

  module _ (good : RowsAreGood rows) (rising : KeysRise (rows ++ row ∷ [])) (alone : StandsAlone row)
      (day : SummaryRow) (day_is : row_at (rows ++ row ∷ []) (day_key row.key.date) ≡ Some day) (among : AllAmong row.names day.names)
      (within : SumsWithin (layer_rows (layer_of row.key) row.key.date (rows ++ row ∷ [])) day.sums.hits day.sums.bytes day.sums.micros) where
    form : (key : Key) → HasRow (rows ++ row ∷ []) key → HasForm key
    form key has = elim (at_push rows row key) [
      | before h e ↦ good.sound.form key h
      | here is _ _ ↦ subst HasForm (sym is) alone.form
      | nowhere _ _ e ↦ absurd (false≢true (sym (ap is_some e) ∙ has))
    ]

    has_day : (key : Key) → HasRow (rows ++ row ∷ []) key → HasRow (rows ++ row ∷ []) (day_key key.date)
    has_day key has = elim (at_push rows row key) [
      | before h e ↦ has_kept (day_key key.date) (good.sound.day key h)
      | here is _ _ ↦ subst (λ (k : Key). HasRow (rows ++ row ∷ []) (day_key k.date)) (sym is) (ap is_some day_is)
      | nowhere _ _ e ↦ absurd (false≢true (sym (ap is_some e) ∙ has))
    ]

    hit : (key : Key) → HasRow (rows ++ row ∷ []) key → 1 ≤ (sums_at (rows ++ row ∷ []) key).hits
    hit key has = elim (at_push rows row key) [
      | before h e ↦ rw e (good.sound.hit key h)
      | here _ _ e ↦ rw e alone.hit
      | nowhere _ _ e ↦ absurd (false≢true (sym (ap is_some e) ∙ has))
    ]

    visits : (key : Key) → length (names_at (rows ++ row ∷ []) key) ≤ (sums_at (rows ++ row ∷ []) key).hits
    visits key = elim (at_push rows row key) [
      | before h e ↦ rw e (good.sound.visits key)
      | here _ _ e ↦ rw e alone.visits
      | nowhere _ _ e ↦ rw e (omega arith)
    ]

    visitors : (key : Key) (visitor : Visitor) → has_pair (rows ++ row ∷ []) key visitor ≡ true → has_pair (rows ++ row ∷ []) (day_key key.date) visitor ≡ true
    visitors key visitor has = elim (at_push rows row key) [
      | before h e ↦
          let old : has_pair rows key visitor ≡ true = rw e at has in
          rw (kept (day_key key.date) (good.sound.day key h)) (good.sound.visitors key visitor old)
      | here is _ e ↦
          let found : ((visitor.date == key.date) && has_name row.names (name_of visitor)) ≡ true = rw e at has in
          let parts = both_true (visitor.date == key.date) (has_name row.names (name_of visitor)) found in
          let at_day : row_at (rows ++ row ∷ []) (day_key key.date) ≡ Some day = subst (λ (k : Key). row_at (rows ++ row ∷ []) (day_key k.date) ≡ Some day) (sym is) day_is in
          rw (at_day, parts.0) (among_has row.names day.names (name_of visitor) among parts.1)
      | nowhere _ _ e ↦
          let none : ((visitor.date == key.date) && false) ≡ true = rw e at has in
          absurd (false≢true (both_true _ _ none).1)
    ]

    -- what a key has doesn't get less
    grows : (key : Key) (f : Sums → ℕ) → f no_sums ≡ 0 → f (sums_at rows key) ≤ f (sums_at (rows ++ row ∷ []) key)
    grows key f nothing = elim (at_push rows row key) [
      | before h e ↦ rw e (omega arith)
      | here _ none _ ↦ rw (none, nothing) (omega arith)
      | nowhere _ none e ↦ rw (none, e) (omega arith)
    ]

    layers : (layer : Layer) (date : ℕ) → let d = sums_at (rows ++ row ∷ []) (day_key date) in SumsWithin (layer_rows layer date (rows ++ row ∷ [])) d.hits d.bytes d.micros
    layers layer date = go ((row.key.date == date) && in_layer layer row.key) refl
      where
        go : (v : Bool) → ((row.key.date == date) && in_layer layer row.key) ≡ v → let d = sums_at (rows ++ row ∷ []) (day_key date) in SumsWithin (layer_rows layer date (rows ++ row ∷ [])) d.hits d.bytes d.micros
        go true e =
            let is = only_in_its_layer layer date e in
            rw (is.0, is.1, day_is) within
        go false e =
            let old = good.sound.layers layer date in
            let same : layer_rows layer date (rows ++ row ∷ []) ≡ layer_rows layer date rows = rw (layer_push layer date, e) (append-nil _) in
            rw same (record {
              hits = omega (arith, old.hits, grows (day_key date) (λ (s : Sums). s.hits) refl);
              bytes = omega (arith, old.bytes, grows (day_key date) (λ (s : Sums). s.bytes) refl);
              micros = omega (arith, old.micros, grows (day_key date) (λ (s : Sums). s.micros) refl);
            })

    pub good_push : RowsAreGood (rows ++ row ∷ [])
    good_push = record {
      ordered = record { keys = rising; names = All-push (λ (r : SummaryRow). IsStrictlySortedBy name_cmp r.names) rows row good.ordered.names alone.names };
      sound = record { form = form; day = has_day; layers = layers; hit = hit; visitors = visitors; visits = visits };
    }

  -- what good rows say of the last one
  module _ (good : RowsAreGood (rows ++ row ∷ [])) where
    pub row_here : row_at (rows ++ row ∷ []) row.key ≡ Some row
    row_here = elim (at_push rows row row.key) [
      | before has _ ↦ absurd (false≢true (sym (ap is_some (none_at_above rows row.key (below_from_push key_cmp (λ (r : SummaryRow). r.key) rows row good.ordered.keys))) ∙ has))
      | here _ _ e ↦ e
      | nowhere other _ _ ↦ absurd (false≢true (sym other ∙ ap is_eq (tied_itself key_cmp_total row.key)))
    ]

    pub alone_from_good : StandsAlone row
    alone_from_good =
        let has : HasRow (rows ++ row ∷ []) row.key = ap is_some row_here in
        record {
          form = good.sound.form row.key has;
          names = All-contains (λ (r : SummaryRow). IsStrictlySortedBy name_cmp r.names) (rows ++ row ∷ []) row good.ordered.names (Contains-push rows row);
          hit = rw row_here at (good.sound.hit row.key has);
          visits = rw row_here at (good.sound.visits row.key);
        }

    pub day_from_good : row_at (rows ++ row ∷ []) (day_key row.key.date) ≡ None → ⊥
    day_from_good none = false≢true (sym (ap is_some none) ∙ good.sound.day row.key (ap is_some row_here))

    module _ (day : SummaryRow) (day_is : row_at (rows ++ row ∷ []) (day_key row.key.date) ≡ Some day) where
      pub within_from_good : SumsWithin (layer_rows (layer_of row.key) row.key.date (rows ++ row ∷ [])) day.sums.hits day.sums.bytes day.sums.micros
      within_from_good = rw day_is at (good.sound.layers (layer_of row.key) row.key.date)

      pub among_from_good : AllAmong row.names day.names
      among_from_good k d lt =
          let name = get_or row.names k d in
          let visitor : Visitor = record { host = name.host; date = row.key.date; agent = name.agent } in
          let date : (row.key.date == row.key.date) ≡ true = eq-eqb row.key.date row.key.date refl in
          let has : has_pair (rows ++ row ∷ []) row.key visitor ≡ true = rw (row_here, date) (has_itself row.names k d lt) in
          let at_day : ((row.key.date == row.key.date) && has_name day.names name) ≡ true = rw day_is at (good.sound.visitors row.key visitor has) in
          (both_true _ _ at_day).1
