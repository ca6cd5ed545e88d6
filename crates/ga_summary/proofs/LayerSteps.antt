-- What the layers sum to, as rows are passed.
use Rattle.std.proofs.Common.{◌≡◌, ℕ, ◌<◌, ◌≤◌, Bool, true, false, cond, ◌&&◌, ◌==◌, ◌⊎◌, inl, inr, List, [], ◌∷◌, ◌++◌, Less, Equal, Greater, get_or, filter, refl, sym, ap, ◌∙◌, subst, eq-eqb, eqb→eq, T, append-nil, arith}
use Rattle.std.specs.declared.cmp.Ordering.{Ordering}
use Rattle.std.specs.Ordering.{MatchOrdering, nat_cmp, ordering_then}
use Rattle.std.specs.Cmp.{ranks}
use Rattle.std.specs.List.{All, AllByRecursion}
use Rattle.std.proofs.lemmas.Bool.{false≢true}
use Rattle.std.proofs.lemmas.Cmp.{nat_cmp_total, tied_itself}
use Rattle.std.proofs.lemmas.List.Elements.{All-contains, All-push, Contains-push, recursion_from_All}
use Rattle.std.proofs.lemmas.List.Sums.{sum_by-append}
use Rattle.ga_base.specs.declared.key.Key.{Key}
use Rattle.ga_base.specs.Layers.{Layer, in_layer, is_empty, is_flag, layer_of}
use Rattle.ga_base.specs.Orders.{key_cmp, text_cmp}
use Rattle.ga_base.specs.Panels.{is_same_panel, panel_number}
use Rattle.ga_summary.specs.declared.layer_sums.LayerSums.{LayerSums}
use Rattle.ga_summary.specs.declared.load.Load.{Load}
use Rattle.ga_summary.specs.SummaryRows.{SummaryRow}
use Rattle.ga_summary.specs.Sound.{layer_rows}
use Rattle.ga_summary.specs.Steps.Loads.{load_of, load_plus, no_load, sums_load}
use Rattle.ga_summary.specs.Steps.Passing.{AreSumsOf, begun, is_at, layer_load, layer_plus, reached, with_load}
use Rattle.ga_summary.proofs.Bounds.{is_same_panel-itself}
use Rattle.ga_summary.proofs.GoodRows.{layer_push, in_its_layer, is_flag-refl, is_flag-same}
use Rattle.ga_summary.proofs.OneLine.{both_true, same_panel}
use Rattle.ga_summary.proofs.PartRows.{KeysRise}
use Rattle.ga_summary.proofs.Rising.{Below, below_from_push}

-- before the first row
pub begun_sums : AreSumsOf [] begun
begun_sums = record { here = here; ahead = λ key no_label below apart. refl }
  where
    here : (no_label : Bool) → layer_load begun no_label ≡ no_load
    here true = refl
    here false = refl

same_load : (a b : Load) → a.hits ≡ b.hits → a.bytes ≡ b.bytes → a.micros ≡ b.micros → a ≡ b
same_load a b h y m = λ i. record { hits = h i; bytes = y i; micros = m i }

pub load_of-append : (xs ys : List SummaryRow) → load_of (xs ++ ys) ≡ load_plus (load_of xs) (load_of ys)
load_of-append xs ys = same_load _ _ (sum_by-append (λ (row : SummaryRow). row.sums.hits) xs ys) (sum_by-append (λ (row : SummaryRow). row.sums.bytes) xs ys) (sum_by-append (λ (row : SummaryRow). row.sums.micros) xs ys)

pub load_of-one : (row : SummaryRow) → load_of (row ∷ []) ≡ sums_load row.sums
load_of-one row = same_load _ _ (omega arith) (omega arith) (omega arith)

-- nothing is kept where nothing passes
pub filter_none : {X : Type 0} (test : X → Bool) (xs : List X) → All (λ x. test x ≡ true → ⊥) xs → filter test xs ≡ []
filter_none {X = X} test xs none = go xs (recursion_from_All _ xs none)
  where
    pick : (v : Bool) (x : X) (rest : List X) → (v ≡ true → ⊥) → rest ≡ [] → cond v (x ∷ rest) rest ≡ []
    pick true x rest h e = absurd (h refl)
    pick false x rest h e = e

    go : (xs : List X) → AllByRecursion (λ x. test x ≡ true → ⊥) xs → filter test xs ≡ []
    go [] h = refl
    go (x ∷ xs) h = pick (test x) x (filter test xs) h.0 (go xs h.1)

-- keys are ordered by panel and day first
lexicographic : (a b t : Ordering) (x y u v : ℕ) → MatchOrdering a (x < y) (x ≡ y) (y < x) → MatchOrdering b (u < v) (u ≡ v) (v < u) → ordering_then a (ordering_then b t) ≡ Less → (x < y) ⊎ ((x ≡ y) × (u ≤ v))
lexicographic Less b t x y u v m n e = inl m
lexicographic Equal Less t x y u v m n e = let le : u ≤ v = omega arith in inr (m, le)
lexicographic Equal Equal t x y u v m n e = let le : u ≤ v = omega arith in inr (m, le)
lexicographic Equal Greater t x y u v m n e = absurd (cc)
lexicographic Greater b t x y u v m n e = absurd (cc)

pub by_panel_and_day : (a b : Key) → key_cmp a b ≡ Less → (panel_number a.panel < panel_number b.panel) ⊎ ((panel_number a.panel ≡ panel_number b.panel) × (a.date ≤ b.date))
unfolding key_cmp
by_panel_and_day a b less = lexicographic (nat_cmp (panel_number a.panel) (panel_number b.panel)) (nat_cmp a.date b.date) _ _ _ _ _ (ranks (panel_number a.panel) (panel_number b.panel)) (ranks a.date b.date) less

-- a key between two of one panel and day is of that panel and day
between : (low middle high : Key) → key_cmp low middle ≡ Less → key_cmp middle high ≡ Less → panel_number low.panel ≡ panel_number high.panel → low.date ≡ high.date → (panel_number middle.panel ≡ panel_number high.panel) × (middle.date ≡ high.date)
between low middle high first second panel date = elim (by_panel_and_day low middle first) [
  | inl p ↦ elim (by_panel_and_day middle high second) [
    | inl q ↦ absurd (omega arith)
    | inr q ↦ absurd (omega arith)
  ]
  | inr p ↦ elim (by_panel_and_day middle high second) [
    | inl q ↦ absurd (omega arith)
    | inr q ↦ (q.0, omega arith)
  ]
]

-- of keys of one panel and day those without a parent stand first
not_above : (a b : List ℕ) → (text_cmp a b ≡ Greater → ⊥) → is_empty b ≡ true → is_empty a ≡ true
not_above [] b low none = refl
not_above (x ∷ a) [] low none = absurd (low refl)
not_above (x ∷ a) (y ∷ b) low none = cc

third : (a b c t : Ordering) → a ≡ Equal → b ≡ Equal → ordering_then a (ordering_then b (ordering_then c t)) ≡ Less → c ≡ Greater → ⊥
third a b c t e f less g = let clash : Greater ≡ Less = (λ i. ordering_then (sym e i) (ordering_then (sym f i) (ordering_then (sym g i) t))) ∙ less in cc

no_parent_first : (a b : Key) → key_cmp a b ≡ Less → panel_number a.panel ≡ panel_number b.panel → a.date ≡ b.date → is_empty b.parent ≡ true → is_empty a.parent ≡ true
unfolding key_cmp
no_parent_first a b less panel date none =
    not_above a.parent b.parent (third (nat_cmp (panel_number a.panel) (panel_number b.panel)) (nat_cmp a.date b.date) (text_cmp a.parent b.parent) _
    (ap (λ n. nat_cmp n (panel_number b.panel)) panel ∙ tied_itself nat_cmp_total (panel_number b.panel)) (ap (λ n. nat_cmp n b.date) date ∙ tied_itself nat_cmp_total b.date) less) none

-- so a key between two that both have a parent, or both have none, is as they are
parent_between : (low middle high : Bool) → (middle ≡ true → low ≡ true) → (high ≡ true → middle ≡ true) → low ≡ high → middle ≡ high
parent_between low true true down up same = refl
parent_between low true false down up same = let clash : true ≡ false = sym (down refl) ∙ same in cc
parent_between low false true down up same = let clash : false ≡ true = up refl in cc
parent_between low false false down up same = refl

is_at_from : (sums : LayerSums) (key : Key) → panel_number sums.panel ≡ panel_number key.panel → sums.date ≡ key.date → sums.no_parent ≡ is_empty key.parent → is_at sums key ≡ true
unfolding is_same_panel
is_at_from sums key panel date parent = rw (eq-eqb _ _ panel, eq-eqb _ _ date, parent, is_flag-refl (is_empty key.parent))

-- a load added in a layer
abbrev pub put_load : Bool → LayerSums → Load → LayerSums
put_load e r more = cond e (record r { groups = load_plus r.groups more }) (record r { entries = load_plus r.entries more })

put_panel : (e : Bool) (r : LayerSums) (more : Load) → (put_load e r more).panel ≡ r.panel
put_panel true r more = refl
put_panel false r more = refl

put_date : (e : Bool) (r : LayerSums) (more : Load) → (put_load e r more).date ≡ r.date
put_date true r more = refl
put_date false r more = refl

put_no_parent : (e : Bool) (r : LayerSums) (more : Load) → (put_load e r more).no_parent ≡ r.no_parent
put_no_parent true r more = refl
put_no_parent false r more = refl

put_same : (e : Bool) (r : LayerSums) (more : Load) → layer_load (put_load e r more) e ≡ load_plus (layer_load r e) more
put_same true r more = refl
put_same false r more = refl

put_other : (e g : Bool) (r : LayerSums) (more : Load) → is_flag g e ≡ false → layer_load (put_load e r more) g ≡ layer_load r g
put_other true true r more apart = absurd (false≢true (sym apart))
put_other true false r more apart = refl
put_other false true r more apart = refl
put_other false false r more apart = absurd (false≢true (sym apart))

-- where sums are at a key
record AreAt (sums : LayerSums) (key : Key) : Type 0 where
  its_panel : sums.panel ≡ key.panel
  its_date : sums.date ≡ key.date
  its_parent : sums.no_parent ≡ is_empty key.parent

at_key : (sums : LayerSums) (key : Key) → is_at sums key ≡ true → AreAt sums key
at_key sums key e =
    let parts = both_true (is_same_panel sums.panel key.panel) ((sums.date == key.date) && is_flag sums.no_parent (is_empty key.parent)) e in
    let rest = both_true (sums.date == key.date) (is_flag sums.no_parent (is_empty key.parent)) parts.1 in
    record {
      its_panel = same_panel sums.panel key.panel parts.0;
      its_date = eqb→eq sums.date key.date (subst T (sym rest.0) tt);
      its_parent = is_flag-same sums.no_parent (is_empty key.parent) rest.1;
    }

-- no sums yet at a key
abbrev fresh : Key → LayerSums
fresh key = record { panel = key.panel; date = key.date; no_parent = is_empty key.parent; groups = no_load; entries = no_load }

reached_at : (sums : LayerSums) (key : Key) → AreAt (reached sums key) key
reached_at sums key = pick (is_at sums key) refl
  where
    pick : (v : Bool) → is_at sums key ≡ v → AreAt (cond v sums (fresh key)) key
    pick true e = at_key sums key e
    pick false e = record { its_panel = refl; its_date = refl; its_parent = refl }

-- a key in a layer on a day has a parent as the layer says
in_parent : (layer : Layer) (date : ℕ) (key : Key) → ((key.date == date) && in_layer layer key) ≡ true → layer.no_parent ≡ is_empty key.parent
in_parent layer date key e =
    let in_its = (both_true (key.date == date) (in_layer layer key) e).1 in
    let flags = (both_true (is_same_panel key.panel layer.panel) (is_flag layer.no_parent (is_empty key.parent) && is_flag layer.no_label (is_empty key.label)) in_its).1 in
    is_flag-same layer.no_parent (is_empty key.parent) (both_true (is_flag layer.no_parent (is_empty key.parent)) (is_flag layer.no_label (is_empty key.label)) flags).0

-- a key in a layer on a day has its panel and day
pub in_panel_and_day : (layer : Layer) (date : ℕ) (key : Key) → ((key.date == date) && in_layer layer key) ≡ true → (panel_number key.panel ≡ panel_number layer.panel) × (key.date ≡ date)
in_panel_and_day layer date key e =
    let parts = both_true (key.date == date) (in_layer layer key) e in
    let both = both_true (is_same_panel key.panel layer.panel) (is_flag layer.no_parent (is_empty key.parent) && is_flag layer.no_label (is_empty key.label)) parts.1 in
    (ap panel_number (same_panel key.panel layer.panel both.0), eqb→eq key.date date (subst T (sym parts.0) tt))

module _ (rows : List SummaryRow) (row : SummaryRow) (sums : LayerSums) (are : AreSumsOf rows sums) (rising : KeysRise (rows ++ row ∷ [])) where
  -- the layers of the row's panel and day with as much parent as it has
  abbrev beside_it : Bool → Layer
  beside_it no_label = record { panel = row.key.panel; no_parent = is_empty row.key.parent; no_label = no_label }

  -- the sums of these before it
  reached_load : (no_label : Bool) → layer_load (reached sums row.key) no_label ≡ load_of (layer_rows (beside_it no_label) row.key.date rows)
  reached_load no_label = pick (is_at sums row.key) refl
    where
      none : (no_label : Bool) → layer_load (fresh row.key) no_label ≡ no_load
      none true = refl
      none false = refl

      pick : (v : Bool) → is_at sums row.key ≡ v → layer_load (cond v sums (fresh row.key)) no_label ≡ load_of (layer_rows (beside_it no_label) row.key.date rows)
      pick true e =
          let at = at_key sums row.key e in
          are.here no_label ∙ (λ i. load_of (layer_rows (record { panel = at.its_panel i; no_parent = at.its_parent i; no_label = no_label }) (at.its_date i) rows))
      pick false e = none no_label ∙ ap load_of (sym (are.ahead row.key no_label (below_from_push key_cmp (λ (r : SummaryRow). r.key) rows row rising) e))

  -- what its layer sums to with it
  pub its_layer : layer_plus sums row.key (sums_load row.sums) ≡ load_of (layer_rows (layer_of row.key) row.key.date (rows ++ row ∷ []))
  its_layer =
      let more : layer_rows (layer_of row.key) row.key.date (rows ++ row ∷ []) ≡ layer_rows (layer_of row.key) row.key.date rows ++ row ∷ [] = rw (layer_push rows row (layer_of row.key) row.key.date, in_its_layer rows row) refl in
      rw more (sym (load_of-append (layer_rows (layer_of row.key) row.key.date rows) (row ∷ []) ∙ (λ i. load_plus (sym (reached_load (is_empty row.key.label)) i) (load_of-one row i))))

  abbrev next : LayerSums
  next = with_load sums row.key (sums_load row.sums)

  next_at : AreAt next row.key
  next_at =
      let e = is_empty row.key.label in
      let at = reached_at sums row.key in
      record {
        its_panel = put_panel e (reached sums row.key) (sums_load row.sums) ∙ at.its_panel;
        its_date = put_date e (reached sums row.key) (sums_load row.sums) ∙ at.its_date;
        its_parent = put_no_parent e (reached sums row.key) (sums_load row.sums) ∙ at.its_parent;
      }

  next_here : (no_label : Bool) → layer_load next no_label ≡ load_of (layer_rows (beside_it no_label) row.key.date (rows ++ row ∷ []))
  next_here no_label = pick (is_flag no_label (is_empty row.key.label)) refl
    where
      pick : (v : Bool) → is_flag no_label (is_empty row.key.label) ≡ v → layer_load (put_load (is_empty row.key.label) (reached sums row.key) (sums_load row.sums)) no_label ≡ load_of (layer_rows (beside_it no_label) row.key.date (rows ++ row ∷ []))
      pick true e =
          let same : no_label ≡ is_empty row.key.label = is_flag-same no_label (is_empty row.key.label) e in
          subst (λ (g : Bool). layer_load (put_load (is_empty row.key.label) (reached sums row.key) (sums_load row.sums)) g ≡ load_of (layer_rows (beside_it g) row.key.date (rows ++ row ∷ []))) (sym same)
          (put_same (is_empty row.key.label) (reached sums row.key) (sums_load row.sums) ∙ its_layer)
      pick false e =
          let layer = beside_it no_label in
          let out : ((row.key.date == row.key.date) && in_layer layer row.key) ≡ false =
          rw (eq-eqb row.key.date row.key.date refl, is_same_panel-itself row.key.panel, is_flag-refl (is_empty row.key.parent)) e in
          let rest : layer_rows layer row.key.date (rows ++ row ∷ []) ≡ layer_rows layer row.key.date rows = rw (layer_push rows row layer row.key.date, out) (append-nil _) in
          put_other (is_empty row.key.label) no_label (reached sums row.key) (sums_load row.sums) e ∙ reached_load no_label ∙ ap load_of (sym rest)

  next_ahead : (key : Key) (no_label : Bool) → Below key_cmp (λ (r : SummaryRow). r.key) (rows ++ row ∷ []) key → is_at next key ≡ false
      → layer_rows (record { panel = key.panel; no_parent = is_empty key.parent; no_label = no_label }) key.date (rows ++ row ∷ []) ≡ []
  next_ahead key no_label below apart =
      let layer : Layer = record { panel = key.panel; no_parent = is_empty key.parent; no_label = no_label } in
      let apart_from : panel_number row.key.panel ≡ panel_number key.panel → row.key.date ≡ key.date → is_empty row.key.parent ≡ is_empty key.parent → ⊥ =
      λ panel date parent. false≢true (sym apart ∙ is_at_from next key (ap panel_number next_at.its_panel ∙ panel) (next_at.its_date ∙ date) (next_at.its_parent ∙ parent)) in
      let row_below : key_cmp row.key key ≡ Less = All-contains (λ (r : SummaryRow). key_cmp r.key key ≡ Less) (rows ++ row ∷ []) row below (Contains-push rows row) in
      let before = below_from_push key_cmp (λ (r : SummaryRow). r.key) rows row rising in
      let test = λ (r : SummaryRow). (r.key.date == key.date) && in_layer layer r.key in
      filter_none test (rows ++ row ∷ []) (All-push (λ (r : SummaryRow). test r ≡ true → ⊥) rows row
      (λ k d lt e.
      let own = (get_or rows k d).key in
      let is = in_panel_and_day layer key.date own e in
      let same = between own row.key key (before k d lt) row_below is.0 is.1 in
      apart_from same.0 same.1
      (parent_between (is_empty own.parent) (is_empty row.key.parent) (is_empty key.parent)
      (no_parent_first own row.key (before k d lt) (is.0 ∙ sym same.0) (is.1 ∙ sym same.1)) (no_parent_first row.key key row_below same.0 same.1)
      (sym (in_parent layer key.date own e))))
      (λ e. let is = in_panel_and_day layer key.date row.key e in apart_from is.0 is.1 (sym (in_parent layer key.date row.key e))))

  pub next_sums : AreSumsOf (rows ++ row ∷ []) next
  next_sums = record {
    here = λ no_label. next_here no_label
        ∙ (λ i. load_of (layer_rows (record { panel = sym next_at.its_panel i; no_parent = sym next_at.its_parent i; no_label = no_label }) (sym next_at.its_date i) (rows ++ row ∷ [])));
    ahead = next_ahead;
  }
