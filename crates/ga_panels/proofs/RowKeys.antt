-- Keys of rows whose panels rise rise themselves, and no layer has two of them.
use Rattle.std.proofs.Common.{◌≡◌, ◌≢◌, ◌↔◌, ℕ, ◌+◌, ◌≤◌, ◌<◌, ◌==◌, Bool, true, false, cond, ◌&&◌, List, [], ◌∷◌, ◌++◌, Some, None, refl, sym, ap, ◌∙◌, subst, arith, ◌⊎◌, inl, inr, ⊎_elim}
use Rattle.std.specs.Prelude.{if◌then◌else◌, flat_map, count_by}
use Rattle.std.specs.List.{AllByRecursion}
use Rattle.std.specs.List.Sorted.{IsStrictlySortedBy}
use Rattle.std.specs.Ordering.{nat_cmp, ordering_then}
use Rattle.std.specs.declared.cmp.Ordering.{Ordering}
use Rattle.std.specs.declared.cmp.Ordering.TheVariants.{Less, Equal}
use Rattle.std.specs.Cmp.{tied_itself}
use Rattle.std.proofs.lemmas.Bool.{cases_eq, eq-eqb, eqb-true}
use Rattle.std.proofs.lemmas.Bool.Decides.{nat_tests}
use Rattle.std.proofs.lemmas.Cmp.{nat_cmp_total, nat_list_cmp_total}
use Rattle.std.proofs.lemmas.List.Sums.{count_by-le-length, sum_by-append}
use Rattle.ga_base.specs.Days.{HasEightDigits}
use Rattle.ga_base.specs.Layers.{HasForm, IsDayOrPart, Layer, has_groups, has_requests, in_layer, is_empty, is_flag}
use Rattle.ga_base.specs.Orders.{key_cmp, text_cmp}
use Rattle.ga_base.specs.Panels.{is_same_panel, panel_number}
use Rattle.ga_base.proofs.OrderLemmas.{panel_number_exact}
use Rattle.ga_base.specs.declared.key.Key.{Key}
use Rattle.ga_base.specs.declared.panel.Panel.{Panel}
use Rattle.ga_base.specs.declared.panel.Panel.TheVariants.{Visitors}
use Rattle.ga_base.specs.declared.record.Record.{Record}
use Rattle.ga_panels.specs.Table.{PanelRow, counted_key, key_above, with_group}

-- a key of this panel and day, in its form
pub record IsOwn (date : ℕ) (panel : Panel) (key : Key) : Type 0 where
  pub its_panel : key.panel ≡ panel
  pub its_date : key.date ≡ date
  pub form : HasForm key

-- the keys of one panel
pub record AreOfPanel (date : ℕ) (panel : Panel) (keys : List Key) : Type 0 where
  pub rising : IsStrictlySortedBy key_cmp keys
  pub own : AllByRecursion (IsOwn date panel) keys
  pub layers : (layer : Layer) → count_by (in_layer layer) keys ≤ 1

all-append : {X : Type 0} (P : X → Type 0) (xs ys : List X) → AllByRecursion P xs → AllByRecursion P ys → AllByRecursion P (xs ++ ys)
all-append P [] ys all more = more
all-append P (x ∷ xs) ys all more = (all.0, all-append P xs ys all.1 more)

pub all-weaker : {X : Type 0} (P Q : X → Type 0) → ((x : X) → P x → Q x) → (xs : List X) → AllByRecursion P xs → AllByRecursion Q xs
all-weaker P Q from [] all = tt
all-weaker P Q from (x ∷ xs) all = (from x all.0, all-weaker P Q from xs all.1)

none_rise : IsStrictlySortedBy key_cmp []
unfolding IsStrictlySortedBy
none_rise = tt

one_rises : (key : Key) → IsStrictlySortedBy key_cmp (key ∷ [])
unfolding IsStrictlySortedBy
one_rises key = (tt, tt)

two_rise : (a b : Key) → key_cmp a b ≡ Less → IsStrictlySortedBy key_cmp (a ∷ b ∷ [])
unfolding IsStrictlySortedBy
two_rise a b less = ((less, tt), (tt, tt))

-- lists that rise, each key of the first below each of the second
sorted-append : (xs ys : List Key) → IsStrictlySortedBy key_cmp xs → IsStrictlySortedBy key_cmp ys → AllByRecursion (λ x. AllByRecursion (λ y. key_cmp x y ≡ Less) ys) xs → IsStrictlySortedBy key_cmp (xs ++ ys)
unfolding IsStrictlySortedBy
sorted-append [] ys up more below = more
sorted-append (x ∷ xs) ys up more below =
    (all-append (λ y. key_cmp x y ≡ Less) xs ys up.0 below.0, sorted-append xs ys up.1 more below.1)

same_panel : (a b : Panel) → is_same_panel a b ≡ true → a ≡ b
unfolding is_same_panel
same_panel a b e = panel_number_exact a b (eqb-true (panel_number a) (panel_number b) e)

same_itself : (panel : Panel) → is_same_panel panel panel ≡ true
unfolding is_same_panel
same_itself panel = eq-eqb (panel_number panel) (panel_number panel) refl

nat_less : (a b : ℕ) → a < b → nat_cmp a b ≡ Less
nat_less a b below = grind (arith, nat_tests)

-- keys of panels that rise
panel_less : (a b : Key) → panel_number a.panel < panel_number b.panel → key_cmp a b ≡ Less
unfolding key_cmp
panel_less a b below = ap (λ (o : Ordering). ordering_then o (ordering_then (nat_cmp a.date b.date) (ordering_then (text_cmp a.parent b.parent)
    (ordering_then (text_cmp a.label b.label) (ordering_then (text_cmp a.method b.method) (text_cmp a.protocol b.protocol))))))
    (nat_less (panel_number a.panel) (panel_number b.panel) below)

-- how many keys a layer has
count_more : (p : Key → Bool) (key : Key) (keys : List Key) → count_by p (key ∷ keys) ≡ cond (p key) 1 0 + count_by p keys
count_more p key keys = omega (arith, sum_by-append (λ k. cond (p k) 1 0) (key ∷ []) keys)

count_none : (p : Key → Bool) (keys : List Key) → AllByRecursion (λ key. p key ≡ false) keys → count_by p keys ≡ 0
count_none p [] none = refl
count_none p (key ∷ keys) none =
    count_more p key keys ∙ ap (λ b. cond b 1 0 + count_by p keys) none.0 ∙ omega (arith, count_none p keys none.1)

other_panel : (layer : Layer) (key : Key) → panel_number key.panel ≢ panel_number layer.panel → in_layer layer key ≡ false
unfolding is_same_panel
other_panel layer key other =
    let differs : (panel_number key.panel == panel_number layer.panel) ≡ false = grind (arith, nat_tests) in
    ap (λ b. b && (is_flag layer.no_parent (is_empty key.parent) && is_flag layer.no_label (is_empty key.label))) differs

-- the rows stand at the panels' numbers from this one on
abbrev pub StandFrom : ℕ → List PanelRow → Type 0
StandFrom n [] = Unit {0}
StandFrom n (row ∷ rows) = (panel_number row.panel ≡ n) × StandFrom (n + 1) rows

module _ (date : ℕ) (keys_of : PanelRow → List Key) where
  abbrev AllGive : List PanelRow → Type 0
  AllGive rows = AllByRecursion (λ row. AreOfPanel date row.panel (keys_of row)) rows

  from_row : (n m : ℕ) (row : PanelRow) → panel_number row.panel ≡ n → m ≤ n → AreOfPanel date row.panel (keys_of row) → AllByRecursion (λ key. m ≤ panel_number key.panel) (keys_of row)
  from_row n m row at low gives =
      all-weaker (IsOwn date row.panel) (λ key. m ≤ panel_number key.panel) (λ key own. subst (λ p. m ≤ panel_number p) (sym own.its_panel) (omega (arith, at))) (keys_of row) gives.own

  keys_from : (n m : ℕ) (rows : List PanelRow) → StandFrom n rows → m ≤ n → AllGive rows → AllByRecursion (λ key. m ≤ panel_number key.panel) (flat_map keys_of rows)
  keys_from n m [] stand low all = tt
  keys_from n m (row ∷ rows) stand low all =
      all-append (λ key. m ≤ panel_number key.panel) (keys_of row) (flat_map keys_of rows) (from_row n m row stand.0 low all.0) (keys_from (n + 1) m rows stand.1 (omega arith) all.1)

  pub rows_rise : (n : ℕ) (rows : List PanelRow) → StandFrom n rows → AllGive rows → IsStrictlySortedBy key_cmp (flat_map keys_of rows)
  rows_rise n [] stand all = none_rise
  rows_rise n (row ∷ rows) stand all =
      let later = keys_from (n + 1) (n + 1) rows stand.1 (omega arith) all.1 in
      sorted-append (keys_of row) (flat_map keys_of rows) all.0.rising (rows_rise (n + 1) rows stand.1 all.1)
      (all-weaker (IsOwn date row.panel) (λ x. AllByRecursion (λ y. key_cmp x y ≡ Less) (flat_map keys_of rows))
      (λ x own. all-weaker (λ y. n + 1 ≤ panel_number y.panel) (λ y. key_cmp x y ≡ Less)
      (λ y above. panel_less x y (omega (arith, stand.0, ap panel_number own.its_panel, above))) (flat_map keys_of rows) later)
      (keys_of row) all.0.own)

  pub rows_own : (rows : List PanelRow) → AllGive rows → AllByRecursion (λ key. (key.date ≡ date) × HasForm key) (flat_map keys_of rows)
  rows_own [] all = tt
  rows_own (row ∷ rows) all =
      all-append (λ key. (key.date ≡ date) × HasForm key) (keys_of row) (flat_map keys_of rows)
      (all-weaker (IsOwn date row.panel) (λ key. (key.date ≡ date) × HasForm key) (λ key own. (own.its_date, own.form)) (keys_of row) all.0.own) (rows_own rows all.1)

  pub rows_layers : (n : ℕ) (rows : List PanelRow) → StandFrom n rows → AllGive rows → (layer : Layer) → count_by (in_layer layer) (flat_map keys_of rows) ≤ 1
  rows_layers n [] stand all layer = omega arith
  rows_layers n (row ∷ rows) stand all layer =
      let joined = sum_by-append (λ k. cond (in_layer layer k) 1 0) (keys_of row) (flat_map keys_of rows) in
      ⊎_elim
      (λ here.
      let none = count_none (in_layer layer) (flat_map keys_of rows) (all-weaker (λ key. n + 1 ≤ panel_number key.panel) (λ key. in_layer layer key ≡ false)
      (λ key above. other_panel layer key (λ e. absurd (omega (arith, e, here, above)))) (flat_map keys_of rows) (keys_from (n + 1) (n + 1) rows stand.1 (omega arith) all.1)) in
      omega (arith, joined, none, all.0.layers layer))
      (λ other.
      let none = count_none (in_layer layer) (keys_of row) (all-weaker (IsOwn date row.panel) (λ key. in_layer layer key ≡ false)
      (λ key own. other_panel layer key (λ e. other (sym e ∙ ap panel_number own.its_panel ∙ stand.0))) (keys_of row) all.0.own) in
      omega (arith, joined, none, rows_layers (n + 1) rows stand.1 all.1 layer))
      (cases_eq (panel_number layer.panel) n)

-- what a row's columns keep to on a day
pub record IsFormed (date : ℕ) (row : PanelRow) : Type 0 where
  pub visit : row.panel ≡ Visitors → IsDayOrPart date row.parent row.label
  pub parent : row.panel ≢ Visitors → (row.parent ≡ []) ↔ (has_groups row.panel ≡ false)
  pub request : has_requests row.panel ≡ false → row.request ≡ false
  pub some : row.parent ≢ [] → row.label ≢ []

empty_label_less : (label : List ℕ) → label ≢ [] → text_cmp [] label ≡ Less
empty_label_less [] some = absurd (some refl)
empty_label_less (b ∷ label) some = refl

-- a group comes before its entry
group_less : (group entry : Key) → group.panel ≡ entry.panel → group.date ≡ entry.date → group.parent ≡ entry.parent → text_cmp group.label entry.label ≡ Less → key_cmp group entry ≡ Less
unfolding key_cmp
group_less group entry panel date parent label =
    let p : nat_cmp (panel_number group.panel) (panel_number entry.panel) ≡ Equal = ap (λ x. nat_cmp (panel_number x) (panel_number entry.panel)) panel ∙ tied_itself nat_cmp_total (panel_number entry.panel) in
    let d : nat_cmp group.date entry.date ≡ Equal = ap (λ x. nat_cmp x entry.date) date ∙ tied_itself nat_cmp_total entry.date in
    let t : text_cmp group.parent entry.parent ≡ Equal = ap (λ x. text_cmp x entry.parent) parent ∙ tied_itself nat_list_cmp_total entry.parent in
    let last = ordering_then (text_cmp group.method entry.method) (text_cmp group.protocol entry.protocol) in
    ap (λ (o : Ordering). ordering_then o (ordering_then (nat_cmp group.date entry.date) (ordering_then (text_cmp group.parent entry.parent) (ordering_then (text_cmp group.label entry.label) last)))) p
    ∙ ap (λ (o : Ordering). ordering_then o (ordering_then (text_cmp group.parent entry.parent) (ordering_then (text_cmp group.label entry.label) last))) d
    ∙ ap (λ (o : Ordering). ordering_then o (ordering_then (text_cmp group.label entry.label) last)) t
    ∙ ap (λ (o : Ordering). ordering_then o last) label

-- a group before its entry, or a day before a part of it: the parents tell them apart
parent_less : (day part : Key) → day.panel ≡ part.panel → day.date ≡ part.date → text_cmp day.parent part.parent ≡ Less → key_cmp day part ≡ Less
unfolding key_cmp
parent_less day part panel date parent =
    let p : nat_cmp (panel_number day.panel) (panel_number part.panel) ≡ Equal = ap (λ x. nat_cmp (panel_number x) (panel_number part.panel)) panel ∙ tied_itself nat_cmp_total (panel_number part.panel) in
    let d : nat_cmp day.date part.date ≡ Equal = ap (λ x. nat_cmp x part.date) date ∙ tied_itself nat_cmp_total part.date in
    let rest = ordering_then (text_cmp day.label part.label) (ordering_then (text_cmp day.method part.method) (text_cmp day.protocol part.protocol)) in
    ap (λ (o : Ordering). ordering_then o (ordering_then (nat_cmp day.date part.date) (ordering_then (text_cmp day.parent part.parent) rest))) p
    ∙ ap (λ (o : Ordering). ordering_then o (ordering_then (text_cmp day.parent part.parent) rest)) d
    ∙ ap (λ (o : Ordering). ordering_then o rest) parent

both_true : (a b : Bool) → (a && b) ≡ true → (a ≡ true) × (b ≡ true)
both_true true b e = (refl, e)
both_true false b e = cc

flag_is : (flag b : Bool) → is_flag flag b ≡ true → flag ≡ b
flag_is true true e = refl
flag_is true false e = cc
flag_is false true e = cc
flag_is false false e = refl

-- keys in one layer have the same two answers
flags_in : (layer : Layer) (key : Key) → in_layer layer key ≡ true → (layer.no_parent ≡ is_empty key.parent) × (layer.no_label ≡ is_empty key.label)
flags_in layer key e =
    let flags = both_true _ _ (both_true (is_same_panel key.panel layer.panel) (is_flag layer.no_parent (is_empty key.parent) && is_flag layer.no_label (is_empty key.label)) e).1 in
    (flag_is layer.no_parent (is_empty key.parent) flags.0, flag_is layer.no_label (is_empty key.label) flags.1)

at_most_one : (a b : Bool) → (a ≡ true → b ≡ true → ⊥) → 0 + cond a 1 0 + cond b 1 0 ≤ 1
at_most_one true true not_both = absurd (not_both refl refl)
at_most_one true false not_both = omega arith
at_most_one false true not_both = omega arith
at_most_one false false not_both = omega arith

-- the two answers tell them apart
abbrev AreApart : Key → Key → Type 0
AreApart a b = (is_empty a.parent ≢ is_empty b.parent) ⊎ (is_empty a.label ≢ is_empty b.label)

apart_layers : (a b : Key) → AreApart a b → (layer : Layer) → count_by (in_layer layer) (a ∷ b ∷ []) ≤ 1
apart_layers a b (inl parents) layer = at_most_one (in_layer layer a) (in_layer layer b) (λ p q. parents (sym (flags_in layer a p).0 ∙ (flags_in layer b q).0))
apart_layers a b (inr labels) layer = at_most_one (in_layer layer a) (in_layer layer b) (λ p q. labels (sym (flags_in layer a p).1 ∙ (flags_in layer b q).1))

some_not_empty : (label : List ℕ) → label ≢ [] → is_empty label ≡ false
some_not_empty [] some = absurd (some refl)
some_not_empty (b ∷ label) some = refl

nothing_given : (date : ℕ) (panel : Panel) → AreOfPanel date panel []
nothing_given date panel = record { rising = none_rise; own = tt; layers = λ layer. omega arith }

-- the key of an entry alone
one_given : (date : ℕ) (panel : Panel) (key : Key) → IsOwn date panel key → AreOfPanel date panel (key ∷ [])
one_given date panel key own = record { rising = one_rises key; own = (own, tt); layers = λ layer. count_by-le-length (in_layer layer) (key ∷ []) }

-- a group's key and an entry's, or a day's and that of a part of it
two_given : (date : ℕ) (panel : Panel) (group entry : Key) → IsOwn date panel group → IsOwn date panel entry → key_cmp group entry ≡ Less → AreApart group entry → AreOfPanel date panel (group ∷ entry ∷ [])
two_given date panel group entry own also less apart = record { rising = two_rise group entry less; own = (own, (also, tt)); layers = apart_layers group entry apart }

-- the keys of an entry with these columns
module _ (rec : Record) (dated : HasEightDigits rec.date) (panel : Panel) where
  abbrev entry_key : List ℕ → List ℕ → Bool → Key
  entry_key parent label request = record {
    panel = panel;
    date = rec.date;
    parent = parent;
    label = label;
    method = if request then rec.method else [];
    protocol = if request then rec.protocol else [];
  }

  entry_own : (parent label : List ℕ) (request : Bool) → IsFormed rec.date (record { panel = panel; has_key = true; parent = parent; label = label; request = request })
      → IsOwn rec.date panel (entry_key parent label request)
  entry_own parent label request formed = record {
    its_panel = refl;
    its_date = refl;
    form = record {
      date = dated;
      visit = formed.visit;
      parent = formed.parent;
      request = λ none. (ap (λ b. if b then rec.method else []) (formed.request none), ap (λ b. if b then rec.protocol else []) (formed.request none));
    };
  }

  -- an entry with a parent, after the key beside it
  module _ (b : ℕ) (parent label : List ℕ) (request : Bool) (formed : IsFormed rec.date (record { panel = panel; has_key = true; parent = b ∷ parent; label = label; request = request })) where
    abbrev entry : Key
    entry = entry_key (b ∷ parent) label request

    -- the parent of a part of a day is the day's digits, which are the data of the day's key
    after_day : panel ≡ Visitors → AreOfPanel rec.date panel (key_above true entry ∷ entry ∷ [])
    after_day visitors = elim (formed.visit visitors) [
      | inl day ↦ let none = day.0 in cc
      | inr part ↦ two_given rec.date panel (key_above true entry) entry
          (record { its_panel = refl; its_date = refl; form = record { date = dated; visit = λ _. inl (refl, part.0); parent = λ other. absurd (other visitors); request = λ none. (refl, refl) } })
          (entry_own (b ∷ parent) label request formed)
          (parent_less (key_above true entry) entry refl refl refl)
          (inl (λ e. cc))
    ]

    after_group : panel ≢ Visitors → AreOfPanel rec.date panel (key_above false entry ∷ entry ∷ [])
    after_group other =
        let some : label ≢ [] = formed.some (λ e. cc) in
        two_given rec.date panel (key_above false entry) entry
        (record { its_panel = refl; its_date = refl; form = record { date = dated; visit = λ e. absurd (other e); parent = formed.parent; request = λ none. (refl, refl) } })
        (entry_own (b ∷ parent) label request formed)
        (group_less (key_above false entry) entry refl refl refl (empty_label_less label some))
        (inr (λ e. let clash : true ≡ false = e ∙ some_not_empty label some in cc))

    with_above : (v : Bool) → is_same_panel panel Visitors ≡ v → AreOfPanel rec.date panel (key_above v entry ∷ entry ∷ [])
    with_above true e = after_day (same_panel panel Visitors e)
    with_above false e = after_group (λ is. let clash : true ≡ false = sym (same_itself Visitors) ∙ sym (ap (λ p. is_same_panel p Visitors) is) ∙ e in cc)

  pub entry_gives : (parent label : List ℕ) (request : Bool) → IsFormed rec.date (record { panel = panel; has_key = true; parent = parent; label = label; request = request })
      → AreOfPanel rec.date panel (with_group (Some (entry_key parent label request)))
  entry_gives [] label request formed = one_given rec.date panel (entry_key [] label request) (entry_own [] label request formed)
  entry_gives (b ∷ parent) label request formed = with_above b parent label request formed (is_same_panel panel Visitors) refl

-- and of a row, whether it is counted or not
pub row_gives : (panels : List Bool) (rec : Record) (row : PanelRow) → HasEightDigits rec.date → (row.has_key ≡ true → IsFormed rec.date row) → AreOfPanel rec.date row.panel (with_group (counted_key panels rec row))
row_gives panels rec row dated formed = by_tests _ row.has_key formed
  where
    by_tests : (counted has_key : Bool) → (has_key ≡ true → IsFormed rec.date row) → AreOfPanel rec.date row.panel (with_group (if counted then if has_key then Some (entry_key rec dated row.panel row.parent row.label row.request) else None else None))
    by_tests false has_key formed = nothing_given rec.date row.panel
    by_tests true false formed = nothing_given rec.date row.panel
    by_tests true true formed =
        let f = formed refl in
        entry_gives rec dated row.panel row.parent row.label row.request (record { visit = f.visit; parent = f.parent; request = f.request; some = f.some })
