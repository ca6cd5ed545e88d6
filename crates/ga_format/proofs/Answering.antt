-- A text has one answer, and its items are sound.
use Rattle.std.proofs.Common.{◌≡◌, ℕ, ◌-◌, ◌<◌, ◌≤◌, Bool, true, false, List, [], ◌∷◌, ◌++◌, length, refl, sym, ◌∙◌, ap, subst, arith, inl, inr, ◌⊎◌, Option, Some, None, Result, Ok, Err, IfOk, IfErr, cond, eqb}
use Rattle.std.specs.Prelude.{if◌then◌else◌, ◌==◌}
use Rattle.std.specs.List.{list_any, AllByRecursion}
use Rattle.std.proofs.lemmas.Bool.Decides.{Decides-eqb}
use Rattle.ga_base.specs.declared.formats.FormatItem.TheVariants.{Skip, Field}
use Rattle.std.proofs.lemmas.Bool.{false≢true}
use Rattle.std.proofs.lemmas.Option.{none-some}
use Rattle.ga_base.specs.FormatFaults.{fault_place}
use Rattle.ga_base.specs.declared.formats.FormatItem.{FormatItem}
use Rattle.ga_base.specs.declared.formats.FormatFault.{FormatFault}
use Rattle.ga_base.specs.declared.formats.FormatFault.TheVariants.{UnknownSpecifier, Repeated, NoDelimiter, Missing, BadDirective, NotJson, BadShape, Leaf, NoMemory}
use Rattle.ga_base.specs.declared.formats.Needed.{Needed}
use Rattle.ga_base.specs.declared.formats.Needed.TheVariants.{Host, Date, Request}
use Rattle.ga_format.specs.Units.{FormatUnit, Plain, Tab, Specifier, ForwardedFor, IsUnit, IsRow, item_of, items_of}
use Rattle.ga_format.specs.FieldKinds.{IsFirstMissing, runs_into, repeats, gives}
use Rattle.ga_format.specs.FormatOf.{AreItems, Lacks, HasFault, HasPlaced, IsFormat, IsFirstFault, IsFirstPlaced, ItemsOf, FormatOf, IsBefore, Precedes, rank_of}
use Rattle.ga_format.specs.SoundFormats.{IsNamed, IsSound}
use Rattle.ga_format.proofs.RowLemmas.{row_same, row_no_longer}

-- a part that one row of the text lacks is lacking in these items
lacking : (text : List ℕ) (items : List FormatItem) (need : Needed) → AreItems [] text items → Lacks text need → list_any (gives need) items ≡ false
lacking text items need w lacks =
    ap (λ (r : List FormatItem). list_any (gives need) r) (w.gives_items ∙ ap items_of (row_same w.row lacks.row text w.whole lacks.whole)) ∙ lacks.none

given_not_lacking : (text : List ℕ) (items : List FormatItem) (need : Needed) → AreItems [] text items → list_any (gives need) items ≡ true → Lacks text need → ⊥
given_not_lacking text items need w given lacks = false≢true (sym (lacking text items need w lacks) ∙ given)

pub whole_is_format : (text : List ℕ) (items : List FormatItem) → AreItems [] text items → ((need : Needed) → list_any (gives need) items ≡ true) → IsFormat text items
whole_is_format text items w given = record {
  row = w.row;
  whole = w.whole;
  gives_items = w.gives_items;
  faultless = faultless;
}
  where
    faultless : (fault : FormatFault) → HasFault text fault → ⊥
    faultless (UnknownSpecifier p) f = w.faultless (UnknownSpecifier p) f
    faultless (Repeated p) f = w.faultless (Repeated p) f
    faultless (NoDelimiter p) f = w.faultless (NoDelimiter p) f
    faultless (Missing need) f = given_not_lacking text items need w (given need) f
    faultless (BadDirective p) f = f
    faultless NotJson f = f
    faultless (BadShape leaf) f = f
    faultless (Leaf leaf kind p) f = f
    faultless NoMemory f = f

pub first_is_missing : (text : List ℕ) (items : List FormatItem) (need : Needed) → AreItems [] text items → IsFirstMissing items need → IsFirstFault text (Missing need)
first_is_missing text items need w missing = record {
  stands = record { row = w.row; whole = w.whole; none = ap (λ (r : List FormatItem). list_any (gives need) r) (sym w.gives_items) ∙ lacks need missing };
  first = first;
}
  where
    lacks : (need : Needed) → IsFirstMissing items need → list_any (gives need) items ≡ false
    lacks Host m = m
    lacks Date m = m.1
    lacks Request m = m.2

    earlier : (other need : Needed) → IsFirstMissing items need → Lacks text other → Precedes (Missing other) (Missing need) → ⊥
    earlier Host Host m f before = omega arith
    earlier Host Date m f before = given_not_lacking text items Host w m.0 f
    earlier Host Request m f before = given_not_lacking text items Host w m.0 f
    earlier Date Host m f before = omega arith
    earlier Date Date m f before = omega arith
    earlier Date Request m f before = given_not_lacking text items Date w m.1 f
    earlier Request Host m f before = omega arith
    earlier Request Date m f before = omega arith
    earlier Request Request m f before = omega arith

    first : (other : FormatFault) → HasFault text other → Precedes other (Missing need) → ⊥
    first (UnknownSpecifier p) f before = w.faultless (UnknownSpecifier p) f
    first (Repeated p) f before = w.faultless (Repeated p) f
    first (NoDelimiter p) f before = w.faultless (NoDelimiter p) f
    first (Missing other) f before = earlier other need missing f before
    first (BadDirective p) f before = f
    first NotJson f before = f
    first (BadShape leaf) f before = f
    first (Leaf leaf kind p) f before = f
    first NoMemory f before = f

-- of two places one is before the other, or they are one
tie : (a b : Option ℕ) (i j : ℕ) → (IsBefore a i b j → ⊥) → (IsBefore b j a i → ⊥) → (a ≡ b) × (i ≡ j)
tie (Some a) (Some b) i j p q =
    let up : b ≤ a = not_less a b (λ lt. p (inl lt)) in
    let down : a ≤ b = not_less b a (λ lt. q (inl lt)) in
    let same : a ≡ b = omega arith in
    let high : j ≤ i = not_less i j (λ lt. p (inr (same, lt))) in
    let low : i ≤ j = not_less j i (λ lt. q (inr (sym same, lt))) in
    (ap Some same, omega arith)
  where
    not_less : (x y : ℕ) → (x < y → ⊥) → y ≤ x
    not_less x y h = omega arith
tie (Some a) None i j p q = absurd (p tt)
tie None (Some b) i j p q = absurd (q tt)
tie None None i j p q = (refl, omega arith)

-- the fault of a place and a rank
fault_of : Option ℕ → ℕ → FormatFault
fault_of (Some at) rank = cond (eqb rank 0) (UnknownSpecifier at) (cond (eqb rank 1) (Repeated at) (cond (eqb rank 2) (NoDelimiter at) (BadDirective at)))
fault_of None rank = cond (eqb rank 4) (Missing Host) (cond (eqb rank 5) (Missing Date) (cond (eqb rank 6) (Missing Request) NoMemory))

-- the faults of a format text
abbrev IsOfText : FormatFault → Type 0
IsOfText NotJson = ⊥
IsOfText (BadShape leaf) = ⊥
IsOfText (Leaf leaf kind at) = ⊥
IsOfText _ = Unit {0}

fault_again : (f : FormatFault) → IsOfText f → fault_of (fault_place f) (rank_of f) ≡ f
unfolding fault_of
fault_again (UnknownSpecifier at) is = refl
fault_again (Repeated at) is = refl
fault_again (NoDelimiter at) is = refl
fault_again (BadDirective at) is = refl
fault_again (Missing Host) is = refl
fault_again (Missing Date) is = refl
fault_again (Missing Request) is = refl
fault_again NoMemory is = refl
fault_again NotJson is = absurd is
fault_again (BadShape leaf) is = absurd is
fault_again (Leaf leaf kind at) is = absurd is

-- a fault is fixed by its place and its rank
fault_same : (f g : FormatFault) → IsOfText f → IsOfText g → (fault_place f ≡ fault_place g) × (rank_of f ≡ rank_of g) → f ≡ g
fault_same f g is is' e = sym (fault_again f is) ∙ (ap (λ (p : Option ℕ). fault_of p (rank_of f)) e.0 ∙ (ap (λ (r : ℕ). fault_of (fault_place g) r) e.1 ∙ fault_again g is'))

of_text : (text : List ℕ) (f : FormatFault) → HasFault text f → IsOfText f
of_text text (UnknownSpecifier at) h = tt
of_text text (Repeated at) h = tt
of_text text (NoDelimiter at) h = tt
of_text text (BadDirective at) h = tt
of_text text (Missing need) h = tt
of_text text NotJson h = h
of_text text (BadShape leaf) h = h
of_text text (Leaf leaf kind at) h = h
of_text text NoMemory h = tt

placed_of_text : (earlier : List FormatItem) (text : List ℕ) (f : FormatFault) → HasPlaced earlier text f → IsOfText f
placed_of_text earlier text (UnknownSpecifier at) h = tt
placed_of_text earlier text (Repeated at) h = tt
placed_of_text earlier text (NoDelimiter at) h = tt
placed_of_text earlier text (BadDirective at) h = tt
placed_of_text earlier text (Missing need) h = tt
placed_of_text earlier text NotJson h = h
placed_of_text earlier text (BadShape leaf) h = h
placed_of_text earlier text (Leaf leaf kind at) h = h
placed_of_text earlier text NoMemory h = tt

pub one_answer : (text : List ℕ) (a b : Result (List FormatItem) FormatFault) → FormatOf text a → FormatOf text b → a ≡ b
one_answer text (Ok xs) (Ok ys) f g = ap Ok (f.gives_items ∙ (ap items_of (row_same f.row g.row text f.whole g.whole) ∙ sym g.gives_items))
one_answer text (Ok xs) (Err e) f g = absurd (f.faultless e g.stands)
one_answer text (Err d) (Ok ys) f g = absurd (g.faultless d f.stands)
one_answer text (Err d) (Err e) f g = ap Err (fault_same d e (of_text text d f.stands) (of_text text e g.stands) (tie (fault_place d) (fault_place e) (rank_of d) (rank_of e) (g.first d f.stands) (f.first e g.stands)))

pub one_list : (earlier : List FormatItem) (text : List ℕ) (a b : Result (List FormatItem) FormatFault) → ItemsOf earlier text a → ItemsOf earlier text b → a ≡ b
one_list earlier text (Ok xs) (Ok ys) f g = ap Ok (f.gives_items ∙ (ap items_of (row_same f.row g.row text f.whole g.whole) ∙ sym g.gives_items))
one_list earlier text (Ok xs) (Err e) f g = absurd (f.faultless e g.stands)
one_list earlier text (Err d) (Ok ys) f g = absurd (g.faultless d f.stands)
one_list earlier text (Err d) (Err e) f g = ap Err (fault_same d e (placed_of_text earlier text d f.stands) (placed_of_text earlier text e g.stands) (tie (fault_place d) (fault_place e) (rank_of d) (rank_of e) (g.first d f.stands) (f.first e g.stands)))

no-place-first : (place : Option ℕ) (at i j : ℕ) → place ≡ Some at → IsBefore None i place j → ⊥
no-place-first None at i j e before = absurd (none-some at e)
no-place-first (Some other) at i j e before = before

before-all : (text : List ℕ) (fault : FormatFault) (at : ℕ) → fault_place fault ≡ Some at → ((other : FormatFault) → HasPlaced [] text other → Precedes other fault → ⊥)
    → (other : FormatFault) → HasFault text other → Precedes other fault → ⊥
before-all text fault at e first (UnknownSpecifier p) f before = first (UnknownSpecifier p) f before
before-all text fault at e first (Repeated p) f before = first (Repeated p) f before
before-all text fault at e first (NoDelimiter p) f before = first (NoDelimiter p) f before
before-all text fault at e first (Missing need) f before = no-place-first (fault_place fault) at (rank_of (Missing need)) (rank_of fault) e before
before-all text fault at e first (BadDirective p) f before = f
before-all text fault at e first NotJson f before = f
before-all text fault at e first (BadShape leaf) f before = f
before-all text fault at e first (Leaf leaf kind p) f before = f
before-all text fault at e first NoMemory f before = f

-- a fault with a place is the first of all, since what is missing comes last
pub first_of_all : (text : List ℕ) (fault : FormatFault) → IsFirstPlaced [] text fault → IsFirstFault text fault
first_of_all text (UnknownSpecifier at) f = record { stands = f.stands; first = before-all text (UnknownSpecifier at) at refl f.first }
first_of_all text (Repeated at) f = record { stands = f.stands; first = before-all text (Repeated at) at refl f.first }
first_of_all text (NoDelimiter at) f = record { stands = f.stands; first = before-all text (NoDelimiter at) at refl f.first }
first_of_all text (Missing need) f = absurd f.stands
first_of_all text (BadDirective at) f = absurd f.stands
first_of_all text NotJson f = absurd f.stands
first_of_all text (BadShape leaf) f = absurd f.stands
first_of_all text (Leaf leaf kind at) f = absurd f.stands
first_of_all text NoMemory f = absurd f.stands

-- a row of units is cut where its items are
record Cut (row : List FormatUnit) (before : List FormatItem) (item : FormatItem) (after : List FormatItem) : Type 0 where
  front : List FormatUnit
  unit : FormatUnit
  back : List FormatUnit
  is_row : row ≡ front ++ (unit ∷ back)
  is_front : items_of front ≡ before
  is_unit : item_of unit ≡ item
  is_back : items_of back ≡ after

no_items : (item : FormatItem) (items : List FormatItem) → [] ≡ item ∷ items → ⊥
no_items item items e = let l : 0 ≡ length (item ∷ items) = ap length e in omega arith

with_head : (u : FormatUnit) (xs ys : List FormatUnit) → xs ≡ ys → u ∷ xs ≡ u ∷ ys
with_head u xs ys e = ap (λ (r : List FormatUnit). u ∷ r) e

cut : (row : List FormatUnit) (before : List FormatItem) (item : FormatItem) (after : List FormatItem) → items_of row ≡ before ++ (item ∷ after) → Cut row before item after
cut [] [] item after e = absurd (no_items item after e)
cut [] (b ∷ bs) item after e = absurd (no_items b (bs ++ (item ∷ after)) e)
cut (u ∷ us) [] item after e = record { front = []; unit = u; back = us; is_row = refl; is_front = refl; is_unit = cc; is_back = cc }
cut (u ∷ us) (b ∷ bs) item after e =
    let tail : items_of us ≡ bs ++ (item ∷ after) = cc in
    let head : item_of u ≡ b = cc in
    let rest = cut us bs item after tail in
    let is_row : us ≡ rest.front ++ (rest.unit ∷ rest.back) = rest.is_row in
    let is_front : items_of rest.front ≡ bs = rest.is_front in
    record { front = u ∷ rest.front; unit = rest.unit; back = rest.back; is_row = with_head u us (rest.front ++ (rest.unit ∷ rest.back)) is_row; is_front = cc; is_unit = rest.is_unit; is_back = rest.is_back }

row_cut : (xs ys : List FormatUnit) (text a : List ℕ) → IsRow (xs ++ ys) text a → (mid : List ℕ) × IsRow xs text mid × IsRow ys mid a
row_cut [] ys text a r = (text, refl, r)
row_cut (x ∷ xs) ys text a r = let rest = row_cut xs ys r.0 a r.2 in (rest.0, (r.0, r.1, rest.1), rest.2)

true_else : (b : Bool) → (b ≡ false → ⊥) → b ≡ true
true_else true h = refl
true_else false h = absurd (h refl)

false_else : (b : Bool) → (b ≡ true → ⊥) → b ≡ false
false_else true h = absurd (h refl)
false_else false h = refl

-- the item of a unit is one of the grammar
unit_named : (unit : FormatUnit) (after : List ℕ) → IsUnit unit after → IsNamed (item_of unit)
unit_named (Plain byte) after is = tt
unit_named Tab after is = tt
unit_named (Specifier letter) after is = skipped (letter == 126) refl
  where
    skipped : (b : Bool) → (letter == 126) ≡ b → IsNamed (if b then Skip else Field letter)
    skipped true e = tt
    skipped false e = (is, λ same. false≢true (sym e ∙ (Decides-eqb letter 126).1 same))
unit_named (ForwardedFor separators) after is = is

row_named : (row : List FormatUnit) (text after : List ℕ) → IsRow row text after → AllByRecursion IsNamed (items_of row)
row_named [] text after is = tt
row_named (unit ∷ units) text after (more, begins, later) = (unit_named unit more begins.is_unit, row_named units more after later)

pub formats_are_sound : (text : List ℕ) (items : List FormatItem) → IsFormat text items → IsSound items
formats_are_sound text items f = record {
  named = subst (λ (r : List FormatItem). AllByRecursion IsNamed r) (sym f.gives_items) (row_named f.row text [] f.whole);
  needs = λ need. true_else _ (λ none. f.faultless (Missing need) (record { row = f.row; whole = f.whole; none = ap (λ (r : List FormatItem). list_any (gives need) r) (sym f.gives_items) ∙ none }));
  delimited = delimited;
  single = single;
}
  where
    single : (before after : List FormatItem) (item : FormatItem) → items ≡ before ++ (item ∷ after) → repeats before item ≡ false
    single before after item e =
        let c = cut f.row before item after (sym f.gives_items ∙ e) in
        let parts = row_cut c.front (c.unit ∷ c.back) text [] (subst (λ (r : List FormatUnit). IsRow r text []) c.is_row f.whole) in
        false_else _ (λ twice. f.faultless (Repeated (length text - length parts.0)) (record {
          before = c.front;
          rest = parts.0;
          is_place = record { row = parts.1; place = omega (arith, row_no_longer c.front text parts.0 parts.1) };
          unit = c.unit;
          after = parts.2.0;
          begins = parts.2.1;
          repeated = ap (λ (r : List FormatItem). repeats r (item_of c.unit)) c.is_front ∙ (ap (repeats before) c.is_unit ∙ twice);
        }))

    delimited : (before after : List FormatItem) (item next : FormatItem) → items ≡ before ++ (item ∷ (next ∷ after)) → runs_into item next ≡ false
    delimited before after item next e =
        let c = cut f.row before item (next ∷ after) (sym f.gives_items ∙ e) in
        let parts = row_cut c.front (c.unit ∷ c.back) text [] (subst (λ (r : List FormatUnit). IsRow r text []) c.is_row f.whole) in
        let d = cut c.back [] next after c.is_back in
        let back : c.back ≡ d.unit ∷ d.back = d.is_row ∙ ap (λ (r : List FormatUnit). r ++ (d.unit ∷ d.back)) (none_in_front d.front d.is_front) in
        let follows : IsRow (d.unit ∷ d.back) parts.2.0 [] = subst (λ (r : List FormatUnit). IsRow r parts.2.0 []) back parts.2.2 in
        false_else _ (λ runs. f.faultless (NoDelimiter (length text - length parts.0)) (record {
          before = c.front;
          rest = parts.0;
          is_place = record { row = parts.1; place = omega (arith, row_no_longer c.front text parts.0 parts.1) };
          unit = c.unit;
          after = parts.2.0;
          begins = parts.2.1;
          next = d.unit;
          last = follows.0;
          follows = follows.1;
          undelimited = ap (λ (i : FormatItem). runs_into i (item_of d.unit)) c.is_unit ∙ (ap (runs_into item) d.is_unit ∙ runs);
        }))
      where
        none_in_front : (front : List FormatUnit) → items_of front ≡ [] → front ≡ []
        none_in_front [] e = refl
        none_in_front (u ∷ us) e = absurd (no_items (item_of u) (items_of us) (sym e))

pub only_result : (text : List ℕ) (result : Result (List FormatItem) FormatFault) → IfOk result (λ format. FormatOf text (Ok format)) → IfErr result (λ fault. (fault ≡ NoMemory) ⊎ FormatOf text (Err fault)) → (answer : Result (List FormatItem) FormatFault) → FormatOf text answer → (result ≡ Err NoMemory) ⊎ (result ≡ answer)
only_result text (Ok items) f e answer a = inr (one_answer text (Ok items) answer f a)
only_result text (Err fault) f (inl none) answer a = inl (ap Err none)
only_result text (Err fault) f (inr e) answer a = inr (one_answer text (Err fault) answer e a)

pub only_items : (earlier : List FormatItem) (text : List ℕ) (result : Result (List FormatItem) FormatFault) → IfOk result (λ items. ItemsOf earlier text (Ok items)) → IfErr result (λ fault. (fault ≡ NoMemory) ⊎ ItemsOf earlier text (Err fault)) → (answer : Result (List FormatItem) FormatFault) → ItemsOf earlier text answer → (result ≡ Err NoMemory) ⊎ (result ≡ answer)
only_items earlier text (Ok items) f e answer a = inr (one_list earlier text (Ok items) answer f a)
only_items earlier text (Err fault) f (inl none) answer a = inl (ap Err none)
only_items earlier text (Err fault) f (inr e) answer a = inr (one_list earlier text (Err fault) answer e a)
