-- How far a text is read, and which faults can still come.
use Rattle.std.proofs.Common.{◌≡◌, ℕ, ◌+◌, ◌≤◌, Bool, true, false, List, [], ◌∷◌, ◌++◌, length, refl, sym, ◌∙◌, ap, subst, arith, append-nil, inl, inr, ◌⊎◌, Option, Some, None}
use Rattle.std.specs.Bool.{then_some}
use Rattle.std.proofs.lemmas.Bool.{false≢true}
use Rattle.std.proofs.lemmas.List.{map-append}
use Rattle.ga_base.specs.declared.formats.FormatItem.{FormatItem}
use Rattle.ga_base.specs.declared.formats.FormatItem.TheVariants.{Literal, Skip, Field, Forwarded}
use Rattle.ga_format.specs.Units.{FormatUnit, Begins, IsRow, item_of, items_of}
use Rattle.ga_format.specs.FieldKinds.{runs_into, repeats, is_field}
use Rattle.ga_format.specs.FormatOf.{IsPlace, HasUnknown, HasRepeated, HasUndelimited}
use Rattle.ga_format.specs.Steps.Checks.{GivesUnit, Ends, is_literal}
use Rattle.ga_format.proofs.RowLemmas.{begins_same, row_through, row_snoc, row_no_longer}

-- A field at this place has to end where the rest begins, and no earlier field lacks its literal.
pub record AfterField (text : List ℕ) (field : ℕ) (rest : List ℕ) : Type 0 where
  pub before : List FormatUnit
  pub from : List ℕ
  pub is_place : IsPlace text field before from
  pub unit : FormatUnit
  pub begins : Begins unit from rest
  pub is_a_field : is_field (item_of unit) ≡ true
  pub least : (at : ℕ) → HasUndelimited text at → field ≤ at

-- a field without its literal can't stand before the field that is to be ended, or else before the rest
abbrev pub Undelimited : List ℕ → Option ℕ → List ℕ → Type 0
Undelimited text None rest = (at : ℕ) → HasUndelimited text at → length text ≤ at + length rest
Undelimited text (Some field) rest = AfterField text field rest

-- The text is read up to this rest: it gave these items, and no fault stands before the rest.
pub record HasRead (earlier : List FormatItem) (text : List ℕ) (items : List FormatItem) (field : Option ℕ) (rest : List ℕ) : Type 0 where
  pub row : List FormatUnit
  pub is_row : IsRow row text rest
  pub gives_items : items ≡ items_of row
  pub no_unknown : (at : ℕ) → HasUnknown text at → length text ≤ at + length rest
  pub no_repeated : (at : ℕ) → HasRepeated earlier text at → length text ≤ at + length rest
  pub undelimited : Undelimited text field rest

pub read_nothing : (earlier : List FormatItem) (text : List ℕ) → HasRead earlier text [] None text
read_nothing earlier text = record {
  row = [];
  is_row = refl;
  gives_items = refl;
  no_unknown = λ at h. omega arith;
  no_repeated = λ at h. omega arith;
  undelimited = λ at h. omega arith;
}

-- a place that isn't before a unit is the unit's own, or isn't before the next one's
pub place_next : (text : List ℕ) (row : List FormatUnit) (rest : List ℕ) (unit : FormatUnit) (after : List ℕ) → IsRow row text rest → Begins unit rest after → (at : ℕ) (before : List FormatUnit) (from : List ℕ) → IsPlace text at before from → length text ≤ at + length rest → ((before ≡ row) × (from ≡ rest)) ⊎ (length text ≤ at + length after)
place_next text row rest unit after r b at before from place le =
    let through = row_through row before text rest from r place.row (omega (arith, place.place)) in
    cases through.0 through.1 through.2
  where
    cases : (more : List FormatUnit) → before ≡ row ++ more → IsRow more rest from → ((before ≡ row) × (from ≡ rest)) ⊎ (length text ≤ at + length after)
    cases [] e m = inl (e ∙ append-nil row, sym m)
    cases (u ∷ us) e m =
        let same = begins_same u unit rest m.0 after m.1 b in
        let le : length from ≤ length after = subst (λ (t : List ℕ). length from ≤ length t) same.1 (row_no_longer us m.0 from m.2) in
        inr (omega (arith, place.place))

pub still_no_unknown : (earlier : List FormatItem) (text : List ℕ) (items : List FormatItem) (field : Option ℕ) (rest : List ℕ) (unit : FormatUnit) (after : List ℕ) → HasRead earlier text items field rest → Begins unit rest after → (at : ℕ) → HasUnknown text at → length text ≤ at + length after
still_no_unknown earlier text items field rest unit after h b at f =
    elim (place_next text h.row rest unit after h.is_row b at f.before f.rest f.is_place (h.no_unknown at f)) [
      | inl same ↦ absurd (f.unknown.none unit after (subst (λ (t : List ℕ). Begins unit t after) (sym same.1) b))
      | inr le ↦ le
    ]

pub still_no_repeated : (earlier : List FormatItem) (text : List ℕ) (items : List FormatItem) (field : Option ℕ) (rest : List ℕ) (unit : FormatUnit) (after : List ℕ) → HasRead earlier text items field rest → Begins unit rest after → repeats (earlier ++ items) (item_of unit) ≡ false → (at : ℕ) → HasRepeated earlier text at → length text ≤ at + length after
still_no_repeated earlier text items field rest unit after h b fresh at f =
    elim (place_next text h.row rest unit after h.is_row b at f.before f.rest f.is_place (h.no_repeated at f)) [
      | inl same ↦
          let one = (begins_same f.unit unit f.rest f.after after f.begins (subst (λ (t : List ℕ). Begins unit t after) (sym same.1) b)).0 in
          let shown : repeats (earlier ++ items) (item_of unit) ≡ true = ap (λ (u : FormatUnit). repeats (earlier ++ items) (item_of u)) (sym one) ∙ (ap (λ (r : List FormatItem). repeats (earlier ++ r) (item_of f.unit)) (h.gives_items ∙ ap items_of (sym same.0)) ∙ f.repeated) in
          absurd (false≢true (sym fresh ∙ shown))
      | inr le ↦ le
    ]

literal_ends : (item next : FormatItem) → is_literal next ≡ true → runs_into item next ≡ false
literal_ends item (Literal byte) h = refl
literal_ends item Skip h = absurd (false≢true h)
literal_ends item (Field letter) h = absurd (false≢true h)
literal_ends item (Forwarded separators) h = absurd (false≢true h)

-- where a field was to be ended, a literal ends it
pub now_delimited : (text : List ℕ) (field : Option ℕ) (rest : List ℕ) (unit : FormatUnit) (after : List ℕ) → Undelimited text field rest → Begins unit rest after → Ends field (item_of unit) → (at : ℕ) → HasUndelimited text at → length text ≤ at + length rest
now_delimited text None rest unit after u b ends at f = u at f
now_delimited text (Some field) rest unit after u b ends at f =
    elim (place_next text u.before u.from u.unit rest u.is_place.row u.begins at f.before f.rest f.is_place (omega (arith, u.least at f, u.is_place.place))) [
      | inl same ↦
          let one = (begins_same f.unit u.unit f.rest f.after rest f.begins (subst (λ (t : List ℕ). Begins u.unit t rest) (sym same.1) u.begins)).1 in
          let next = (begins_same f.next unit rest f.last after (subst (λ (t : List ℕ). Begins f.next t f.last) one f.follows) b).0 in
          let ended : runs_into (item_of f.unit) (item_of f.next) ≡ false = literal_ends (item_of f.unit) (item_of f.next) (ap (λ (v : FormatUnit). is_literal (item_of v)) next ∙ ends) in
          absurd (false≢true (sym ended ∙ f.undelimited))
      | inr le ↦ le
    ]

-- the field that the item opens, if it is one
abbrev pub opened : FormatItem → ℕ → Option ℕ
opened item at = then_some (is_field item) at

no_field_opens : (item next : FormatItem) → is_field item ≡ false → runs_into item next ≡ false
no_field_opens item (Literal byte) h = refl
no_field_opens item Skip h = h
no_field_opens item (Field letter) h = h
no_field_opens item (Forwarded separators) h = h

opens : (text : List ℕ) (row : List FormatUnit) (rest : List ℕ) (unit : FormatUnit) (after : List ℕ) (at : ℕ) (is : Bool) → IsRow row text rest → Begins unit rest after → at + length rest ≡ length text → is_field (item_of unit) ≡ is → ((p : ℕ) → HasUndelimited text p → length text ≤ p + length rest) → Undelimited text (then_some is at) after
opens text row rest unit after at true r b place is none = record {
  before = row;
  from = rest;
  is_place = record { row = r; place = place };
  unit = unit;
  begins = b;
  is_a_field = is;
  least = λ p f. omega (arith, none p f);
}
opens text row rest unit after at false r b place is none = λ p f.
    elim (place_next text row rest unit after r b p f.before f.rest f.is_place (none p f)) [
      | inl same ↦
          let one = (begins_same f.unit unit f.rest f.after after f.begins (subst (λ (t : List ℕ). Begins unit t after) (sym same.1) b)).0 in
          let closed : runs_into (item_of f.unit) (item_of f.next) ≡ false = no_field_opens (item_of f.unit) (item_of f.next) (ap (λ (u : FormatUnit). is_field (item_of u)) one ∙ is) in
          absurd (false≢true (sym closed ∙ f.undelimited))
      | inr le ↦ le
    ]

-- one more unit is read
pub read_more : (earlier : List FormatItem) (text : List ℕ) (items : List FormatItem) (field : Option ℕ) (rest : List ℕ) (at : ℕ) (item : FormatItem) (after : List ℕ) → HasRead earlier text items field rest → at + length rest ≡ length text → GivesUnit rest item after → Ends field item → repeats (earlier ++ items) item ≡ false → HasRead earlier text (items ++ (item ∷ [])) (opened item at) after
read_more earlier text items field rest at item after h place g ends fresh =
    let ends' : Ends field (item_of g.unit) = subst (λ (i : FormatItem). Ends field i) g.is_item ends in
    let fresh' : repeats (earlier ++ items) (item_of g.unit) ≡ false = ap (λ (i : FormatItem). repeats (earlier ++ items) i) (sym g.is_item) ∙ fresh in
    let delimited = now_delimited text field rest g.unit after h.undelimited g.begins ends' in
    let opening : Undelimited text (opened (item_of g.unit) at) after = opens text h.row rest g.unit after at (is_field (item_of g.unit)) h.is_row g.begins place refl delimited in
    record {
      row = h.row ++ (g.unit ∷ []);
      is_row = row_snoc h.row text rest g.unit after h.is_row g.begins;
      gives_items = ap (λ (r : List FormatItem). r ++ (item ∷ [])) h.gives_items ∙ (ap (λ (i : FormatItem). items_of h.row ++ (i ∷ [])) g.is_item ∙ sym (map-append item_of h.row (g.unit ∷ [])));
      no_unknown = still_no_unknown earlier text items field rest g.unit after h g.begins;
      no_repeated = still_no_repeated earlier text items field rest g.unit after h g.begins fresh';
      undelimited = subst (λ (i : FormatItem). Undelimited text (opened i at) after) (sym g.is_item) opening;
    }
