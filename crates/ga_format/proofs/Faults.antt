-- Which fault is the first, at the place where reading stops.
use Rattle.std.proofs.Common.{◌≡◌, ℕ, ◌+◌, ◌<◌, ◌≤◌, true, false, List, [], ◌∷◌, ◌++◌, length, refl, sym, ◌∙◌, ap, subst, arith, inl, inr, ◌⊎◌, Option, Some, None, ◌==◌}
use Rattle.std.proofs.lemmas.Bool.Decides.{Decides-eqb}
use Rattle.std.proofs.lemmas.Bool.{false≢true}
use Rattle.ga_base.specs.declared.formats.FormatItem.{FormatItem}
use Rattle.ga_base.specs.declared.formats.FormatItem.TheVariants.{Literal, Skip, Field, Forwarded}
use Rattle.ga_base.specs.declared.formats.FormatFault.{FormatFault}
use Rattle.ga_base.specs.declared.formats.FormatFault.TheVariants.{UnknownSpecifier, Repeated, NoDelimiter, Missing, BadDirective, NotJson, BadShape, Leaf, NoMemory}
use Rattle.ga_format.specs.Units.{FormatUnit, Begins, IsUnknown, IsRow, StartsWith, item_of}
use Rattle.ga_format.specs.FieldKinds.{runs_into, repeats, is_field}
use Rattle.ga_format.specs.FormatOf.{AreItems, HasUndelimited, HasPlaced, IsFirstPlaced, IsBefore, Precedes}
use Rattle.ga_format.specs.Steps.Checks.{GivesUnit, Ends, IsRefused, is_literal}
use Rattle.ga_format.proofs.RowLemmas.{begins_same, begins_shorter}
use Rattle.ga_format.proofs.Reading.{HasRead, AfterField, Undelimited, place_next, still_no_unknown, now_delimited}

-- where no unit begins, no field waits for a literal
not_waiting : (text : List ℕ) (field : Option ℕ) (rest : List ℕ) → Undelimited text field rest → ((unit : FormatUnit) (after : List ℕ) → Begins unit rest after → ⊥) → (p : ℕ) → HasUndelimited text p → length text ≤ p + length rest
not_waiting text None rest u none p f = u p f
not_waiting text (Some q) rest u none p f =
    elim (place_next text u.before u.from u.unit rest u.is_place.row u.begins p f.before f.rest f.is_place (omega (arith, u.least p f, u.is_place.place))) [
      | inl same ↦
          let one = (begins_same f.unit u.unit f.rest f.after rest f.begins (subst (λ (t : List ℕ). Begins u.unit t rest) (sym same.1) u.begins)).1 in
          absurd (none f.next f.last (subst (λ (t : List ℕ). Begins f.next t f.last) one f.follows))
      | inr le ↦ le
    ]

not_before : (p q i j : ℕ) → q ≤ p → j ≤ i → IsBefore (Some p) i (Some q) j → ⊥
not_before p q i j le rank (inl lt) = omega arith
not_before p q i j le rank (inr both) = omega (arith, both.1)

behind : (p q i j : ℕ) → q < p → IsBefore (Some p) i (Some q) j → ⊥
behind p q i j lt (inl before) = omega arith
behind p q i j lt (inr both) = omega (arith, both.0)

-- the rest begins no unit
pub first_is_unknown : (earlier : List FormatItem) (text : List ℕ) (items : List FormatItem) (field : Option ℕ) (rest : List ℕ) (at : ℕ) → HasRead earlier text items field rest → at + length rest ≡ length text → IsUnknown rest → IsFirstPlaced earlier text (UnknownSpecifier at)
first_is_unknown earlier text items field rest at h place unknown = record {
  stands = record { before = h.row; rest = rest; is_place = record { row = h.is_row; place = place }; unknown = unknown };
  first = first;
}
  where
    first : (other : FormatFault) → HasPlaced earlier text other → Precedes other (UnknownSpecifier at) → ⊥
    first (UnknownSpecifier p) f before = not_before p at 0 0 (omega (arith, h.no_unknown p f)) (omega arith) before
    first (Repeated p) f before = not_before p at 1 0 (omega (arith, h.no_repeated p f)) (omega arith) before
    first (NoDelimiter p) f before = not_before p at 2 0 (omega (arith, not_waiting text field rest h.undelimited unknown.none p f)) (omega arith) before
    first (Missing need) f before = before
    first (BadDirective p) f before = f
    first NotJson f before = f
    first (BadShape leaf) f before = f
    first (Leaf leaf kind p) f before = f
    first NoMemory f before = f

pub unit_fault : (earlier : List FormatItem) (text : List ℕ) (items : List FormatItem) (field : Option ℕ) (rest : List ℕ) (at : ℕ) (fault : FormatFault) → HasRead earlier text items field rest → at + length rest ≡ length text → (fault ≡ NoMemory) ⊎ ((fault ≡ UnknownSpecifier at) × IsUnknown rest) → (fault ≡ NoMemory) ⊎ IsFirstPlaced earlier text fault
unit_fault earlier text items field rest at fault h place (inl none) = inl none
unit_fault earlier text items field rest at fault h place (inr unknown) =
    inr (subst (λ (f : FormatFault). IsFirstPlaced earlier text f) (sym unknown.0) (first_is_unknown earlier text items field rest at h place unknown.1))

waits_in_vain : (item next : FormatItem) → is_field item ≡ true → is_literal next ≡ false → runs_into item next ≡ true
waits_in_vain item (Literal byte) h lacks = absurd (false≢true (sym lacks))
waits_in_vain item Skip h lacks = h
waits_in_vain item (Field letter) h lacks = h
waits_in_vain item (Forwarded separators) h lacks = h

-- a field is followed by no literal
pub first_is_undelimited : (earlier : List FormatItem) (text : List ℕ) (items : List FormatItem) (field : ℕ) (rest : List ℕ) (item : FormatItem) (after : List ℕ) → HasRead earlier text items (Some field) rest → GivesUnit rest item after → is_literal item ≡ false → IsFirstPlaced earlier text (NoDelimiter field)
first_is_undelimited earlier text items field rest item after h g lacks = record {
  stands = record {
    before = u.before;
    rest = u.from;
    is_place = u.is_place;
    unit = u.unit;
    after = rest;
    begins = u.begins;
    next = g.unit;
    last = after;
    follows = g.begins;
    undelimited = waits_in_vain (item_of u.unit) (item_of g.unit) u.is_a_field (ap is_literal (sym g.is_item) ∙ lacks);
  };
  first = first;
}
  where
    u : AfterField text field rest
    u = h.undelimited

    shorter : length rest < length u.from
    shorter = begins_shorter u.unit u.from rest u.begins

    first : (other : FormatFault) → HasPlaced earlier text other → Precedes other (NoDelimiter field) → ⊥
    first (UnknownSpecifier p) f before = behind p field 0 2 (omega (arith, shorter, u.is_place.place, h.no_unknown p f)) before
    first (Repeated p) f before = behind p field 1 2 (omega (arith, shorter, u.is_place.place, h.no_repeated p f)) before
    first (NoDelimiter p) f before = not_before p field 2 2 (u.least p f) (omega arith) before
    first (Missing need) f before = before
    first (BadDirective p) f before = f
    first NotJson f before = f
    first (BadShape leaf) f before = f
    first (Leaf leaf kind p) f before = f
    first NoMemory f before = f

-- the unit may not follow the earlier ones
pub first_is_repeated : (earlier : List FormatItem) (text : List ℕ) (items : List FormatItem) (field : Option ℕ) (rest : List ℕ) (at : ℕ) (item : FormatItem) (after : List ℕ) → HasRead earlier text items field rest → at + length rest ≡ length text → GivesUnit rest item after → Ends field item → repeats (earlier ++ items) item ≡ true → IsFirstPlaced earlier text (Repeated at)
first_is_repeated earlier text items field rest at item after h place g ends twice = record {
  stands = record {
    before = h.row;
    rest = rest;
    is_place = record { row = h.is_row; place = place };
    unit = g.unit;
    after = after;
    begins = g.begins;
    repeated = ap (λ (r : List FormatItem). repeats (earlier ++ r) (item_of g.unit)) (sym h.gives_items) ∙ (ap (λ (i : FormatItem). repeats (earlier ++ items) i) (sym g.is_item) ∙ twice);
  };
  first = first;
}
  where
    ends' : Ends field (item_of g.unit)
    ends' = subst (λ (i : FormatItem). Ends field i) g.is_item ends

    first : (other : FormatFault) → HasPlaced earlier text other → Precedes other (Repeated at) → ⊥
    first (UnknownSpecifier p) f before = behind p at 0 1 (omega (arith, still_no_unknown earlier text items field rest g.unit after h g.begins p f, begins_shorter g.unit rest after g.begins)) before
    first (Repeated p) f before = not_before p at 1 1 (omega (arith, h.no_repeated p f)) (omega arith) before
    first (NoDelimiter p) f before = not_before p at 2 1 (omega (arith, now_delimited text field rest g.unit after h.undelimited g.begins ends' p f)) (omega arith) before
    first (Missing need) f before = before
    first (BadDirective p) f before = f
    first NotJson f before = f
    first (BadShape leaf) f before = f
    first (Leaf leaf kind p) f before = f
    first NoMemory f before = f

pub first_is_refusal : (earlier : List FormatItem) (text : List ℕ) (items : List FormatItem) (field : Option ℕ) (rest : List ℕ) (at : ℕ) (item : FormatItem) (after : List ℕ) (fault : FormatFault) → HasRead earlier text items field rest → at + length rest ≡ length text → GivesUnit rest item after → IsRefused (earlier ++ items) field item at fault → IsFirstPlaced earlier text fault
first_is_refusal earlier text items field rest at item after (NoDelimiter p) h place g refused =
    first_is_undelimited earlier text items p rest item after (subst (λ (o : Option ℕ). HasRead earlier text items o rest) refused.0 h) g refused.1
first_is_refusal earlier text items field rest at item after (Repeated p) h place g refused =
    subst (λ (q : ℕ). IsFirstPlaced earlier text (Repeated q)) (sym refused.0) (first_is_repeated earlier text items field rest at item after h place g refused.1 refused.2)
first_is_refusal earlier text items field rest at item after (UnknownSpecifier p) h place g refused = absurd refused
first_is_refusal earlier text items field rest at item after (Missing need) h place g refused = absurd refused
first_is_refusal earlier text items field rest at item after (BadDirective p) h place g refused = absurd refused
first_is_refusal earlier text items field rest at item after NotJson h place g refused = absurd refused
first_is_refusal earlier text items field rest at item after (BadShape leaf) h place g refused = absurd refused
first_is_refusal earlier text items field rest at item after (Leaf leaf kind p) h place g refused = absurd refused
first_is_refusal earlier text items field rest at item after NoMemory h place g refused = absurd refused

pub no_bytes : (bytes : List ℕ) → (length bytes == 0) ≡ true → bytes ≡ []
no_bytes [] e = refl
no_bytes (b ∷ bs) e = absurd (no_length (length bs) ((Decides-eqb (length (b ∷ bs)) 0).0 e))
  where
    no_length : (n : ℕ) → length (b ∷ bs) ≡ 0 → ⊥
    no_length n e = omega arith

-- at the text's end no fault with a place is left
pub reads_whole : (earlier : List FormatItem) (text : List ℕ) (items : List FormatItem) (field : Option ℕ) (rest : List ℕ) → HasRead earlier text items field rest → rest ≡ [] → AreItems earlier text items
reads_whole earlier text items field rest h end = record {
  row = h.row;
  whole = subst (λ (r : List ℕ). IsRow h.row text r) end h.is_row;
  gives_items = h.gives_items;
  faultless = faultless;
}
  where
    at_end : (at : ℕ) (from : List ℕ) → length text ≤ at + length rest → at + length from ≡ length text → length from ≡ 0
    at_end at from le place = let none : length rest ≡ 0 = ap length end in omega arith

    unit_needs_bytes : (unit : FormatUnit) (from after : List ℕ) → Begins unit from after → length from ≡ 0 → ⊥
    unit_needs_bytes unit from after b none = omega (arith, begins_shorter unit from after b)

    unknown_needs_bytes : (from : List ℕ) → IsUnknown from → length from ≡ 0 → ⊥
    unknown_needs_bytes from unknown none = begun_needs_bytes from unknown.begun none
      where
        begun_needs_bytes : (from : List ℕ) → StartsWith from (37 ∷ []) ⊎ StartsWith from (126 ∷ 104 ∷ 123 ∷ []) → length from ≡ 0 → ⊥
        begun_needs_bytes from (inl s) none = let e : length from ≡ length (37 ∷ s.0) = ap length s.1 in omega arith
        begun_needs_bytes from (inr s) none = let e : length from ≡ length (126 ∷ 104 ∷ 123 ∷ s.0) = ap length s.1 in omega arith

    faultless : (fault : FormatFault) → HasPlaced earlier text fault → ⊥
    faultless (UnknownSpecifier at) f = unknown_needs_bytes f.rest f.unknown (at_end at f.rest (h.no_unknown at f) f.is_place.place)
    faultless (Repeated at) f = unit_needs_bytes f.unit f.rest f.after f.begins (at_end at f.rest (h.no_repeated at f) f.is_place.place)
    faultless (NoDelimiter at) f = unit_needs_bytes f.unit f.rest f.after f.begins (at_end at f.rest (not_waiting text field rest h.undelimited (λ unit after b. unit_needs_bytes unit rest after b (ap length end)) at f) f.is_place.place)
    faultless (Missing need) f = f
    faultless (BadDirective p) f = f
    faultless NotJson f = f
    faultless (BadShape leaf) f = f
    faultless (Leaf leaf kind p) f = f
    faultless NoMemory f = f
