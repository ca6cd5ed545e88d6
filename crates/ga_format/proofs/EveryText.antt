-- Every text has an answer, however much memory there is.
use Rattle.std.proofs.Common.{◌≡◌, ◌≢◌, ℕ, zero, suc, ◌+◌, ◌-◌, ◌≤◌, Bool, true, false, List, [], ◌∷◌, ◌++◌, length, take, drop, refl, sym, ◌∙◌, ap, subst, arith, inl, inr, ◌⊎◌, Option, Some, None, Result, Ok, Err, ◌==◌, codes, position}
use Rattle.std.specs.List.{list_any}
use Rattle.std.proofs.lemmas.Bool.{false≢true, eq-eqb}
use Rattle.std.proofs.lemmas.Bool.Decides.{Decides-eqb}
use Rattle.ga_base.specs.declared.formats.FormatItem.{FormatItem}
use Rattle.ga_base.specs.declared.formats.FormatItem.TheVariants.{Literal, Forwarded}
use Rattle.ga_base.specs.declared.formats.FormatFault.{FormatFault}
use Rattle.ga_base.specs.declared.formats.FormatFault.TheVariants.{UnknownSpecifier, Repeated, NoDelimiter, Missing}
use Rattle.ga_base.specs.declared.formats.Needed.{Needed}
use Rattle.ga_base.specs.declared.formats.Needed.TheVariants.{Host, Date, Request}
use Rattle.ga_format.specs.Specifiers.{has, letters}
use Rattle.ga_format.specs.Units.{Tab, Specifier, IsUnknown, item_of}
use Rattle.ga_format.specs.FieldKinds.{repeats, gives}
use Rattle.ga_format.specs.FormatOf.{AreItems, FormatOf, ItemsOf}
use Rattle.ga_format.specs.Steps.Checks.{GivesUnit, Ends, is_literal}
use Rattle.ga_format.proofs.UnitLemmas.{heads, gives_plain, gives_specifier, gives_forwarded, unknown_end, unknown_letter, unclosed, nothing_inside}
use Rattle.ga_format.proofs.RowLemmas.{begins_shorter, row_no_longer}
use Rattle.ga_format.proofs.Reading.{HasRead, opened, read_nothing, read_more}
use Rattle.ga_format.proofs.Faults.{first_is_unknown, first_is_undelimited, first_is_repeated, reads_whole}
use Rattle.ga_format.proofs.Answering.{whole_is_format, first_is_missing, first_of_all}

abbrev IsFront : List ℕ → List ℕ → Type 0
IsFront front text = ((rest : List ℕ) × (text ≡ front ++ rest)) ⊎ ((rest : List ℕ) → text ≢ front ++ rest)

-- a front is at the head of a text, or not
front_or_not : (front text : List ℕ) → IsFront front text
front_or_not [] text = inl (text, refl)
front_or_not (x ∷ front) [] = inr (λ rest e. no_head (front ++ rest) e)
  where
    no_head : (more : List ℕ) → [] ≡ x ∷ more → ⊥
    no_head more e = let l : 0 ≡ length (x ∷ more) = ap length e in omega arith
front_or_not (x ∷ front) (y ∷ text) = at_head (y == x) refl (front_or_not front text)
  where
    at_head : (same : Bool) → (y == x) ≡ same → IsFront front text → IsFront (x ∷ front) (y ∷ text)
    at_head false e tail = inr (λ rest all. false≢true (sym e ∙ eq-eqb y x (heads y x text (front ++ rest) all).0))
    at_head true e (inl tail) = inl (tail.0, joined (tail.0) ((Decides-eqb y x).0 e) tail.1)
      where
        joined : (rest : List ℕ) → y ≡ x → text ≡ front ++ rest → y ∷ text ≡ x ∷ (front ++ rest)
        joined rest p q = cc
    at_head true e (inr none) = inr (λ rest all. none rest (heads y x text (front ++ rest) all).1)

-- a text begins with a unit, or with what begins none
record Read (text : List ℕ) : Type 0 where
  item : FormatItem
  after : List ℕ
  unit : GivesUnit text item after

behind_percent : (text : List ℕ) → Read (37 ∷ text) ⊎ IsUnknown (37 ∷ text)
behind_percent [] = inr unknown_end
behind_percent (letter ∷ after) = known (has letter letters) refl
  where
    known : (is : Bool) → has letter letters ≡ is → Read (37 ∷ letter ∷ after) ⊎ IsUnknown (37 ∷ letter ∷ after)
    known true e = inl (record { item = item_of (Specifier letter); after = after; unit = gives_specifier (letter ∷ after) letter after (item_of (Specifier letter)) refl e refl })
    known false e = inr (unknown_letter (letter ∷ after) letter after refl e)

behind_brace : (text : List ℕ) → Read (126 ∷ 104 ∷ 123 ∷ text) ⊎ IsUnknown (126 ∷ 104 ∷ 123 ∷ text)
behind_brace text = closed (position (λ byte. byte == 125) text) refl
  where
    closed : (end : Option ℕ) → position (λ byte. byte == 125) text ≡ end → Read (126 ∷ 104 ∷ 123 ∷ text) ⊎ IsUnknown (126 ∷ 104 ∷ 123 ∷ text)
    closed None e = inr (unclosed text e)
    closed (Some zero) e = inr (nothing_inside text 0 e refl)
    closed (Some (suc n)) e = inl (record { item = Forwarded (take (suc n) text); after = take (length text - (suc n + 1)) (drop (suc n + 1) text); unit = gives_forwarded text (suc n) (take (suc n) text) e (λ z. omega arith) refl })

unit_or_not : (text : List ℕ) → text ≢ [] → Read text ⊎ IsUnknown text
unit_or_not [] some = absurd (some refl)
unit_or_not (byte ∷ after) some = at_percent (front_or_not (codes "%") (byte ∷ after)) (front_or_not (codes "~h{") (byte ∷ after)) (front_or_not (codes "\\t") (byte ∷ after))
  where
    at_percent : IsFront (codes "%") (byte ∷ after) → IsFront (codes "~h{") (byte ∷ after) → IsFront (codes "\\t") (byte ∷ after) → Read (byte ∷ after) ⊎ IsUnknown (byte ∷ after)
    at_percent (inl s) brace tab = subst (λ (t : List ℕ). Read t ⊎ IsUnknown t) (sym s.1) (behind_percent s.0)
    at_percent (inr percent) (inl s) tab = subst (λ (t : List ℕ). Read t ⊎ IsUnknown t) (sym s.1) (behind_brace s.0)
    at_percent (inr percent) (inr brace) (inl s) = inl (record { item = Literal 9; after = s.0; unit = record { unit = Tab; begins = record { spelled = s.1; is_unit = tt }; is_item = refl } })
    at_percent (inr percent) (inr brace) (inr tab) = inl (record { item = Literal byte; after = after; unit = gives_plain (byte ∷ after) byte after refl percent brace tab })

abbrev HasAnswer : List ℕ → Type 0
HasAnswer text = (answer : Result (List FormatItem) FormatFault) × FormatOf text answer

whole_answer : (text : List ℕ) (items : List FormatItem) → AreItems [] text items → HasAnswer text
whole_answer text items w = given (list_any (gives Host) items) (list_any (gives Date) items) (list_any (gives Request) items) refl refl refl
  where
    all : list_any (gives Host) items ≡ true → list_any (gives Date) items ≡ true → list_any (gives Request) items ≡ true → (need : Needed) → list_any (gives need) items ≡ true
    all h d r Host = h
    all h d r Date = d
    all h d r Request = r

    given : (host date request : Bool) → list_any (gives Host) items ≡ host → list_any (gives Date) items ≡ date → list_any (gives Request) items ≡ request → HasAnswer text
    given false date request h d r = (Err (Missing Host), first_is_missing text items Host w h)
    given true false request h d r = (Err (Missing Date), first_is_missing text items Date w (h, d))
    given true true false h d r = (Err (Missing Request), first_is_missing text items Request w (h, d, r))
    given true true true h d r = (Ok items, whole_is_format text items w (all h d r))

abbrev HasItems : List FormatItem → List ℕ → Type 0
HasItems earlier text = (answer : Result (List FormatItem) FormatFault) × ItemsOf earlier text answer

-- the item ends the field that waits for its literal, or the text has a fault there
ended : (earlier : List FormatItem) (text : List ℕ) (items : List FormatItem) (field : Option ℕ) (rest : List ℕ) (r : Read rest) → HasRead earlier text items field rest → Ends field r.item ⊎ HasItems earlier text
ended earlier text items None rest r h = inl tt
ended earlier text items (Some q) rest r h = literal (is_literal r.item) refl
  where
    literal : (is : Bool) → is_literal r.item ≡ is → (is_literal r.item ≡ true) ⊎ HasItems earlier text
    literal true e = inl e
    literal false e = inr (Err (NoDelimiter q), first_is_undelimited earlier text items q rest r.item r.after h r.unit e)

abbrev Answers : ℕ → Type 0
Answers count = (earlier : List FormatItem) (text : List ℕ) (items : List FormatItem) (field : Option ℕ) (rest : List ℕ) → HasRead earlier text items field rest → length rest ≤ count → HasItems earlier text

-- one unit more
one_more : (count : ℕ) → Answers count → (earlier : List FormatItem) (text : List ℕ) (items : List FormatItem) (field : Option ℕ) (rest : List ℕ) (r : Read rest) → HasRead earlier text items field rest → length rest ≤ suc count → Ends field r.item → HasItems earlier text
one_more count again earlier text items field rest r h le ends = fresh (repeats (earlier ++ items) r.item) refl
  where
    place : (length text - length rest) + length rest ≡ length text
    place = omega (arith, row_no_longer h.row text rest h.is_row)

    fresh : (twice : Bool) → repeats (earlier ++ items) r.item ≡ twice → HasItems earlier text
    fresh true e = (Err (Repeated (length text - length rest)), first_is_repeated earlier text items field rest (length text - length rest) r.item r.after h place r.unit ends e)
    fresh false e = again earlier text (items ++ (r.item ∷ [])) (opened r.item (length text - length rest)) r.after (read_more earlier text items field rest (length text - length rest) r.item r.after h place r.unit ends e) (omega (arith, begins_shorter r.unit.unit rest r.after r.unit.begins))

next : (count : ℕ) → Answers count → (earlier : List FormatItem) (text : List ℕ) (items : List FormatItem) (field : Option ℕ) (rest : List ℕ) → HasRead earlier text items field rest → length rest ≤ suc count → Read rest ⊎ IsUnknown rest → HasItems earlier text
next count again earlier text items field rest h le (inr unknown) =
    (Err (UnknownSpecifier (length text - length rest)), first_is_unknown earlier text items field rest (length text - length rest) h (omega (arith, row_no_longer h.row text rest h.is_row)) unknown)
next count again earlier text items field rest h le (inl r) = on (ended earlier text items field rest r h)
  where
    on : Ends field r.item ⊎ HasItems earlier text → HasItems earlier text
    on (inl ends) = one_more count again earlier text items field rest r h le ends
    on (inr answer) = answer

-- goes on from what is read, while bytes are left
answer_from : (count : ℕ) → Answers count
answer_from count earlier text items field [] h le = (Ok items, reads_whole earlier text items field [] h refl)
answer_from zero earlier text items field (b ∷ bs) h le = absurd (omega arith)
answer_from (suc count) earlier text items field (b ∷ bs) h le = next count (answer_from count) earlier text items field (b ∷ bs) h le (unit_or_not (b ∷ bs) some)
  where
    some : (b ∷ bs) ≢ []
    some e = let l : length (b ∷ bs) ≡ 0 = ap length e in omega arith

-- after any items every text has items or a first fault with a place
pub every_items : (earlier : List FormatItem) (text : List ℕ) → HasItems earlier text
every_items earlier text = answer_from (length text) earlier text [] None text (read_nothing earlier text) (omega arith)

pub every_text : (text : List ℕ) → HasAnswer text
every_text text = answered (every_items [] text)
  where
    answered : HasItems [] text → HasAnswer text
    answered (Ok items, are) = whole_answer text items are
    answered (Err fault, first) = (Err fault, first_of_all text fault first)
