-- Rows of tokens: how they grow, and that a text has one.
use Rattle.std.proofs.Common.{◌≡◌, ◌≢◌, ◌+◌, ◌<◌, ◌≤◌, ℕ, Bool, true, false, List, [], ◌∷◌, ◌++◌, Option, Some, length, take, drop, get_or, ap, sym, ◌∙◌, refl, subst, arith, cond, inl, inr, append_assoc, lit≤, codes, None}
use Rattle.std.specs.Prelude.{count_by, IsSome, MatchOption, unwrap_or}
use Rattle.std.specs.List.{list_all, list_any, AllByRecursion}
use Rattle.std.specs.Option.{option_map, option_or}
use Rattle.std.specs.Str.{bytes_eq}
use Rattle.std.proofs.lemmas.List.{flat_map_more, take_more, take-append-drop, length-take-le}
use Rattle.ga_dates.specs.declared.item.Item.{Item}
use Rattle.ga_dates.specs.declared.item.Item.TheVariants.{Literal}
use Rattle.ga_dates.specs.declared.item.Part.TheVariants.{Day as PartDay, Month as PartMonth, Year as PartYear, Hour as PartHour, Minute as PartMinute, Second as PartSecond}
use Rattle.ga_dates.specs.declared.kind.Kind.{Kind}
use Rattle.ga_dates.specs.declared.kind.Kind.TheVariants.{Date, Time}
use Rattle.ga_dates.specs.Items.{gives, needed_parts, AreOnce}
use Rattle.ga_dates.specs.Grammar.{Token, Byte, Directive, text_of, items_of, IsNamed, IsRow, IsFormat, date_letters, date_forms, time_letters, time_forms, at_letter, form_items, directive_of, GivesAgain, IsFaultAt, IsFormatFault}
use Rattle.ga_dates.specs.Steps.Compile.{AddsToken, IsTokenFault}
use Rattle.ga_base.specs.declared.formats.FormatFault.{FormatFault}
use Rattle.ga_base.specs.declared.formats.FormatFault.TheVariants.{UnknownSpecifier, Repeated, NoDelimiter, Missing, BadDirective, NotJson, BadShape, Leaf, NoMemory}
use Rattle.ga_dates.proofs.PartLemmas.{count-cons, once_append, complete, incomplete}

named_more : (kind : Kind) (tokens : List Token) (token : Token) → AllByRecursion (IsNamed kind) tokens → IsNamed kind token → AllByRecursion (IsNamed kind) (tokens ++ token ∷ [])
named_more kind [] token named h = (h, tt)
named_more kind (t ∷ tokens) token (first, named) h = (first, named_more kind tokens token named h)

-- a row grows by a token that gives nothing again
pub row_snoc : (kind : Kind) (tokens : List Token) (front : List ℕ) (before : List Item) (token : Token) → IsRow kind tokens front before → IsNamed kind token
    → AreOnce (before ++ items_of kind token) → IsRow kind (tokens ++ token ∷ []) (front ++ text_of token) (before ++ items_of kind token)
row_snoc kind tokens front before token row named once = record {
  spelt = ap (λ (s : List ℕ). s ++ text_of token) row.spelt ∙ flat_map_more text_of [] tokens token;
  given = ap (λ (s : List Item). s ++ items_of kind token) row.given ∙ flat_map_more (items_of kind) [] tokens token;
  named = named_more kind tokens token row.named named;
  once = once;
}

pub row_more : (kind : Kind) (tokens : List Token) (text : List ℕ) (at next : ℕ) (before after : List Item)
    → IsRow kind tokens (take at text) before → (a : AddsToken kind text at next before after) → IsRow kind (tokens ++ a.token ∷ []) (take next text) after
row_more kind tokens text at next before after row a =
    subst (λ (s : List ℕ). IsRow kind (tokens ++ a.token ∷ []) s after) (sym a.spelt)
    (subst (λ (xs : List Item). IsRow kind (tokens ++ a.token ∷ []) (take at text ++ text_of a.token) xs) (sym a.added)
    (row_snoc kind tokens (take at text) before a.token row a.named (subst (λ (xs : List Item). AreOnce xs) a.added a.once)))

-- the empty row
pub row_none : (kind : Kind) → IsRow kind [] [] []
row_none kind = record { spelt = refl; given = refl; named = tt; once = λ q. omega arith }

-- no directive gives a part twice
abbrev pub OnceIfNamed : Option (List Item) → Type 0
OnceIfNamed o = MatchOption o (Unit {0}) AreOnce

at_most_one : (b : Bool) → cond b 1 0 ≤ 1
at_most_one true = lit≤ tt
at_most_one false = lit≤ tt

pub once_one : (item : Item) → AreOnce (item ∷ [])
once_one item q = omega (arith, count-cons q item [], at_most_one (gives q item))

-- the forms of `%F`, `%D`, `%T` and `%R`
once_long_date : AreOnce (form_items date_letters (codes "Y-m-d"))
once_long_date PartDay = lit≤ tt
once_long_date PartMonth = lit≤ tt
once_long_date PartYear = lit≤ tt
once_long_date PartHour = lit≤ tt
once_long_date PartMinute = lit≤ tt
once_long_date PartSecond = lit≤ tt

once_short_date : AreOnce (form_items date_letters (codes "m/d/y"))
once_short_date PartDay = lit≤ tt
once_short_date PartMonth = lit≤ tt
once_short_date PartYear = lit≤ tt
once_short_date PartHour = lit≤ tt
once_short_date PartMinute = lit≤ tt
once_short_date PartSecond = lit≤ tt

once_long_time : AreOnce (form_items time_letters (codes "H:M:S"))
once_long_time PartDay = lit≤ tt
once_long_time PartMonth = lit≤ tt
once_long_time PartYear = lit≤ tt
once_long_time PartHour = lit≤ tt
once_long_time PartMinute = lit≤ tt
once_long_time PartSecond = lit≤ tt

once_short_time : AreOnce (form_items time_letters (codes "H:M"))
once_short_time PartDay = lit≤ tt
once_short_time PartMonth = lit≤ tt
once_short_time PartYear = lit≤ tt
once_short_time PartHour = lit≤ tt
once_short_time PartMinute = lit≤ tt
once_short_time PartSecond = lit≤ tt

once_letter : (item : Option Item) → OnceIfNamed (option_map (λ i. i ∷ []) item)
once_letter None = tt
once_letter (Some item) = once_one item

once_form : (letters : List (List ℕ × Item)) (b : Bool) (row : List ℕ) (others : Option (List ℕ)) → AreOnce (form_items letters row)
    → OnceIfNamed (option_map (form_items letters) others) → OnceIfNamed (option_map (form_items letters) (cond b (Some row) others))
once_form letters true row others h k = h
once_form letters false row others h k = k

once_forms : (letters : List (List ℕ × Item)) (rows : List (List ℕ × List ℕ)) (letter : ℕ) → AllByRecursion (λ row. AreOnce (form_items letters row.1)) rows
    → OnceIfNamed (option_map (form_items letters) (at_letter letter rows))
once_forms letters [] letter h = tt
once_forms letters (row ∷ rows) letter (first, later) =
    once_form letters (bytes_eq row.0 (letter ∷ [])) row.1 (at_letter letter rows) first (once_forms letters rows letter later)

once_either : (one other : Option (List Item)) → OnceIfNamed one → OnceIfNamed other → OnceIfNamed (option_or one other)
once_either None other h k = k
once_either (Some items) other h k = h

pub directive_once : (kind : Kind) (letter : ℕ) → OnceIfNamed (directive_of kind letter)
directive_once Date letter =
    once_either _ _ (once_letter (at_letter letter date_letters)) (once_forms date_letters date_forms letter (once_long_date, (once_short_date, tt)))
directive_once Time letter =
    once_either _ _ (once_letter (at_letter letter time_letters)) (once_forms time_letters time_forms letter (once_long_time, (once_short_time, tt)))

pub no_part_again : (before : List Item) (byte : ℕ) → ¬ GivesAgain before (Literal byte ∷ [])
no_part_again before byte (q, some, other) = let none : count_by (gives q) (Literal byte ∷ []) ≡ 0 = refl in omega (arith, other, none)

-- a byte other than % is a token
pub adds_byte : (kind : Kind) (text : List ℕ) (at : ℕ) (before after : List Item) → at < length text → AreOnce before → get_or text at 0 ≢ 37
    → after ≡ before ++ Literal (get_or text at 0) ∷ [] → AddsToken kind text at (at + 1) before after
adds_byte kind text at before after lt once other e = record {
  token = Byte (get_or text at 0);
  named = other;
  grows = omega arith;
  inside = omega arith;
  spelt = take_more text at 0 lt;
  added = e;
  once = subst (λ (items : List Item). AreOnce items) (sym e)
      (once_append before (Literal (get_or text at 0) ∷ []) once (once_one (Literal (get_or text at 0))) (no_part_again before (get_or text at 0)));
}

take_two : (text : List ℕ) (at : ℕ) → at + 1 < length text → get_or text at 0 ≡ 37 → take (at + 2) text ≡ take at text ++ 37 ∷ get_or text (at + 1) 0 ∷ []
take_two text at lt percent =
    let two : at + 2 ≡ at + 1 + 1 = omega arith in
    let second = take_more text (at + 1) 0 lt in
    let first = take_more text at 0 (omega arith) in
    ap (λ (n : ℕ). take n text) two ∙ (second ∙ (ap (λ (s : List ℕ). s ++ get_or text (at + 1) 0 ∷ []) first
    ∙ (append_assoc (take at text) (get_or text at 0 ∷ []) (get_or text (at + 1) 0 ∷ [])
    ∙ ap (λ (b : ℕ). take at text ++ b ∷ get_or text (at + 1) 0 ∷ []) percent)))

pub named_some : {A : Type 0} (o : Option A) (x : A) → o ≡ Some x → IsSome o
named_some {A = A} o x e = subst (λ (p : Option A). IsSome p) (sym e) refl

-- and so is a % with a letter that is named and gives nothing again
pub adds_directive : (kind : Kind) (text : List ℕ) (at : ℕ) (before after added : List Item) → at + 1 < length text → AreOnce before → get_or text at 0 ≡ 37
    → directive_of kind (get_or text (at + 1) 0) ≡ Some added → ¬ GivesAgain before added → after ≡ before ++ added → AddsToken kind text at (at + 2) before after
adds_directive kind text at before after added lt once percent named new e =
    let letter = get_or text (at + 1) 0 in
    let items : unwrap_or (directive_of kind letter) [] ≡ added = ap (λ (o : Option (List Item)). unwrap_or o []) named in
    let once' : AreOnce added = subst (λ (o : Option (List Item)). OnceIfNamed o) named (directive_once kind letter) in
    record {
      token = Directive letter;
      named = named_some (directive_of kind letter) added named;
      grows = omega arith;
      inside = omega arith;
      spelt = take_two text at lt percent;
      added = e ∙ ap (λ (xs : List Item). before ++ xs) (sym items);
      once = subst (λ (xs : List Item). AreOnce xs) (sym e) (once_append before added once once' new);
    }

-- a bad directive after a row is the format's fault
pub fault_behind : (kind : Kind) (text : List ℕ) (at : ℕ) (before : List Item) (tokens : List Token) → at ≤ length text → IsRow kind tokens (take at text) before
    → (e : FormatFault) → IsTokenFault kind text at before e → IsFormatFault kind text e
fault_behind kind text at before tokens inside row (BadDirective place) h = inl (record {
  front = take at text;
  rest = drop at text;
  tokens = tokens;
  before = before;
  parted = sym (take-append-drop at text);
  row = row;
  bad = h.1;
  place = h.0 ∙ sym (length-take-le at text inside);
})
fault_behind kind text at before tokens inside row NoMemory h = tt
fault_behind kind text at before tokens inside row (UnknownSpecifier place) h = h
fault_behind kind text at before tokens inside row (Repeated place) h = h
fault_behind kind text at before tokens inside row (NoDelimiter place) h = h
fault_behind kind text at before tokens inside row (Missing field) h = h
fault_behind kind text at before tokens inside row NotJson h = h
fault_behind kind text at before tokens inside row (BadShape leaf) h = h
fault_behind kind text at before tokens inside row (Leaf leaf fault place) h = h

-- a row of the whole text is a format where it gives all that is needed, and else at fault at its end
pub completes : (kind : Kind) (text : List ℕ) (items items' : List Item) (tokens : List Token) (b : Bool) → items' ≡ items
    → b ≡ list_all (λ q. list_any (gives q) items') (needed_parts kind) → IsRow kind tokens text items
    → (b ≡ true → IsFormat kind text items) × (b ≡ false → IsFaultAt kind text (length text))
completes kind text items items' tokens b same test row =
    let tested : list_all (λ q. list_any (gives q) items) (needed_parts kind) ≡ b =
    sym (subst (λ (xs : List Item). b ≡ list_all (λ q. list_any (gives q) xs) (needed_parts kind)) same test) in (
      λ given. record { tokens = tokens; row = row; complete = complete kind items row.once (tested ∙ given) },
      λ lack. inr (record { tokens = tokens; items = items; row = row; lacks = incomplete kind items (tested ∙ lack); place = refl }),
    )
