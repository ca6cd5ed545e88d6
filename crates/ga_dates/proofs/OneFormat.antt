-- A text has one answer: it is one format, or has one fault.
use Rattle.std.proofs.Common.{◌≡◌, ℕ, List, [], ◌∷◌, ◌++◌, Option, Some, None, length, ap, sym, ◌∙◌, refl, subst, inl, inr, append_assoc}
use Rattle.std.specs.Prelude.{◌⊎◌, IsSome, MatchOption, unwrap_or, Result, Ok, Err, IfOk, IfErr}
use Rattle.std.specs.List.{flat_map, AllByRecursion}
use Rattle.std.proofs.lemmas.List.{append-nil}
use Rattle.ga_base.specs.declared.formats.FormatFault.{FormatFault}
use Rattle.ga_base.specs.declared.formats.FormatFault.TheVariants.{UnknownSpecifier, Repeated, NoDelimiter, Missing, BadDirective, NotJson, BadShape, Leaf, NoMemory}
use Rattle.ga_dates.specs.declared.item.Item.{Item}
use Rattle.ga_dates.specs.declared.kind.Kind.{Kind}
use Rattle.ga_dates.specs.Items.{AreOnce, IsComplete}
use Rattle.ga_dates.specs.Grammar.{Token, Byte, Directive, text_of, items_of, IsNamed, IsRow, IsFormat, directive_of, GivesAgain, IsBadDirective, BreaksAt, LacksAt, IsFaultAt, IsFormatFault, IsAnswer, UnlessNoMemory}
use Rattle.ga_dates.proofs.PartLemmas.{once_front, once_new}

-- a row stops at the text's end and at a bad directive
abbrev Stops : Kind → List Item → List ℕ → Type 0
Stops kind before rest = (rest ≡ []) ⊎ IsBadDirective kind before rest

bad_byte : (kind : Kind) (before : List Item) (byte : ℕ) (rest : List ℕ) → IsBadDirective kind before (byte ∷ rest) → byte ≡ 37
bad_byte kind before byte [] bad = bad
bad_byte kind before byte (letter ∷ rest) bad = bad.0

named_is_good : (o : Option (List Item)) (before more : List Item) → IsSome o → AreOnce (before ++ (unwrap_or o [] ++ more))
    → MatchOption o (Unit {0}) (λ added. GivesAgain before added) → ⊥
named_is_good None before more named once bad = cc
named_is_good (Some added) before more named once bad =
    once_new before added (once_front (before ++ added) more (subst (λ (xs : List Item). AreOnce xs) (sym (append_assoc before added more)) once)) bad

-- it doesn't stop where a token follows that is named and gives nothing again
goes_on : (kind : Kind) (before more : List Item) (token : Token) (rest text : List ℕ) → IsNamed kind token → AreOnce (before ++ (items_of kind token ++ more))
    → text ≡ text_of token ++ rest → Stops kind before text → ⊥
goes_on kind before more (Byte byte) rest text named once e (inl none) = let ended : [] ≡ byte ∷ rest = sym none ∙ e in cc
goes_on kind before more (Byte byte) rest text named once e (inr bad) =
    named (bad_byte kind before byte rest (subst (λ (s : List ℕ). IsBadDirective kind before s) e bad))
goes_on kind before more (Directive letter) rest text named once e (inl none) = let ended : [] ≡ 37 ∷ letter ∷ rest = sym none ∙ e in cc
goes_on kind before more (Directive letter) rest text named once e (inr bad) =
    named_is_good (directive_of kind letter) before more named once (subst (λ (s : List ℕ). IsBadDirective kind before s) e bad).1

-- a text begins with one token
same_token : (kind : Kind) (u v : Token) (x y : List ℕ) → IsNamed kind u → IsNamed kind v → text_of u ++ x ≡ text_of v ++ y → (u ≡ v) × (x ≡ y)
same_token kind (Byte a) (Byte b) x y hu hv e = let here : a ≡ b = cc in (ap Byte here, cc)
same_token kind (Byte a) (Directive d) x y hu hv e = let here : a ≡ 37 = cc in absurd (hu here)
same_token kind (Directive c) (Byte b) x y hu hv e = let here : b ≡ 37 = cc in absurd (hv here)
same_token kind (Directive c) (Directive d) x y hu hv e = let here : c ≡ d = cc in (ap Directive here, cc)

cons_same : {u v : Token} {us vs : List Token} → u ≡ v → us ≡ vs → u ∷ us ≡ v ∷ vs
cons_same first later = cc

-- two rows in front of one text stop at one place
same_front : (kind : Kind) (before : List Item) (us vs : List Token) (x y : List ℕ)
    → AllByRecursion (IsNamed kind) us → AllByRecursion (IsNamed kind) vs
    → AreOnce (before ++ flat_map (items_of kind) us) → AreOnce (before ++ flat_map (items_of kind) vs)
    → flat_map text_of us ++ x ≡ flat_map text_of vs ++ y
    → Stops kind (before ++ flat_map (items_of kind) us) x → Stops kind (before ++ flat_map (items_of kind) vs) y
    → (us ≡ vs) × (x ≡ y)
same_front kind before [] [] x y named named' once once' e stops stops' = (refl, e)
same_front kind before [] (v ∷ vs) x y named named' once once' e stops stops' =
    absurd (goes_on kind before (flat_map (items_of kind) vs) v (flat_map text_of vs ++ y) x named'.0 once'
    (e ∙ append_assoc (text_of v) (flat_map text_of vs) y) (subst (λ (xs : List Item). Stops kind xs x) (append-nil before) stops))
same_front kind before (u ∷ us) [] x y named named' once once' e stops stops' =
    absurd (goes_on kind before (flat_map (items_of kind) us) u (flat_map text_of us ++ x) y named.0 once
    (sym e ∙ append_assoc (text_of u) (flat_map text_of us) x) (subst (λ (xs : List Item). Stops kind xs y) (append-nil before) stops'))
same_front kind before (u ∷ us) (v ∷ vs) x y named named' once once' e stops stops' =
    let first = same_token kind u v (flat_map text_of us ++ x) (flat_map text_of vs ++ y) named.0 named'.0
    (sym (append_assoc (text_of u) (flat_map text_of us) x) ∙ (e ∙ append_assoc (text_of v) (flat_map text_of vs) y)) in
    let left : before ++ (items_of kind u ++ flat_map (items_of kind) us) ≡ (before ++ items_of kind u) ++ flat_map (items_of kind) us =
    sym (append_assoc before (items_of kind u) (flat_map (items_of kind) us)) in
    let right : before ++ (items_of kind v ++ flat_map (items_of kind) vs) ≡ (before ++ items_of kind u) ++ flat_map (items_of kind) vs =
    ap (λ (t : Token). before ++ (items_of kind t ++ flat_map (items_of kind) vs)) (sym first.0) ∙ sym (append_assoc before (items_of kind u) (flat_map (items_of kind) vs)) in
    let later = same_front kind (before ++ items_of kind u) us vs x y named.1 named'.1
    (subst (λ (xs : List Item). AreOnce xs) left once) (subst (λ (xs : List Item). AreOnce xs) right once') first.1
    (subst (λ (xs : List Item). Stops kind xs x) left stops) (subst (λ (xs : List Item). Stops kind xs y) right stops') in
    (cons_same first.0 later.0, later.1)

same_rows : (kind : Kind) (text front rest front' rest' : List ℕ) (tokens tokens' : List Token) (items items' : List Item)
    → text ≡ front ++ rest → IsRow kind tokens front items → Stops kind items rest
    → text ≡ front' ++ rest' → IsRow kind tokens' front' items' → Stops kind items' rest' → (tokens ≡ tokens') × (rest ≡ rest')
same_rows kind text front rest front' rest' tokens tokens' items items' parted row stops parted' row' stops' =
    same_front kind [] tokens tokens' rest rest' row.named row'.named
    (subst (λ (xs : List Item). AreOnce xs) row.given row.once) (subst (λ (xs : List Item). AreOnce xs) row'.given row'.once)
    (ap (λ (s : List ℕ). s ++ rest) (sym row.spelt) ∙ (sym parted ∙ (parted' ∙ ap (λ (s : List ℕ). s ++ rest') row'.spelt)))
    (subst (λ (xs : List Item). Stops kind xs rest) row.given stops) (subst (λ (xs : List Item). Stops kind xs rest') row'.given stops')

same_items : (kind : Kind) (text text' : List ℕ) (tokens tokens' : List Token) (items items' : List Item) → IsRow kind tokens text items → IsRow kind tokens' text' items'
    → tokens ≡ tokens' → items ≡ items'
same_items kind text text' tokens tokens' items items' row row' same = row.given ∙ (ap (flat_map (items_of kind)) same ∙ sym row'.given)

-- a text is at most one format
pub one_format : (kind : Kind) (text : List ℕ) (items items' : List Item) → IsFormat kind text items → IsFormat kind text items' → items ≡ items'
one_format kind text items items' f f' =
    let same = same_rows kind text text [] text [] f.tokens f'.tokens items items' (sym (append-nil text)) f.row (inl refl) (sym (append-nil text)) f'.row (inl refl) in
    same_items kind text text f.tokens f'.tokens items items' f.row f'.row same.0

-- a format has no fault
pub format_or_fault : (kind : Kind) (text : List ℕ) (items : List Item) (at : ℕ) → IsFormat kind text items → IsFaultAt kind text at → ⊥
format_or_fault kind text items at f (inl b) =
    let same = same_rows kind text text [] b.front b.rest f.tokens b.tokens items b.before (sym (append-nil text)) f.row (inl refl) b.parted b.row (inr b.bad) in
    subst (λ (s : List ℕ). IsBadDirective kind b.before s) (sym same.1) b.bad
format_or_fault kind text items at f (inr l) =
    let same = same_rows kind text text [] text [] f.tokens l.tokens items l.items (sym (append-nil text)) f.row (inl refl) (sym (append-nil text)) l.row (inl refl) in
    l.lacks (subst (λ (xs : List Item). IsComplete kind xs) (same_items kind text text f.tokens l.tokens items l.items f.row l.row same.0) f.complete)

lacks_or_breaks : (kind : Kind) (text : List ℕ) (at at' : ℕ) → LacksAt kind text at → BreaksAt kind text at' → ⊥
lacks_or_breaks kind text at at' l b =
    let same = same_rows kind text text [] b.front b.rest l.tokens b.tokens l.items b.before (sym (append-nil text)) l.row (inl refl) b.parted b.row (inr b.bad) in
    subst (λ (s : List ℕ). IsBadDirective kind b.before s) (sym same.1) b.bad

-- and a text has at most one fault
pub one_fault : (kind : Kind) (text : List ℕ) (at at' : ℕ) → IsFaultAt kind text at → IsFaultAt kind text at' → at ≡ at'
one_fault kind text at at' (inl b) (inl b') =
    let same = same_rows kind text b.front b.rest b'.front b'.rest b.tokens b'.tokens b.before b'.before b.parted b.row (inr b.bad) b'.parted b'.row (inr b'.bad) in
    b.place ∙ (ap length (b.row.spelt ∙ (ap (flat_map text_of) same.0 ∙ sym b'.row.spelt)) ∙ sym b'.place)
one_fault kind text at at' (inl b) (inr l) = absurd (lacks_or_breaks kind text at' at l b)
one_fault kind text at at' (inr l) (inl b) = absurd (lacks_or_breaks kind text at at' l b)
one_fault kind text at at' (inr l) (inr l') = l.place ∙ sym l'.place

-- an answer that is no format is a bad directive
fault_at : (kind : Kind) (text : List ℕ) (fault : FormatFault) → IsAnswer kind text (Err fault) → (at : ℕ) × (fault ≡ BadDirective at) × IsFaultAt kind text at
fault_at kind text (BadDirective at) h = (at, refl, h)
fault_at kind text _ h = absurd h

-- so a text has one answer at most
pub one_answer : (kind : Kind) (text : List ℕ) (answer other : Result (List Item) FormatFault) → IsAnswer kind text answer → IsAnswer kind text other → answer ≡ other
one_answer kind text (Ok items) (Ok items') h k = ap Ok (one_format kind text items items' h k)
one_answer kind text (Ok items) (Err fault) h k =
    let bad = fault_at kind text fault k in
    absurd (format_or_fault kind text items bad.0 h bad.2)
one_answer kind text (Err fault) (Ok items) h k =
    let bad = fault_at kind text fault h in
    absurd (format_or_fault kind text items bad.0 k bad.2)
one_answer kind text (Err fault) (Err fault') h k =
    let one = fault_at kind text fault h in
    let two = fault_at kind text fault' k in
    ap (λ (f : FormatFault). Err f) (one.1 ∙ (ap BadDirective (one_fault kind text one.0 two.0 one.2 two.2) ∙ sym two.1))

-- so what is answered is the only answer
pub only_format : (kind : Kind) (text : List ℕ) (r : Result (List Item) FormatFault) → IfOk r (IsFormat kind text) → IfErr r (IsFormatFault kind text)
    → (items : List Item) → IsFormat kind text items → UnlessNoMemory r (Ok items)
only_format kind text (Ok found) ok err items f = inl (ap Ok (one_format kind text found items ok f))
only_format kind text (Err (BadDirective at)) ok err items f = absurd (format_or_fault kind text items at f err)
only_format kind text (Err NoMemory) ok err items f = inr refl
only_format kind text (Err (UnknownSpecifier at)) ok err items f = absurd err
only_format kind text (Err (Repeated at)) ok err items f = absurd err
only_format kind text (Err (NoDelimiter at)) ok err items f = absurd err
only_format kind text (Err (Missing field)) ok err items f = absurd err
only_format kind text (Err NotJson) ok err items f = absurd err
only_format kind text (Err (BadShape leaf)) ok err items f = absurd err
only_format kind text (Err (Leaf leaf fault place)) ok err items f = absurd err

pub only_fault : (kind : Kind) (text : List ℕ) (r : Result (List Item) FormatFault) → IfOk r (IsFormat kind text) → IfErr r (IsFormatFault kind text)
    → (at : ℕ) → IsFaultAt kind text at → UnlessNoMemory r (Err (BadDirective at))
only_fault kind text (Ok found) ok err at h = absurd (format_or_fault kind text found at ok h)
only_fault kind text (Err (BadDirective place)) ok err at h = inl (ap (λ (k : ℕ). Err (BadDirective k)) (one_fault kind text place at err h))
only_fault kind text (Err NoMemory) ok err at h = inr refl
only_fault kind text (Err (UnknownSpecifier place)) ok err at h = absurd err
only_fault kind text (Err (Repeated place)) ok err at h = absurd err
only_fault kind text (Err (NoDelimiter place)) ok err at h = absurd err
only_fault kind text (Err (Missing field)) ok err at h = absurd err
only_fault kind text (Err NotJson) ok err at h = absurd err
only_fault kind text (Err (BadShape leaf)) ok err at h = absurd err
only_fault kind text (Err (Leaf leaf fault place)) ok err at h = absurd err

-- the same of an error that is passed on
pub only_format_err : (kind : Kind) (text text' : List ℕ) (e : FormatFault) (r : Result (List Item) FormatFault) → ((x : FormatFault) × (r ≡ Err x) × (x ≡ e)) → text' ≡ text → IsFormatFault kind text' e
    → (items : List Item) → IsFormat kind text items → UnlessNoMemory r (Ok items)
only_format_err kind text text' e r is same fault items f =
    subst (λ (x : Result (List Item) FormatFault). UnlessNoMemory x (Ok items)) (sym (is.1 ∙ ap Err is.2))
    (only_format kind text (Err e) tt (subst (λ (s : List ℕ). IsFormatFault kind s e) same fault) items f)

pub only_fault_err : (kind : Kind) (text text' : List ℕ) (e : FormatFault) (r : Result (List Item) FormatFault) → ((x : FormatFault) × (r ≡ Err x) × (x ≡ e)) → text' ≡ text → IsFormatFault kind text' e
    → (at : ℕ) → IsFaultAt kind text at → UnlessNoMemory r (Err (BadDirective at))
only_fault_err kind text text' e r is same fault at h =
    subst (λ (x : Result (List Item) FormatFault). UnlessNoMemory x (Err (BadDirective at))) (sym (is.1 ∙ ap Err is.2))
    (only_fault kind text (Err e) tt (subst (λ (s : List ℕ). IsFormatFault kind s e) same fault) at h)
