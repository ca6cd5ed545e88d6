-- Leaves of places: one more at the end, one answer, and some answer.
use Rattle.std.proofs.Common.{◌≡◌, ℕ, suc, zero, ◌+◌, ◌<◌, true, false, Bool, List, [], ◌∷◌, ◌++◌, length, take, drop, get_or, refl, sym, ◌∙◌, ap, subst, arith, inl, inr, ◌⊎◌, Option, Some, None, append_assoc, append-nil, Result, Ok, Err, IfOk, IfErr}
use Rattle.std.specs.List.{flat_map, list_any}
use Rattle.std.specs.Str.{IsUtf8, is_utf8}
use Rattle.std.proofs.lemmas.Bool.{false≢true}
use Rattle.std.proofs.lemmas.List.{drop_more, length-take, take-append-drop, take_more}
use Rattle.std.proofs.lemmas.Str.{IsUtf8-from_is_utf8, is_utf8-from_IsUtf8}
use Rattle.serde_json.specs.Data.{Data, Members, object}
use Rattle.serde_json.specs.Data as seen
use Rattle.serde_json.specs.Read.{read}
use Rattle.ga_base.specs.declared.formats.FormatItem.{FormatItem}
use Rattle.ga_base.specs.declared.formats.FormatFault.{FormatFault}
use Rattle.ga_base.specs.declared.formats.FormatFault.TheVariants.{UnknownSpecifier, Repeated, NoDelimiter, Missing, BadDirective, NotJson, BadShape, Leaf, NoMemory}
use Rattle.ga_base.specs.declared.formats.LeafFault.{LeafFault}
use Rattle.ga_base.specs.declared.formats.LeafFault.TheVariants as kinds
use Rattle.ga_base.specs.declared.formats.Needed.{Needed}
use Rattle.ga_base.specs.declared.formats.Needed.TheVariants.{Host, Date, Request}
use Rattle.ga_format.specs.FieldKinds.{IsFirstMissing, gives}
use Rattle.ga_format.specs.FormatOf.{IsFirstPlaced, ItemsOf}
use Rattle.ga_jsonlog.specs.declared.leaf.JsonLeaf.{JsonLeaf}
use Rattle.ga_jsonlog.specs.declared.leaf.PathStep.{PathStep}
use Rattle.ga_jsonlog.specs.declared.places.Place.{Place}
use Rattle.ga_jsonlog.specs.declared.places.Place.TheVariants as spots
use Rattle.ga_jsonlog.specs.Objects.{IsObject}
use Rattle.ga_jsonlog.specs.JsonFormats.{AreLeaves, HasBadLeaf, HasBadShape, HasFault, IsFaultOf, IsFirstBad, IsJsonFormat, JsonFormatOf, LacksPart, all_items, fault_at, places_of}
use Rattle.ga_jsonlog.specs.Steps.{IsLeafFault, IsPlaceFault}

-- one good place more
pub leaves-snoc : (earlier : List FormatItem) (before : List Place) (leaves : List JsonLeaf) (path : List PathStep) (text : List ℕ) (items : List FormatItem)
    → AreLeaves earlier before leaves → ItemsOf (earlier ++ all_items leaves) text (Ok items)
    → AreLeaves earlier (before ++ (spots.Leaf path text ∷ [])) (leaves ++ (record { path = path; items = items } ∷ []))
leaves-snoc earlier [] leaves path text items are has = (
  items,
  [],
  ap (λ (ls : List JsonLeaf). ls ++ (record { path = path; items = items } ∷ [])) are,
  subst (λ (given : List FormatItem). ItemsOf given text (Ok items)) (ap (λ (ls : List JsonLeaf). earlier ++ all_items ls) are ∙ append-nil earlier) has,
  refl,
)
leaves-snoc earlier (spots.Bad ∷ before) leaves path text items are has = absurd are
leaves-snoc earlier (spots.Leaf other first ∷ before) leaves path text items (own, later, is, one, more) has = (
  own,
  later ++ (record { path = path; items = items } ∷ []),
  ap (λ (ls : List JsonLeaf). ls ++ (record { path = path; items = items } ∷ [])) is,
  one,
  leaves-snoc (earlier ++ own) before later path text items more
      (subst (λ (given : List FormatItem). ItemsOf given text (Ok items)) (ap (λ (ls : List JsonLeaf). earlier ++ all_items ls) is ∙ sym (append_assoc earlier own (all_items later))) has),
)

-- the items of one leaf more
pub all_items-snoc : (leaves : List JsonLeaf) (leaf : JsonLeaf) → all_items (leaves ++ (leaf ∷ [])) ≡ all_items leaves ++ leaf.items
all_items-snoc [] leaf = append-nil leaf.items
all_items-snoc (first ∷ leaves) leaf = ap (λ (items : List FormatItem). first.items ++ items) (all_items-snoc leaves leaf) ∙ sym (append_assoc first.items (all_items leaves) leaf.items)

-- what places say after these items and so many leaves, place by place
abbrev pub Walks : List FormatItem → ℕ → List Place → Result (List JsonLeaf) FormatFault → Type 0
Walks earlier place [] (Ok leaves) = leaves ≡ []
Walks earlier place [] (Err fault) = ⊥
Walks earlier place (spots.Bad ∷ more) (Ok leaves) = ⊥
Walks earlier place (spots.Bad ∷ more) (Err fault) = fault ≡ BadShape place
Walks earlier place (spots.Leaf path text ∷ more) (Ok leaves) = (items : List FormatItem) × (later : List JsonLeaf)
    × (leaves ≡ record { path = path; items = items } ∷ later) × ItemsOf earlier text (Ok items) × Walks (earlier ++ items) (suc place) more (Ok later)
Walks earlier place (spots.Leaf path text ∷ more) (Err fault) =
    ((kind : LeafFault) × (at : ℕ) × (fault ≡ Leaf place kind at) × IsFirstPlaced earlier text (fault_at kind at))
    ⊎ ((items : List FormatItem) × ItemsOf earlier text (Ok items) × Walks (earlier ++ items) (suc place) more (Err fault))

abbrev pub OneList : Type 0
OneList = (earlier : List FormatItem) (text : List ℕ) (a b : Result (List FormatItem) FormatFault) → ItemsOf earlier text a → ItemsOf earlier text b → a ≡ b

abbrev pub EveryList : Type 0
EveryList = (earlier : List FormatItem) (text : List ℕ) → (answer : Result (List FormatItem) FormatFault) × ItemsOf earlier text answer

no-ok : {A B : Type 0} (a : A) (b : B) → Ok a ≡ Err b → ⊥
no-ok a b e = cc

list-same : (a b : List FormatItem) (r : Result (List FormatItem) FormatFault) → r ≡ Ok a → r ≡ Ok b → a ≡ b
list-same a b r e f = cc

fault-same : (a b : FormatFault) (r : Result (List FormatItem) FormatFault) → r ≡ Err a → r ≡ Err b → a ≡ b
fault-same a b r e f = cc

leaves-same : (a b : List JsonLeaf) (r : Result (List JsonLeaf) FormatFault) → r ≡ Ok a → r ≡ Ok b → a ≡ b
leaves-same a b r e f = cc

-- of one text and these items there is one list
one-list : OneList → (earlier : List FormatItem) (text : List ℕ) (a b : List FormatItem) → ItemsOf earlier text (Ok a) → ItemsOf earlier text (Ok b) → a ≡ b
one-list one earlier text a b h k = list-same a b (Ok a) refl (one earlier text (Ok a) (Ok b) h k)

one-place : (kind other : LeafFault) (at at' : ℕ) → fault_at kind at ≡ fault_at other at' → (kind ≡ other) × (at ≡ at')
one-place kinds.Unknown kinds.Unknown at at' e = (refl, cc)
one-place kinds.Unknown kinds.Repeated at at' e = cc
one-place kinds.Unknown kinds.NoDelimiter at at' e = cc
one-place kinds.Repeated kinds.Unknown at at' e = cc
one-place kinds.Repeated kinds.Repeated at at' e = (refl, cc)
one-place kinds.Repeated kinds.NoDelimiter at at' e = cc
one-place kinds.NoDelimiter kinds.Unknown at at' e = cc
one-place kinds.NoDelimiter kinds.Repeated at at' e = cc
one-place kinds.NoDelimiter kinds.NoDelimiter at at' e = (refl, cc)

-- places say one thing
one-walk : OneList → (earlier : List FormatItem) (place : ℕ) (places : List Place) (a b : Result (List JsonLeaf) FormatFault) → Walks earlier place places a → Walks earlier place places b → a ≡ b
one-walk one earlier place [] (Ok a) (Ok b) h k = ap Ok (h ∙ sym k)
one-walk one earlier place [] (Ok a) (Err b) h k = absurd k
one-walk one earlier place [] (Err a) b h k = absurd h
one-walk one earlier place (spots.Bad ∷ more) (Ok a) b h k = absurd h
one-walk one earlier place (spots.Bad ∷ more) (Err a) (Ok b) h k = absurd k
one-walk one earlier place (spots.Bad ∷ more) (Err a) (Err b) h k = ap Err (h ∙ sym k)
one-walk one earlier place (spots.Leaf path text ∷ more) (Ok a) (Ok b) (items, later, is, has, goes) (items', later', is', has', goes') =
    let same : items ≡ items' = one-list one earlier text items items' has has' in
    let rest = one-walk one (earlier ++ items') (suc place) more (Ok later) (Ok later') (subst (λ (own : List FormatItem). Walks (earlier ++ own) (suc place) more (Ok later)) same goes) goes' in
    let tails : later ≡ later' = leaves-same later later' (Ok later) refl rest in
    ap Ok (is ∙ (ap (λ (own : List FormatItem). record { path = path; items = own } ∷ later) same ∙ (ap (λ (ls : List JsonLeaf). record { path = path; items = items' } ∷ ls) tails ∙ sym is')))
one-walk one earlier place (spots.Leaf path text ∷ more) (Ok a) (Err b) (items, later, is, has, goes) (inl (kind, at, told, first)) = absurd (no-ok items (fault_at kind at) (one earlier text (Ok items) (Err (fault_at kind at)) has first))
one-walk one earlier place (spots.Leaf path text ∷ more) (Ok a) (Err b) (items, later, is, has, goes) (inr (items', has', goes')) =
    let same : items ≡ items' = one-list one earlier text items items' has has' in
    absurd (no-ok later b (one-walk one (earlier ++ items') (suc place) more (Ok later) (Err b) (subst (λ (own : List FormatItem). Walks (earlier ++ own) (suc place) more (Ok later)) same goes) goes'))
one-walk one earlier place (spots.Leaf path text ∷ more) (Err a) (Ok b) (inl (kind, at, told, first)) (items, later, is, has, goes) = absurd (no-ok items (fault_at kind at) (one earlier text (Ok items) (Err (fault_at kind at)) has first))
one-walk one earlier place (spots.Leaf path text ∷ more) (Err a) (Ok b) (inr (items', has', goes')) (items, later, is, has, goes) =
    let same : items ≡ items' = one-list one earlier text items items' has has' in
    absurd (no-ok later a (sym (one-walk one (earlier ++ items') (suc place) more (Err a) (Ok later) goes' (subst (λ (own : List FormatItem). Walks (earlier ++ own) (suc place) more (Ok later)) same goes))))
one-walk one earlier place (spots.Leaf path text ∷ more) (Err a) (Err b) (inl (kind, at, told, first)) (inl (kind', at', told', first')) =
    let same = one-place kind kind' at at' (fault-same (fault_at kind at) (fault_at kind' at') (Err (fault_at kind at)) refl (one earlier text (Err (fault_at kind at)) (Err (fault_at kind' at')) first first')) in
    ap Err (told ∙ (ap (λ (k : LeafFault). Leaf place k at) same.0 ∙ (ap (λ (p : ℕ). Leaf place kind' p) same.1 ∙ sym told')))
one-walk one earlier place (spots.Leaf path text ∷ more) (Err a) (Err b) (inl (kind, at, told, first)) (inr (items, has, goes)) = absurd (no-ok items (fault_at kind at) (one earlier text (Ok items) (Err (fault_at kind at)) has first))
one-walk one earlier place (spots.Leaf path text ∷ more) (Err a) (Err b) (inr (items, has, goes)) (inl (kind, at, told, first)) = absurd (no-ok items (fault_at kind at) (one earlier text (Ok items) (Err (fault_at kind at)) has first))
one-walk one earlier place (spots.Leaf path text ∷ more) (Err a) (Err b) (inr (items, has, goes)) (inr (items', has', goes')) =
    let same : items ≡ items' = one-list one earlier text items items' has has' in
    one-walk one (earlier ++ items') (suc place) more (Err a) (Err b) (subst (λ (own : List FormatItem). Walks (earlier ++ own) (suc place) more (Err a)) same goes) goes'

-- leaves are what the places say
walks-leaves : (earlier : List FormatItem) (place : ℕ) (places : List Place) (leaves : List JsonLeaf) → AreLeaves earlier places leaves → Walks earlier place places (Ok leaves)
walks-leaves earlier place [] leaves are = are
walks-leaves earlier place (spots.Bad ∷ more) leaves are = absurd are
walks-leaves earlier place (spots.Leaf path text ∷ more) leaves (items, later, is, has, rest) = (items, later, is, has, walks-leaves (earlier ++ items) (suc place) more later rest)

-- and the other way round
leaves-of-walk : (earlier : List FormatItem) (place : ℕ) (places : List Place) (leaves : List JsonLeaf) → Walks earlier place places (Ok leaves) → AreLeaves earlier places leaves
leaves-of-walk earlier place [] leaves w = w
leaves-of-walk earlier place (spots.Bad ∷ more) leaves w = absurd w
leaves-of-walk earlier place (spots.Leaf path text ∷ more) leaves (items, later, is, has, rest) = (items, later, is, has, leaves-of-walk (earlier ++ items) (suc place) more later rest)

-- a fault after good places is what the places say
walks-on : (earlier : List FormatItem) (place : ℕ) (before after : List Place) (leaves : List JsonLeaf) (fault : FormatFault) → AreLeaves earlier before leaves
    → Walks (earlier ++ all_items leaves) (place + length before) after (Err fault) → Walks earlier place (before ++ after) (Err fault)
walks-on earlier place [] after leaves fault are w =
    let none : earlier ++ all_items leaves ≡ earlier = ap (λ (ls : List JsonLeaf). earlier ++ all_items ls) are ∙ append-nil earlier in
    let same : place + 0 ≡ place = omega arith in
    subst (λ (n : ℕ). Walks earlier n after (Err fault)) same (subst (λ (given : List FormatItem). Walks given (place + 0) after (Err fault)) none w)
walks-on earlier place (spots.Bad ∷ before) after leaves fault are w = absurd are
walks-on earlier place (spots.Leaf path text ∷ before) after leaves fault (items, later, is, has, rest) w =
    let given : earlier ++ all_items leaves ≡ (earlier ++ items) ++ all_items later = ap (λ (ls : List JsonLeaf). earlier ++ all_items ls) is ∙ sym (append_assoc earlier items (all_items later)) in
    let count : place + length (spots.Leaf path text ∷ before) ≡ suc place + length before = omega arith in
    inr (
      items,
      has,
      walks-on (earlier ++ items) (suc place) before after later fault rest
          (subst (λ (n : ℕ). Walks ((earlier ++ items) ++ all_items later) n after (Err fault)) count (subst (λ (g : List FormatItem). Walks g (place + length (spots.Leaf path text ∷ before)) after (Err fault)) given w)),
    )

-- the fault of the first place that isn't good is what the places say
none-before : (n : ℕ) → n ≡ 0 + n
none-before n = omega arith

pub walks-fault : (places : List Place) (fault : FormatFault) → IsPlaceFault places fault → Walks [] 0 places (Err fault)
walks-fault places (BadShape place) (leaves, first) =
    let here : Walks (all_items leaves) (length first.before) (spots.Bad ∷ first.after) (Err (BadShape place)) = ap BadShape first.count in
    subst (λ (all : List Place). Walks [] 0 all (Err (BadShape place))) (sym first.split)
    (walks-on [] 0 first.before (spots.Bad ∷ first.after) leaves (BadShape place) first.good
    (subst (λ (n : ℕ). Walks (all_items leaves) n (spots.Bad ∷ first.after) (Err (BadShape place))) (none-before (length first.before)) here))
walks-fault places (Leaf place kind at) (path, text, leaves, first, bad) =
    let here : Walks (all_items leaves) (length first.before) (spots.Leaf path text ∷ first.after) (Err (Leaf place kind at)) = inl (kind, at, ap (λ (n : ℕ). Leaf n kind at) first.count, bad) in
    subst (λ (all : List Place). Walks [] 0 all (Err (Leaf place kind at))) (sym first.split)
    (walks-on [] 0 first.before (spots.Leaf path text ∷ first.after) leaves (Leaf place kind at) first.good
    (subst (λ (n : ℕ). Walks (all_items leaves) n (spots.Leaf path text ∷ first.after) (Err (Leaf place kind at))) (none-before (length first.before)) here))
walks-fault places (UnknownSpecifier at) h = absurd h
walks-fault places (Repeated at) h = absurd h
walks-fault places (NoDelimiter at) h = absurd h
walks-fault places (Missing need) h = absurd h
walks-fault places (BadDirective at) h = absurd h
walks-fault places NotJson h = absurd h
walks-fault places NoMemory h = absurd h

-- of what is missing one part is the first
one-missing : (items : List FormatItem) (need other : Needed) → IsFirstMissing items need → IsFirstMissing items other → need ≡ other
one-missing items Host Host m n = refl
one-missing items Host Date m n = absurd (false≢true (sym m ∙ n.0))
one-missing items Host Request m n = absurd (false≢true (sym m ∙ n.0))
one-missing items Date Host m n = absurd (false≢true (sym n ∙ m.0))
one-missing items Date Date m n = refl
one-missing items Date Request m n = absurd (false≢true (sym m.1 ∙ n.1))
one-missing items Request Host m n = absurd (false≢true (sym n ∙ m.0))
one-missing items Request Date m n = absurd (false≢true (sym n.1 ∙ m.1))
one-missing items Request Request m n = refl

lacks-given : (items : List FormatItem) (need : Needed) → IsFirstMissing items need → ((other : Needed) → list_any (gives other) items ≡ true) → ⊥
lacks-given items Host m all = false≢true (sym m ∙ all Host)
lacks-given items Date m all = false≢true (sym m.1 ∙ all Date)
lacks-given items Request m all = false≢true (sym m.2 ∙ all Request)

-- what the places of an object say of a whole format
abbrev Says : List Place → Result (List JsonLeaf) FormatFault → Type 0
Says all (Ok leaves) = Walks [] 0 all (Ok leaves) × ((need : Needed) → list_any (gives need) (all_items leaves) ≡ true)
Says all (Err fault) = Walks [] 0 all (Err fault)
    ⊎ ((need : Needed) × (leaves : List JsonLeaf) × (fault ≡ Missing need) × Walks [] 0 all (Ok leaves) × IsFirstMissing (all_items leaves) need)

-- leaves and a fault don't stand together
no-both : OneList → (all : List Place) (a : List JsonLeaf) (b : FormatFault) → Says all (Ok a) → Says all (Err b) → ⊥
no-both one all a b h (inl w) = no-ok a b (one-walk one [] 0 all (Ok a) (Err b) h.0 w)
no-both one all a b h (inr (need, leaves, is, w, m)) =
    let same : a ≡ leaves = leaves-same a leaves (Ok a) refl (one-walk one [] 0 all (Ok a) (Ok leaves) h.0 w) in
    lacks-given (all_items leaves) need m (subst (λ (ls : List JsonLeaf). (other : Needed) → list_any (gives other) (all_items ls) ≡ true) same h.1)

one-says : OneList → (all : List Place) (a b : Result (List JsonLeaf) FormatFault) → Says all a → Says all b → a ≡ b
one-says one all (Ok a) (Ok b) h k = one-walk one [] 0 all (Ok a) (Ok b) h.0 k.0
one-says one all (Ok a) (Err b) h k = absurd (no-both one all a b h k)
one-says one all (Err a) (Ok b) h k = absurd (no-both one all b a k h)
one-says one all (Err a) (Err b) (inl w) (inl v) = one-walk one [] 0 all (Err a) (Err b) w v
one-says one all (Err a) (Err b) (inl w) (inr (need, leaves, is, v, m)) = absurd (no-ok leaves a (one-walk one [] 0 all (Ok leaves) (Err a) v w))
one-says one all (Err a) (Err b) (inr (need, leaves, is, v, m)) (inl w) = absurd (no-ok leaves b (one-walk one [] 0 all (Ok leaves) (Err b) v w))
one-says one all (Err a) (Err b) (inr (need, leaves, is, v, m)) (inr (need', leaves', is', v', m')) =
    let same : leaves ≡ leaves' = leaves-same leaves leaves' (Ok leaves) refl (one-walk one [] 0 all (Ok leaves) (Ok leaves') v v') in
    let part : need ≡ need' = one-missing (all_items leaves') need need' (subst (λ (ls : List JsonLeaf). IsFirstMissing (all_items ls) need) same m) m' in
    ap Err (is ∙ (ap Missing part ∙ sym is'))

fault-says : (all : List Place) (fault : FormatFault) → HasFault all fault → Says all (Err fault)
fault-says all (BadShape leaf) h = inl (walks-fault all (BadShape leaf) h)
fault-says all (Leaf leaf kind at) h = inl (walks-fault all (Leaf leaf kind at) h)
fault-says all (Missing need) (leaves, good, missing) = inr (need, leaves, refl, walks-leaves [] 0 all leaves good, missing)
fault-says all (UnknownSpecifier at) h = absurd h
fault-says all (Repeated at) h = absurd h
fault-says all (NoDelimiter at) h = absurd h
fault-says all (BadDirective at) h = absurd h
fault-says all NotJson h = absurd h
fault-says all NoMemory h = absurd h

-- an answer is of an object, or that there is none
abbrev Told : List ℕ → Result (List JsonLeaf) FormatFault → Type 0
Told text answer = ((answer ≡ Err NotJson) × ((ms : Members) → ¬ IsObject text ms))
    ⊎ ((ms : Members) × IsObject text ms × Says (places_of ms) answer)

told : (text : List ℕ) (answer : Result (List JsonLeaf) FormatFault) → JsonFormatOf text answer → Told text answer
told text (Ok leaves) f = inr (f.members, f.is_object, (walks-leaves [] 0 (places_of f.members) leaves f.good, f.given))
told text (Err NotJson) f = inl (refl, f)
told text (Err (BadShape leaf)) (ms, is, fault) = inr (ms, is, fault-says (places_of ms) (BadShape leaf) fault)
told text (Err (Leaf leaf kind at)) (ms, is, fault) = inr (ms, is, fault-says (places_of ms) (Leaf leaf kind at) fault)
told text (Err (Missing need)) (ms, is, fault) = inr (ms, is, fault-says (places_of ms) (Missing need) fault)
told text (Err (UnknownSpecifier at)) (ms, is, fault) = absurd fault
told text (Err (Repeated at)) (ms, is, fault) = absurd fault
told text (Err (NoDelimiter at)) (ms, is, fault) = absurd fault
told text (Err (BadDirective at)) (ms, is, fault) = absurd fault
told text (Err NoMemory) (ms, is, fault) = absurd fault

-- an object has one list of ms
pub one-object : (text : List ℕ) (ms others : Members) → IsObject text ms → IsObject text others → ms ≡ others
one-object text ms others is are = let same : Some (object ms) ≡ Some (object others) = sym is.reads ∙ are.reads in cc

pub one-answer : OneList → (text : List ℕ) (a b : Result (List JsonLeaf) FormatFault) → JsonFormatOf text a → JsonFormatOf text b → a ≡ b
one-answer one text a b f g = both (told text a f) (told text b g)
  where
    both : Told text a → Told text b → a ≡ b
    both (inl h) (inl k) = h.0 ∙ sym k.0
    both (inl h) (inr (ms, is, says)) = absurd (h.1 ms is)
    both (inr (ms, is, says)) (inl k) = absurd (k.1 ms is)
    both (inr (ms, is, says)) (inr (others, are, say)) =
        one-says one (places_of others) a b (subst (λ (ms : Members). Says (places_of ms) a) (one-object text ms others is are) says) say

pub only-answer : OneList → (text : List ℕ) (result : Result (List JsonLeaf) FormatFault) → IfOk result (λ leaves. JsonFormatOf text (Ok leaves)) → IfErr result (λ fault. (fault ≡ NoMemory) ⊎ JsonFormatOf text (Err fault))
    → (answer : Result (List JsonLeaf) FormatFault) → JsonFormatOf text answer → (result ≡ Err NoMemory) ⊎ (result ≡ answer)
only-answer one text (Ok leaves) f e answer a = inr (one-answer one text (Ok leaves) answer f a)
only-answer one text (Err fault) f (inl none) answer a = inl (ap Err none)
only-answer one text (Err fault) f (inr e) answer a = inr (one-answer one text (Err fault) answer e a)

-- a text is an object or none
pub object-or-not : (text : List ℕ) → ((ms : Members) × IsObject text ms) ⊎ ((ms : Members) → ¬ IsObject text ms)
object-or-not text = spelled (is_utf8 text) refl
  where
    value : IsUtf8 text → (d : Option Data) → read text ≡ d → ((ms : Members) × IsObject text ms) ⊎ ((ms : Members) → ¬ IsObject text ms)
    value utf8 None e = inr (λ ms is. none ms (sym e ∙ is.reads))
      where
        none : (ms : Members) → None ≡ Some (object ms) → ⊥
        none ms f = cc
    value utf8 (Some (object ms)) e = inl (ms, record { utf8 = utf8; reads = e })
    value utf8 (Some seen.null) e = inr (λ ms is. other ms (sym e ∙ is.reads))
      where
        other : (ms : Members) → Some seen.null ≡ Some (object ms) → ⊥
        other ms f = cc
    value utf8 (Some (seen.boolean b)) e = inr (λ ms is. other ms (sym e ∙ is.reads))
      where
        other : (ms : Members) → Some (seen.boolean b) ≡ Some (object ms) → ⊥
        other ms f = cc
    value utf8 (Some (seen.number n)) e = inr (λ ms is. other ms (sym e ∙ is.reads))
      where
        other : (ms : Members) → Some (seen.number n) ≡ Some (object ms) → ⊥
        other ms f = cc
    value utf8 (Some (seen.string s)) e = inr (λ ms is. other ms (sym e ∙ is.reads))
      where
        other : (ms : Members) → Some (seen.string s) ≡ Some (object ms) → ⊥
        other ms f = cc
    value utf8 (Some (seen.array items)) e = inr (λ ms is. other ms (sym e ∙ is.reads))
      where
        other : (ms : Members) → Some (seen.array items) ≡ Some (object ms) → ⊥
        other ms f = cc

    spelled : (is : Bool) → is_utf8 text ≡ is → ((ms : Members) × IsObject text ms) ⊎ ((ms : Members) → ¬ IsObject text ms)
    spelled true e = value (IsUtf8-from_is_utf8 text e) (read text) refl
    spelled false e = inr (λ ms is. false≢true (sym e ∙ is_utf8-from_IsUtf8 text is.utf8))

-- a fault of a leaf's text as one of the places
pub leaf-fault : (places : List Place) (path : List PathStep) (text : List ℕ) (leaves : List JsonLeaf) (place : ℕ) → IsFirstBad places (spots.Leaf path text) leaves place
    → (fault : FormatFault) → IsFirstPlaced (all_items leaves) text fault → (told : FormatFault) × IsPlaceFault places told
leaf-fault places path text leaves place is (UnknownSpecifier at) first = (Leaf place kinds.Unknown at, (path, text, leaves, is, first))
leaf-fault places path text leaves place is (Repeated at) first = (Leaf place kinds.Repeated at, (path, text, leaves, is, first))
leaf-fault places path text leaves place is (NoDelimiter at) first = (Leaf place kinds.NoDelimiter at, (path, text, leaves, is, first))
leaf-fault places path text leaves place is (Missing need) first = absurd first.stands
leaf-fault places path text leaves place is (BadDirective at) first = absurd first.stands
leaf-fault places path text leaves place is NotJson first = absurd first.stands
leaf-fault places path text leaves place is (BadShape leaf) first = absurd first.stands
leaf-fault places path text leaves place is (Leaf leaf kind at) first = absurd first.stands
leaf-fault places path text leaves place is NoMemory first = absurd first.stands

abbrev Outcome : List Place → Type 0
Outcome places = ((leaves : List JsonLeaf) × AreLeaves [] places leaves) ⊎ ((fault : FormatFault) × IsPlaceFault places fault)

-- places are leaves, or have a first fault
every-place : EveryList → (done : List Place) (leaves : List JsonLeaf) (more : List Place) → AreLeaves [] done leaves → Outcome (done ++ more)
every-place every done leaves [] are = inl (leaves, subst (λ (ps : List Place). AreLeaves [] ps leaves) (sym (append-nil done)) are)
every-place every done leaves (spots.Bad ∷ more) are = inr (BadShape (length done), (leaves, record { before = done; after = more; split = refl; good = are; count = refl }))
every-place every done leaves (spots.Leaf path text ∷ more) are =
    answered (λ items has. every-place every (done ++ (spots.Leaf path text ∷ [])) (leaves ++ (record { path = path; items = items } ∷ [])) more (leaves-snoc [] done leaves path text items are has))
    (every (all_items leaves) text)
  where
    answered : ((items : List FormatItem) → ItemsOf (all_items leaves) text (Ok items) → Outcome ((done ++ (spots.Leaf path text ∷ [])) ++ more))
        → (answer : Result (List FormatItem) FormatFault) × ItemsOf (all_items leaves) text answer → Outcome (done ++ (spots.Leaf path text ∷ more))
    answered again (Ok items, has) = subst Outcome (append_assoc done (spots.Leaf path text ∷ []) more) (again items has)
    answered again (Err fault, first) =
        inr (leaf-fault (done ++ (spots.Leaf path text ∷ more)) path text leaves (length done) (record { before = done; after = more; split = refl; good = are; count = refl }) fault first)

-- the fault of a place is one of the text
pub place-fault : (text : List ℕ) (ms : Members) → IsObject text ms → (fault : FormatFault) → IsPlaceFault (places_of ms) fault → JsonFormatOf text (Err fault)
place-fault text ms is (BadShape leaf) h = (ms, is, h)
place-fault text ms is (Leaf leaf kind at) h = (ms, is, h)
place-fault text ms is (UnknownSpecifier at) h = absurd h
place-fault text ms is (Repeated at) h = absurd h
place-fault text ms is (NoDelimiter at) h = absurd h
place-fault text ms is (Missing need) h = absurd h
place-fault text ms is (BadDirective at) h = absurd h
place-fault text ms is NotJson h = absurd h
place-fault text ms is NoMemory h = absurd h

abbrev HasAnswer : List ℕ → Type 0
HasAnswer text = (answer : Result (List JsonLeaf) FormatFault) × JsonFormatOf text answer

whole-answer : (text : List ℕ) (ms : Members) (leaves : List JsonLeaf) → IsObject text ms → AreLeaves [] (places_of ms) leaves → HasAnswer text
whole-answer text ms leaves is good = given (list_any (gives Host) (all_items leaves)) (list_any (gives Date) (all_items leaves)) (list_any (gives Request) (all_items leaves)) refl refl refl
  where
    all : list_any (gives Host) (all_items leaves) ≡ true → list_any (gives Date) (all_items leaves) ≡ true → list_any (gives Request) (all_items leaves) ≡ true → (need : Needed) → list_any (gives need) (all_items leaves) ≡ true
    all h d r Host = h
    all h d r Date = d
    all h d r Request = r

    given : (host date request : Bool) → list_any (gives Host) (all_items leaves) ≡ host → list_any (gives Date) (all_items leaves) ≡ date → list_any (gives Request) (all_items leaves) ≡ request → HasAnswer text
    given false date request h d r = (Err (Missing Host), (ms, is, (leaves, good, h)))
    given true false request h d r = (Err (Missing Date), (ms, is, (leaves, good, (h, d))))
    given true true false h d r = (Err (Missing Request), (ms, is, (leaves, good, (h, d, r))))
    given true true true h d r = (Ok leaves, record { members = ms; is_object = is; good = good; given = all h d r })

pub every-answer : EveryList → (text : List ℕ) → HasAnswer text
every-answer every text = elim (object-or-not text) [
  | inl (ms, is) ↦ elim (every-place every [] [] (places_of ms) refl) [
    | inl (leaves, good) ↦ whole-answer text ms leaves is good
    | inr (fault, bad) ↦ (Err fault, place-fault text ms is fault bad)
  ]
  | inr none ↦ (Err NotJson, none)
]

split-at : (places : List Place) (n : ℕ) (x place : Place) → n < length places → get_or places n x ≡ place → places ≡ take n places ++ (place ∷ drop (n + 1) places)
split-at places n x place lt is = sym (take-append-drop n places) ∙ ap (λ (r : List Place). take n places ++ r) (drop_more places n x lt ∙ ap (λ (p : Place). p ∷ drop (n + 1) places) is)

-- the place at which reading stops
pub bad-at : (places : List Place) (n : ℕ) (x place : Place) (leaves : List JsonLeaf) → n < length places → get_or places n x ≡ place → AreLeaves [] (take n places) leaves → IsFirstBad places place leaves n
bad-at places n x place leaves lt is good = record { before = take n places; after = drop (n + 1) places; split = split-at places n x place lt is; good = good; count = omega (arith, length-take {A = Place}) }

-- the fault of the leaf at which reading stops
pub bad-leaf-at : (places : List Place) (n : ℕ) (x : Place) (path : List PathStep) (text : List ℕ) (leaves : List JsonLeaf) (given : List FormatItem) → n < length places → get_or places n x ≡ spots.Leaf path text
    → AreLeaves [] (take n places) leaves → given ≡ all_items leaves → (fault : FormatFault) → (fault ≡ NoMemory) ⊎ IsLeafFault given text n fault → (fault ≡ NoMemory) ⊎ IsPlaceFault places fault
bad-leaf-at places n x path text leaves given lt is good same fault (inl none) = inl none
bad-leaf-at places n x path text leaves given lt is good same (Leaf place kind at) (inr bad) =
    inr (subst (λ (k : ℕ). HasBadLeaf places k kind at) (sym bad.0)
    (path, text, leaves, bad-at places n x (spots.Leaf path text) leaves lt is good, subst (λ (items : List FormatItem). IsFirstPlaced items text (fault_at kind at)) same bad.1))
bad-leaf-at places n x path text leaves given lt is good same (UnknownSpecifier at) (inr bad) = absurd bad
bad-leaf-at places n x path text leaves given lt is good same (Repeated at) (inr bad) = absurd bad
bad-leaf-at places n x path text leaves given lt is good same (NoDelimiter at) (inr bad) = absurd bad
bad-leaf-at places n x path text leaves given lt is good same (Missing need) (inr bad) = absurd bad
bad-leaf-at places n x path text leaves given lt is good same (BadDirective at) (inr bad) = absurd bad
bad-leaf-at places n x path text leaves given lt is good same NotJson (inr bad) = absurd bad
bad-leaf-at places n x path text leaves given lt is good same (BadShape leaf) (inr bad) = absurd bad
bad-leaf-at places n x path text leaves given lt is good same NoMemory (inr bad) = absurd bad

-- one leaf more is read
pub leaf-more : (places : List Place) (n : ℕ) (x : Place) (path : List PathStep) (text : List ℕ) (leaves : List JsonLeaf) (given items : List FormatItem) → n < length places → get_or places n x ≡ spots.Leaf path text
    → AreLeaves [] (take n places) leaves → given ≡ all_items leaves → ItemsOf given text (Ok items)
    → AreLeaves [] (take (n + 1) places) (leaves ++ (record { path = path; items = items } ∷ []))
leaf-more places n x path text leaves given items lt is good same has =
    subst (λ (ps : List Place). AreLeaves [] ps (leaves ++ (record { path = path; items = items } ∷ [])))
    (sym (take_more places n x lt ∙ ap (λ (p : Place). take n places ++ (p ∷ [])) is))
    (leaves-snoc [] (take n places) leaves path text items good (subst (λ (g : List FormatItem). ItemsOf g text (Ok items)) same has))

-- the fault of the places that were found is one of the text
pub bad-place : (text : List ℕ) (ms : Members) → IsObject text ms → (all : List Place) (fault : FormatFault) → all ≡ places_of ms → (fault ≡ NoMemory) ⊎ IsPlaceFault all fault → (fault ≡ NoMemory) ⊎ JsonFormatOf text (Err fault)
bad-place text ms is all fault same (inl none) = inl none
bad-place text ms is all fault same (inr bad) = inr (place-fault text ms is fault (subst (λ (ps : List Place). IsPlaceFault ps fault) same bad))
