-- Reading goes over the items of a format from the front, and sets the part that each gives.
use Rattle.std.proofs.Common.{◌≡◌, ◌+◌, ◌*◌, ◌-◌, ◌<◌, ◌≤◌, ℕ, zero, suc, Bool, true, false, List, [], ◌∷◌, ◌++◌, Option, Some, None, length, take, drop, get_or, ap, sym, ◌∙◌, refl, subst, arith, append_assoc}
use Rattle.std.specs.Prelude.{count_by, ◌==◌, ◌⊎◌}
use Rattle.std.proofs.Common.{inl, inr, cond}
use Rattle.std.specs.Option.{option_map_or}
use Rattle.std.specs.Str.{str_to_ascii_lowercase}
use Rattle.std.specs.Char.{to_ascii_lowercase}
use Rattle.std.proofs.lemmas.List.{take_at, drop_at, take-append-drop, drop_more, length-map, length-append, append-nil}
use Rattle.ga_dates.proofs.PartLemmas.{count-cons, is_part-same}
use Rattle.ga_dates.proofs.NumberLemmas.{Some-injective}
use Rattle.std.proofs.lemmas.Option.{slice_get_within, get_or_from_slice_get}
use Rattle.ga_dates.specs.declared.item.Item.{Item}
use Rattle.ga_dates.specs.declared.item.Item.TheVariants.{Literal, Day, SpacedDay, Month, MonthName, Year, ShortYear, Hour, Minute, Second}
use Rattle.ga_dates.specs.declared.item.Part.{Part}
use Rattle.ga_dates.specs.declared.item.Part.TheVariants.{Day as PartDay, Month as PartMonth, Year as PartYear, Hour as PartHour, Minute as PartMinute, Second as PartSecond}
use Rattle.ga_dates.specs.declared.date_parts.DateParts.{DateParts}
use Rattle.ga_dates.specs.declared.kind.Kind.TheVariants.{Date, Time}
use Rattle.ga_dates.specs.Calendar.{IsDay, number_of_day}
use Rattle.ga_dates.specs.Items.{part_of, is_part, gives, AreOnce, IsComplete, number_at, number_of}
use Rattle.ga_dates.specs.Steps.Reading.{width_of, with_part, with_number}
use Rattle.ga_dates.specs.Spelling.{SpellsNumber, IsMonthName, month_names, Spells}
use Rattle.ga_dates.specs.Steps.Reading.{BeginsWith, AreSameParts}

-- from the parts p the items of the text's front make g, and leave the rest
abbrev pub Reads : List Item → List ℕ → DateParts → DateParts → List ℕ → Type 0
Reads [] text p g rest = (g ≡ p) × (rest ≡ text)
Reads (item ∷ items) text p g rest =
    (piece more : List ℕ) × (n : ℕ) × (text ≡ piece ++ more) × SpellsNumber item n piece × Reads items more (with_number item n p) g rest

length-month : (k : ℕ) → k < 12 → length (get_or month_names k []) ≡ 3
length-month zero h = refl
length-month (suc zero) h = refl
length-month (suc (suc zero)) h = refl
length-month (suc (suc (suc zero))) h = refl
length-month (suc (suc (suc (suc zero)))) h = refl
length-month (suc (suc (suc (suc (suc zero))))) h = refl
length-month (suc (suc (suc (suc (suc (suc zero)))))) h = refl
length-month (suc (suc (suc (suc (suc (suc (suc zero))))))) h = refl
length-month (suc (suc (suc (suc (suc (suc (suc (suc zero)))))))) h = refl
length-month (suc (suc (suc (suc (suc (suc (suc (suc (suc zero))))))))) h = refl
length-month (suc (suc (suc (suc (suc (suc (suc (suc (suc (suc zero)))))))))) h = refl
length-month (suc (suc (suc (suc (suc (suc (suc (suc (suc (suc (suc zero))))))))))) h = refl
length-month (suc (suc (suc (suc (suc (suc (suc (suc (suc (suc (suc (suc k)))))))))))) h = absurd (omega arith)

length-name : (month : ℕ) (piece : List ℕ) → IsMonthName month piece → length piece ≡ 3
length-name month piece h =
    let within : month - 1 < 12 = slice_get_within month_names (month - 1) (str_to_ascii_lowercase piece) h.1 in
    let is : get_or month_names (month - 1) [] ≡ str_to_ascii_lowercase piece = get_or_from_slice_get month_names (month - 1) (str_to_ascii_lowercase piece) [] h.1 in
    sym (length-map piece to_ascii_lowercase) ∙ (sym (ap length is) ∙ length-month (month - 1) within)

-- a spelling has its item's width
pub length-spelling : (item : Item) (n : ℕ) (piece : List ℕ) → SpellsNumber item n piece → length piece ≡ width_of item
length-spelling (Literal byte) n piece h = ap length h.0
length-spelling Day n piece h = ap length h.1
length-spelling SpacedDay n piece (inl h) = ap length h.1
length-spelling SpacedDay n piece (inr h) = ap length h.1
length-spelling Month n piece h = ap length h.1
length-spelling MonthName n piece h = length-name n piece h
length-spelling Year n piece h = ap length h.1
length-spelling ShortYear n piece h = ap length h.1.1
length-spelling Hour n piece h = ap length h.0.1
length-spelling Minute n piece h = ap length h.0.1
length-spelling Second n piece h = ap length h.0.1

-- one step forth: what the items make, the other items make after the first
pub step_forth : (item : Item) (items : List Item) (text : List ℕ) (p g : DateParts) (rest : List ℕ) (n : ℕ)
    → ((m : ℕ) → SpellsNumber item m (take (width_of item) text) → Some n ≡ Some m)
    → Reads (item ∷ items) text p g rest → Reads items (drop (width_of item) text) (with_number item n p) g rest
step_forth item items text p g rest n only (piece, more, m, e, spells, reads) =
    let wide : length piece ≡ width_of item = length-spelling item m piece spells in
    let front : take (width_of item) text ≡ piece = ap (take (width_of item)) e ∙ take_at piece more (width_of item) wide in
    let back : drop (width_of item) text ≡ more = ap (drop (width_of item)) e ∙ drop_at piece more (width_of item) wide in
    let same : n ≡ m = Some-injective (only m (subst (λ (s : List ℕ). SpellsNumber item m s) (sym front) spells)) in
    subst (λ (s : List ℕ). Reads items s (with_number item n p) g rest) (sym back)
    (subst (λ (k : ℕ). Reads items more (with_number item k p) g rest) (sym same) reads)

-- and one back
pub step_back : (item : Item) (items : List Item) (text : List ℕ) (p g : DateParts) (rest : List ℕ) (n : ℕ)
    → SpellsNumber item n (take (width_of item) text)
    → Reads items (drop (width_of item) text) (with_number item n p) g rest → Reads (item ∷ items) text p g rest
step_back item items text p g rest n spells reads =
    (take (width_of item) text, drop (width_of item) text, n, sym (take-append-drop (width_of item) text), spells, reads)

number_at-with_same : (q r : Part) (n : ℕ) (p : DateParts) → is_part q r ≡ true → number_at q (with_part r n p) ≡ n
number_at-with_same PartDay PartDay n p h = refl
number_at-with_same PartMonth PartMonth n p h = refl
number_at-with_same PartYear PartYear n p h = refl
number_at-with_same PartHour PartHour n p h = refl
number_at-with_same PartMinute PartMinute n p h = refl
number_at-with_same PartSecond PartSecond n p h = refl
number_at-with_same _ _ n p h = cc

number_at-with_other : (q r : Part) (n : ℕ) (p : DateParts) → is_part q r ≡ false → number_at q (with_part r n p) ≡ number_at q p
number_at-with_other PartDay PartDay n p h = cc
number_at-with_other PartMonth PartMonth n p h = cc
number_at-with_other PartYear PartYear n p h = cc
number_at-with_other PartHour PartHour n p h = cc
number_at-with_other PartMinute PartMinute n p h = cc
number_at-with_other PartSecond PartSecond n p h = cc
number_at-with_other _ _ n p h = refl

same_number : (q r : Part) (f : DateParts) → is_part q r ≡ true → number_at r f ≡ number_at q f
same_number PartDay PartDay f h = refl
same_number PartMonth PartMonth f h = refl
same_number PartYear PartYear f h = refl
same_number PartHour PartHour f h = refl
same_number PartMinute PartMinute f h = refl
same_number PartSecond PartSecond f h = refl
same_number _ _ f h = cc

-- the number that is set stays, where no later item gives the part
number_stays : (o : Option Part) (n : ℕ) (p g : DateParts) (later : Part → ℕ)
    → (o ≡ None → n ≡ 0)
    → ((q : Part) → cond (option_map_or (is_part q) o false) 1 0 + later q ≤ 1)
    → ((q : Part) → later q ≡ 0 → number_at q g ≡ number_at q (option_map_or (λ r. with_part r n p) o p))
    → option_map_or (λ r. number_at r g) o 0 ≡ n
number_stays None n p g later zero_else once kept = sym (zero_else refl)
number_stays (Some q) n p g later zero_else once kept =
    let given : ◌≡◌ {A = ℕ} (cond (is_part q q) 1 0) 1 = ap (λ (b : Bool). cond b 1 0) (is_part-same q) in
    let none : later q ≡ 0 = omega (arith, once q, given) in
    kept q none ∙ number_at-with_same q q n p (is_part-same q)

-- an item that doesn't give a part keeps its number
others_stay : (o : Option Part) (n : ℕ) (p : DateParts) (q : Part) → option_map_or (is_part q) o false ≡ false
    → number_at q (option_map_or (λ r. with_part r n p) o p) ≡ number_at q p
others_stay None n p q h = refl
others_stay (Some r) n p q h = number_at-with_other q r n p h

-- an item that gives a part sets its number
one_is_set : (o : Option Part) (f p : DateParts) (q : Part) → option_map_or (is_part q) o false ≡ true
    → number_at q (option_map_or (λ r. with_part r (option_map_or (λ s. number_at s f) o 0) p) o p) ≡ number_at q f
one_is_set None f p q h = cc
one_is_set (Some r) f p q h = number_at-with_same q r (number_at r f) p h ∙ same_number q r f h

literal_is_zero : (item : Item) (n : ℕ) (piece : List ℕ) → SpellsNumber item n piece → part_of item ≡ None → n ≡ 0
literal_is_zero (Literal byte) n piece h e = h.1
literal_is_zero _ n piece h e = cc

once_counted : (item : Item) (items : List Item) → AreOnce (item ∷ items) → (q : Part) → cond (gives q item) 1 0 + count_by (gives q) items ≤ 1
once_counted item items once q = omega (arith, once q, count-cons q item items)

once_later : (item : Item) (items : List Item) → AreOnce (item ∷ items) → AreOnce items
once_later item items once q = omega (arith, once q, count-cons q item items)

none_given : (b : Bool) (later : ℕ) → cond b 1 0 + later ≡ 0 → (b ≡ false) × (later ≡ 0)
none_given true later h = absurd (omega arith)
none_given false later h = (refl, omega arith)

given_now : (b : Bool) (later : ℕ) → 1 ≤ cond b 1 0 + later → cond b 1 0 + later ≤ 1 → (1 ≤ later) ⊎ ((b ≡ true) × (later ≡ 0))
given_now true later low high = inr (refl, omega arith)
given_now false later low high = inl (omega arith)

-- what is made is spelt by the front, and a part that no item gives is as it was
pub reads_found : (items : List Item) (text : List ℕ) (p g : DateParts) (rest : List ℕ) → AreOnce items → Reads items text p g rest
    → BeginsWith items g text rest × ((q : Part) → count_by (gives q) items ≡ 0 → number_at q g ≡ number_at q p)
reads_found [] text p g rest once (same, over) = (([], sym over, refl), λ q h. ap (number_at q) same)
reads_found (item ∷ items) text p g rest once (piece, more, n, e, spells, reads) =
    let later = reads_found items more (with_number item n p) g rest (once_later item items once) reads in
    let number : number_of item g ≡ n = number_stays (part_of item) n p g (λ q. count_by (gives q) items) (literal_is_zero item n piece spells) (once_counted item items once) later.1 in (
      (
        piece ++ later.0.0,
        e ∙ (ap (λ (s : List ℕ). piece ++ s) later.0.1 ∙ sym (append_assoc piece later.0.0 rest)),
        (piece, later.0.0, refl, subst (λ (k : ℕ). SpellsNumber item k piece) (sym number) spells, later.0.2),
      ),
      λ q h. let none = none_given (gives q item) (count_by (gives q) items) (sym (count-cons q item items) ∙ h) in
          later.1 q none.1 ∙ others_stay (part_of item) n p q none.0,
    )

-- what the front spells is made
pub reads_only : (items : List Item) (f : DateParts) (front rest text : List ℕ) (p : DateParts) → AreOnce items → text ≡ front ++ rest → Spells items f front
    → (g : DateParts) × Reads items text p g rest × AreSameParts items g f
reads_only [] f front rest text p once e spells =
    (p, (refl, sym (e ∙ ap (λ (s : List ℕ). s ++ rest) spells)), λ q h. absurd (omega (arith, h)))
reads_only (item ∷ items) f front rest text p once e (piece, more, e', spells, later) =
    let tail = reads_only items f more rest (more ++ rest) (with_number item (number_of item f) p) (once_later item items once) refl later in
    let parted : text ≡ piece ++ (more ++ rest) = e ∙ (ap (λ (s : List ℕ). s ++ rest) e' ∙ append_assoc piece more rest) in (
      tail.0,
      (piece, more ++ rest, number_of item f, parted, spells, tail.1),
      λ q h. elim (given_now (gives q item) (count_by (gives q) items) (omega (arith, h, count-cons q item items)) (once_counted item items once q)) [
        | inl given ↦ tail.2 q given
        | inr now ↦ (reads_found items (more ++ rest) (with_number item (number_of item f) p) tail.0 rest (once_later item items once) tail.1).1 q now.1
            ∙ one_is_set (part_of item) f p q now.0
      ],
    )

-- what the first item needs of the text
pub needs_width : (item : Item) (items : List Item) (text : List ℕ) (p g : DateParts) (rest : List ℕ) → Reads (item ∷ items) text p g rest → width_of item ≤ length text
needs_width item items text p g rest (piece, more, m, e, spells, reads) =
    let wide = length-spelling item m piece spells in
    omega (arith, wide, ap length e, length-append piece more)

pub needs_number : (item : Item) (items : List Item) (w : ℕ) (text s : List ℕ) (p g : DateParts) (rest : List ℕ) → w ≡ width_of item → s ≡ take w text
    → Reads (item ∷ items) text p g rest → (m : ℕ) × SpellsNumber item m s
needs_number item items w text s p g rest width piece_is (piece, more, m, e, spells, reads) =
    let front : s ≡ piece = piece_is ∙ (ap (λ (k : ℕ). take k text) width ∙ (ap (take (width_of item)) e ∙ take_at piece more (width_of item) (length-spelling item m piece spells))) in
    (m, subst (λ (x : List ℕ). SpellsNumber item m x) (sym front) spells)

-- the item at a place, and those after it
pub item_at : (items : List Item) (i : ℕ) (text : List ℕ) (p g : DateParts) (rest : List ℕ) → i < length items
    → Reads (drop i items) text p g rest → Reads (get_or items i (Literal 0) ∷ drop (i + 1) items) text p g rest
item_at items i text p g rest lt reads = subst (λ (xs : List Item). Reads xs text p g rest) (drop_more items i (Literal 0) lt) reads

-- the loop's step, whose text, piece, rest and parts are t, s, more and q
pub forth_more : (items : List Item) (i w n : ℕ) (t s more : List ℕ) (p q g : DateParts) (rest : List ℕ) → i < length items
    → w ≡ width_of (get_or items i (Literal 0)) → s ≡ take w t → more ≡ drop w t → q ≡ with_number (get_or items i (Literal 0)) n p
    → ((m : ℕ) → SpellsNumber (get_or items i (Literal 0)) m s → Some n ≡ Some m)
    → Reads (drop i items) t p g rest → Reads (drop (i + 1) items) more q g rest
forth_more items i w n t s more p q g rest lt width piece back set only reads =
    let item = get_or items i (Literal 0) in
    let others = drop (i + 1) items in
    let front : s ≡ take (width_of item) t = piece ∙ ap (λ (k : ℕ). take k t) width in
    let behind : more ≡ drop (width_of item) t = back ∙ ap (λ (k : ℕ). drop k t) width in
    let after = step_forth item others t p g rest n (λ m spells. only m (subst (λ (x : List ℕ). SpellsNumber item m x) (sym front) spells)) (item_at items i t p g rest lt reads) in
    subst (λ (x : List ℕ). Reads others x q g rest) (sym behind) (subst (λ (x : DateParts). Reads others (drop (width_of item) t) x g rest) (sym set) after)

pub back_more : (items : List Item) (i w n : ℕ) (t s more : List ℕ) (p q g : DateParts) (rest : List ℕ) → i < length items
    → w ≡ width_of (get_or items i (Literal 0)) → s ≡ take w t → more ≡ drop w t → q ≡ with_number (get_or items i (Literal 0)) n p
    → SpellsNumber (get_or items i (Literal 0)) n s
    → Reads (drop (i + 1) items) more q g rest → Reads (drop i items) t p g rest
back_more items i w n t s more p q g rest lt width piece back set spells reads =
    let item = get_or items i (Literal 0) in
    let others = drop (i + 1) items in
    let front : s ≡ take (width_of item) t = piece ∙ ap (λ (k : ℕ). take k t) width in
    let behind : more ≡ drop (width_of item) t = back ∙ ap (λ (k : ℕ). drop k t) width in
    let after = subst (λ (x : DateParts). Reads others (drop (width_of item) t) x g rest) set (subst (λ (x : List ℕ). Reads others x q g rest) behind reads) in
    subst (λ (xs : List Item). Reads xs t p g rest) (sym (drop_more items i (Literal 0) lt))
    (step_back item others t p g rest n (subst (λ (x : List ℕ). SpellsNumber item n x) front spells) after)

-- parts that agree where the format gives them are the same day
pub same_day : (items : List Item) (p f : DateParts) → IsComplete Date items → AreSameParts items p f → IsDay f.year f.month f.day
    → IsDay p.year p.month p.day × (number_of_day p.year p.month p.day ≡ number_of_day f.year f.month f.day)
same_day items p f complete same is_day =
    let year : p.year ≡ f.year = same PartYear (omega (arith, complete.needed.1.1.0)) in
    let month : p.month ≡ f.month = same PartMonth (omega (arith, complete.needed.1.0)) in
    let day : p.day ≡ f.day = same PartDay (omega (arith, complete.needed.0)) in (
      subst (λ (y : ℕ). IsDay y p.month p.day) (sym year) (subst (λ (m : ℕ). IsDay f.year m p.day) (sym month) (subst (λ (d : ℕ). IsDay f.year f.month d) (sym day) is_day)),
      omega arith,
    )

-- and the same minute
pub same_minute : (items : List Item) (p f : DateParts) → IsComplete Time items → AreSameParts items p f → 60 * p.hour + p.minute ≡ 60 * f.hour + f.minute
same_minute items p f complete same =
    let hour : p.hour ≡ f.hour = same PartHour (omega (arith, complete.needed.0)) in
    let minute : p.minute ≡ f.minute = same PartMinute (omega (arith, complete.needed.1.0)) in
    omega arith

pub both_same : {a b x y : ℕ} → Some a ≡ Some x → Some b ≡ Some y → ◌≡◌ {A = Option (ℕ × ℕ)} (Some (a, b)) (Some (x, y))
both_same {a = a} {b = b} {x = x} {y = y} first second =
    let one : a ≡ x = Some-injective first in
    let two : b ≡ y = Some-injective second in
    let P : ℕ → ℕ → Type 0 = λ n m. ◌≡◌ {A = Option (ℕ × ℕ)} (Some (a, b)) (Some (n, m)) in
    subst (λ (n : ℕ). P n y) one (subst (λ (m : ℕ). P a m) two refl)

-- a text whose front the items spell begins with it
pub begins_front : (items items' : List Item) (f : DateParts) (front rest text : List ℕ) → text ≡ front ++ rest → items' ≡ items → Spells items f front → BeginsWith items' f text rest
begins_front items items' f front rest text parted same spells = (front, parted, subst (λ (xs : List Item). Spells xs f front) (sym same) spells)

-- a text that the items spell begins with itself, and nothing is left
pub begins_whole : (items items' : List Item) (f : DateParts) (text : List ℕ) → items' ≡ items → Spells items f text → BeginsWith items' f text []
begins_whole items items' f text same spells = (text, sym (append-nil text), subst (λ (xs : List Item). Spells xs f text) (sym same) spells)

pub same_parts : (items items' : List Item) (p f : DateParts) → items' ≡ items → AreSameParts items' p f → AreSameParts items p f
same_parts items items' p f same h = subst (λ (xs : List Item). AreSameParts xs p f) same h

-- an empty text has no length
pub not_empty : (s : List ℕ) → s ≡ [] → (length s == 0) ≡ false → ⊥
not_empty [] e h = cc
not_empty (x ∷ s) e h = cc
