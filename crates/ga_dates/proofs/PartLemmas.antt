-- How often items give a part.
use Rattle.std.proofs.Common.{◌≡◌, ◌+◌, ◌≤◌, ℕ, Bool, true, false, List, [], ◌∷◌, ◌++◌, Option, Some, None, ap, sym, ◌∙◌, refl, subst, arith, cond, inl, inr, zero, suc}
use Rattle.std.proofs.lemmas.Bool.{false≢true}
use Rattle.std.specs.Prelude.{count_by, ◌⊎◌, ◌&&◌, ◌||◌}
use Rattle.std.specs.List.{list_any, list_all, AllByRecursion}
use Rattle.std.specs.Option.{option_map_or}
use Rattle.std.proofs.lemmas.List.Sums.{sum_by-cons, sum_by-append}
use Rattle.ga_dates.specs.declared.item.Item.{Item}
use Rattle.ga_dates.specs.declared.item.Part.{Part}
use Rattle.ga_dates.specs.declared.item.Part.TheVariants.{Day as PartDay, Month as PartMonth, Year as PartYear, Hour as PartHour, Minute as PartMinute, Second as PartSecond}
use Rattle.ga_dates.specs.declared.kind.Kind.{Kind}
use Rattle.ga_dates.specs.Items.{part_of, is_part, gives, AreOnce, IsComplete, needed_parts}
use Rattle.ga_dates.specs.Steps.Compile.{is_given}
use Rattle.ga_dates.specs.Grammar.{GivesAgain}

pub count-cons : (q : Part) (item : Item) (items : List Item) → count_by (gives q) (item ∷ items) ≡ cond (gives q item) 1 0 + count_by (gives q) items
count-cons q item items = sum_by-cons (λ (i : Item). cond (gives q i) 1 0) item items

pub count-append : (q : Part) (items more : List Item) → count_by (gives q) (items ++ more) ≡ count_by (gives q) items + count_by (gives q) more
count-append q items more = sum_by-append (λ (i : Item). cond (gives q i) 1 0) items more

-- a part is given exactly where some item gives it
counts_more : (b : Bool) (any : Bool) (count : ℕ) → (any ≡ true → 1 ≤ count) → (b || any) ≡ true → 1 ≤ cond b 1 0 + count
counts_more true any count later h = omega arith
counts_more false any count later h = omega (arith, later h)

counts_none : (b : Bool) (any : Bool) (count : ℕ) → (any ≡ false → count ≡ 0) → (b || any) ≡ false → cond b 1 0 + count ≡ 0
counts_none true any count later h = cc
counts_none false any count later h = omega (arith, later h)

pub counted : (q : Part) (items : List Item) → list_any (gives q) items ≡ true → 1 ≤ count_by (gives q) items
counted q [] h = cc
counted q (item ∷ items) h = omega (arith, count-cons q item items, counts_more (gives q item) (list_any (gives q) items) (count_by (gives q) items) (counted q items) h)

pub not_counted : (q : Part) (items : List Item) → list_any (gives q) items ≡ false → count_by (gives q) items ≡ 0
not_counted q [] h = refl
not_counted q (item ∷ items) h = count-cons q item items ∙ counts_none (gives q item) (list_any (gives q) items) (count_by (gives q) items) (not_counted q items) h

pub true_or_false : (b : Bool) → (b ≡ true) ⊎ (b ≡ false)
true_or_false true = inl refl
true_or_false false = inr refl

pub any_from_count : (q : Part) (items : List Item) → 1 ≤ count_by (gives q) items → list_any (gives q) items ≡ true
any_from_count q items h = elim (true_or_false (list_any (gives q) items)) [ inl e ↦ e | inr e ↦ let none = not_counted q items e in absurd (omega arith) ]

-- an item that gives a part that is given before
given_part : (before : List Item) (o : Option Part) → option_map_or (λ q. list_any (gives q) before) o false ≡ true
    → (q : Part) × (o ≡ Some q) × (1 ≤ count_by (gives q) before)
given_part before None h = cc
given_part before (Some q) h = (q, refl, counted q before h)

-- a part is itself
pub is_part-same : (q : Part) → is_part q q ≡ true
is_part-same PartDay = refl
is_part-same PartMonth = refl
is_part-same PartYear = refl
is_part-same PartHour = refl
is_part-same PartMinute = refl
is_part-same PartSecond = refl

same_part : (q r : Part) → is_part q r ≡ true → q ≡ r
same_part PartDay PartDay h = refl
same_part PartMonth PartMonth h = refl
same_part PartYear PartYear h = refl
same_part PartHour PartHour h = refl
same_part PartMinute PartMinute h = refl
same_part PartSecond PartSecond h = refl
same_part _ _ h = cc

part_given : (q : Part) (before : List Item) (o : Option Part) → option_map_or (is_part q) o false ≡ true → 1 ≤ count_by (gives q) before
    → option_map_or (λ r. list_any (gives r) before) o false ≡ true
part_given q before None h one = cc
part_given q before (Some r) h one =
    subst (λ (p : Part). list_any (gives p) before ≡ true) (same_part q r h) (any_from_count q before one)

given_by : (q : Part) (o : Option Part) → o ≡ Some q → option_map_or (is_part q) o false ≡ true
given_by q None e = cc
given_by q (Some r) e = subst (λ (o : Option Part). option_map_or (is_part q) o false ≡ true) (sym e) (is_part-same q)

or_later : (b any : Bool) → (b || any) ≡ true → b ≡ false → any ≡ true
or_later true any h e = cc
or_later false any h e = h

or_none : (b any : Bool) → (b || any) ≡ false → (b ≡ false) × (any ≡ false)
or_none true any h = cc
or_none false any h = (refl, h)

-- some item that is added gives a part again exactly where the two lists share a part
pub again_found : (before added : List Item) → list_any (is_given before) added ≡ true → GivesAgain before added
again_found before [] h = cc
again_found before (item ∷ more) h =
    elim (true_or_false (is_given before item)) [
      | inl e ↦
          let given = given_part before (part_of item) e in
          let now : ◌≡◌ {A = ℕ} (cond (gives given.0 item) 1 0) 1 = ap (λ (b : Bool). cond b 1 0) (given_by given.0 (part_of item) given.1) in
          (given.0, given.2, omega (arith, count-cons given.0 item more, now))
      | inr e ↦
          let later = again_found before more (or_later (is_given before item) (list_any (is_given before) more) h e) in
          (later.0, later.1, omega (arith, count-cons later.0 item more, later.2))
    ]

pub not_again : (before added : List Item) → list_any (is_given before) added ≡ false → GivesAgain before added → ⊥
not_again before [] h (q, one, none) = omega (arith, none)
not_again before (item ∷ more) h (q, one, other) =
    let none = or_none (is_given before item) (list_any (is_given before) more) h in
    elim (true_or_false (gives q item)) [
      | inl e ↦ let given = part_given q before (part_of item) e one in false≢true (sym none.0 ∙ given)
      | inr e ↦
          let zero : ◌≡◌ {A = ℕ} (cond (gives q item) 1 0) 0 = ap (λ (b : Bool). cond b 1 0) e in
          not_again before more none.1 (q, one, omega (arith, count-cons q item more, zero, other))
    ]

pub again : (before added : List Item) (b : Bool) → b ≡ list_any (is_given before) added → (b ≡ true → GivesAgain before added) × (GivesAgain before added → b ≡ true)
again before added b e = (
  λ h. again_found before added (sym e ∙ h),
  λ h. elim (true_or_false b) [ inl given ↦ given | inr none ↦ absurd (not_again before added (sym e ∙ none) h) ],
)

and_both : (a b : Bool) → (a && b) ≡ true → (a ≡ true) × (b ≡ true)
and_both true b h = (refl, h)
and_both false b h = cc

and_later : (a b : Bool) → (a && b) ≡ false → a ≡ true → b ≡ false
and_later true b h e = h
and_later false b h e = cc

-- each of the parts is given once exactly where each is given
all_given : (items : List Item) (qs : List Part) → AreOnce items → list_all (λ q. list_any (gives q) items) qs ≡ true
    → AllByRecursion (λ q. count_by (gives q) items ≡ 1) qs
all_given items [] once h = tt
all_given items (q ∷ qs) once h =
    let both = and_both (list_any (gives q) items) (list_all (λ r. list_any (gives r) items) qs) h in
    (omega (arith, counted q items both.0, once q), all_given items qs once both.1)

not_all_given : (items : List Item) (qs : List Part) → list_all (λ q. list_any (gives q) items) qs ≡ false
    → AllByRecursion (λ q. count_by (gives q) items ≡ 1) qs → ⊥
not_all_given items [] h all = false≢true (sym h)
not_all_given items (q ∷ qs) h (one, all) =
    let given = any_from_count q items (omega arith) in
    not_all_given items qs (and_later (list_any (gives q) items) (list_all (λ r. list_any (gives r) items) qs) h given) all

pub complete : (kind : Kind) (items : List Item) → AreOnce items → list_all (λ q. list_any (gives q) items) (needed_parts kind) ≡ true → IsComplete kind items
complete kind items once h = record { once = once; needed = all_given items (needed_parts kind) once h }

pub incomplete : (kind : Kind) (items : List Item) → list_all (λ q. list_any (gives q) items) (needed_parts kind) ≡ false → ¬ IsComplete kind items
incomplete kind items h all = not_all_given items (needed_parts kind) h all.needed

-- lists in which no part is given twice
zero_or_more : (n : ℕ) → (n ≡ 0) ⊎ (1 ≤ n)
zero_or_more zero = inl refl
zero_or_more (suc n) = inr (omega arith)

pub once_append : (items more : List Item) → AreOnce items → AreOnce more → ¬ GivesAgain items more → AreOnce (items ++ more)
once_append items more once once' new q =
    elim (zero_or_more (count_by (gives q) items)) [
      | inl none ↦ omega (arith, count-append q items more, once' q)
      | inr some ↦ elim (zero_or_more (count_by (gives q) more)) [
        | inl none ↦ omega (arith, count-append q items more, once q)
        | inr other ↦ absurd (new (q, some, other))
      ]
    ]

pub once_front : (items more : List Item) → AreOnce (items ++ more) → AreOnce items
once_front items more once q = omega (arith, count-append q items more, once q)

pub once_new : (items more : List Item) → AreOnce (items ++ more) → ¬ GivesAgain items more
once_new items more once (q, some, other) = omega (arith, count-append q items more, once q)
