-- Reading this many parts of one kind, one after the other.
use Rattle.std.proofs.Common.{◌≡◌, ℕ, suc, ◌+◌, ◌-◌, ◌≤◌, ◌<◌, List, [], ◌∷◌, ◌++◌, refl, sym, subst, append_assoc, arith}
use Rattle.std.proofs.lemmas.List.{append-nil}
use Rattle.ga_codec.specs.declared.fault.CodecFault.{CodecFault}
use Rattle.ga_codec.specs.Steps.Parts.{Part, Cursor, Takes, Refuses, followed_by, times}
use Rattle.ga_codec.proofs.PartLaws.{IsPart}
use Rattle.ga_codec.proofs.Going.{At, begins, goes_on, opens, remade, ends, fails_here}
use Rattle.ga_codec.proofs.Numbers.{times_made, times_is_part}

-- this many of count items were read, which are these
abbrev pub HasRead : {A : Type 0} → Part A → ℕ → ℕ → List A → Cursor → Cursor → Type 0
HasRead part count i items old cur = At (times count part) (times (count - i) part) (λ rest. items ++ rest) old cur

pub none_read : {A : Type 0} (part : Part A) (count : ℕ) (cur : Cursor) → HasRead part count 0 [] cur cur
none_read {A = A} part count cur =
    let same : count ≡ count - 0 = omega arith in
    subst (λ (n : ℕ). At (times count part) (times n part) (λ (rest : List A). [] ++ rest) cur cur) same
    (begins (times count part) (times count part) (λ (rest : List A). [] ++ rest) cur (record { completes = λ xs f. (f, refl); comes = λ xs f. (xs, f, refl) }))

-- the next item comes, and the others after it
next_item : {A : Type 0} (part : Part A) (count i : ℕ) (items : List A) (old cur : Cursor) → i < count → HasRead part count i items old cur
    → At (times count part) (followed_by part (λ _. times (count - (i + 1)) part)) (λ v. items ++ (v.0 ∷ v.1)) old cur
next_item {A = A} part count i items old cur lt at =
    let same : count - i ≡ suc (count - (i + 1)) = omega arith in
    let at' = subst (λ (n : ℕ). At (times count part) (times n part) (λ (rest : List A). items ++ rest) old cur) same at in
    opens (followed_by part (λ _. times (count - (i + 1)) part)) (λ v. v.0 ∷ v.1) at' (times_made part (count - (i + 1)))

pub one_more_read : {A : Type 0} (part : Part A) (count i : ℕ) (items : List A) (old cur new : Cursor) (item : A) → IsPart part → i < count
    → HasRead part count i items old cur → Takes part item cur new → HasRead part count (i + 1) (items ++ item ∷ []) old new
one_more_read part count i items old cur new item p lt at t =
    remade (λ rest. (items ++ item ∷ []) ++ rest) (goes_on (λ _. times (count - (i + 1)) part) (next_item part count i items old cur lt at) p t) (λ rest. sym (append_assoc items (item ∷ []) rest))

pub item_fails : {A : Type 0} (part : Part A) (count i : ℕ) (items : List A) (old cur : Cursor) (fault : CodecFault) → IsPart part → i < count
    → HasRead part count i items old cur → Refuses part cur fault → Refuses (times count part) old fault
item_fails part count i items old cur fault p lt at r =
    fails_here part (λ _. times (count - (i + 1)) part) fault (next_item part count i items old cur lt at) p (λ _ _. times_is_part part p (count - (i + 1))) r

pub all_read : {A : Type 0} (part : Part A) (count i : ℕ) (items : List A) (old cur : Cursor) → count ≤ i
    → HasRead part count i items old cur → Takes (times count part) items old cur
unfolding times
all_read {A = A} part count i items old cur le at =
    let none : count - i ≡ 0 = omega arith in
    let at' = subst (λ (n : ℕ). At (times count part) (times n part) (λ (rest : List A). items ++ rest) old cur) none at in
    let t : Takes (times 0 part) [] cur cur = record { fits = (refl, tt); bytes = refl; place = omega arith } in
    subst (λ (xs : List A). Takes (times count part) xs old cur) (append-nil items) (ends at' t)
