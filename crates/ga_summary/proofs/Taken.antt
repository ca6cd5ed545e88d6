-- Rows that are taken from the last one on, and put in order again.
use Rattle.std.proofs.Common.{◌≡◌, ◌++◌, List, [], ◌∷◌, All, length, map, reverse, refl, sym, ap, ◌∙◌, append_assoc}
use Rattle.std.proofs.lemmas.List.{map-append, nil_from_length, reverse-append}
use Rattle.std.proofs.lemmas.List.Sorted.{All-permutation, IsPermutation-reverse}
use Rattle.std.proofs.lemmas.Grind.{reverse_onto}

map-reverse : {X Y : Type 0} (f : X → Y) (xs : List X) → map f (reverse xs) ≡ reverse (map f xs)
map-reverse f [] = refl
map-reverse f (x ∷ xs) =
    ap (map f) (reverse_onto xs x []) ∙ map-append f (reverse xs) (x ∷ []) ∙ ap (λ ys. ys ++ f x ∷ []) (map-reverse f xs) ∙ sym (reverse_onto (map f xs) (f x) [])

-- the last of those that are left stands in front of those that were made before
pub taken : {X Y Z : Type 0} (f : X → Z) (g : Y → Z) (left : List X) (made : List Y) (x : X) (y : Y) {old : List X} {next : List Y} {all : List Z}
    → old ≡ left ++ x ∷ [] → next ≡ made ++ y ∷ [] → g y ≡ f x → map f old ++ reverse (map g made) ≡ all → map f left ++ reverse (map g next) ≡ all
taken f g left made x y {old = old} olds nexts same before =
    let last : map f left ++ g y ∷ [] ≡ map f old = ap (λ z. map f left ++ z ∷ []) same ∙ sym (ap (map f) olds ∙ map-append f left (x ∷ [])) in
    ap (λ ys. map f left ++ reverse ys) (ap (map g) nexts ∙ map-append g made (y ∷ [])) ∙ ap (λ ys. map f left ++ ys) (reverse-append (map g made) (g y ∷ []))
    ∙ sym (append_assoc (map f left) (g y ∷ []) (reverse (map g made))) ∙ ap (λ xs. xs ++ reverse (map g made)) last ∙ before

-- where none is left, all are there in their order
pub all-taken : {X Y Z : Type 0} (f : X → Z) (g : Y → Z) (left : List X) (made : List Y) {all : List Z}
    → length left ≡ 0 → map f left ++ reverse (map g made) ≡ all → map g (reverse made) ≡ all
all-taken f g left made none before = map-reverse g made ∙ ap (λ xs. map f xs ++ reverse (map g made)) (sym (nil_from_length left none)) ∙ before

pub All-reverse : {X : Type 0} (P : X → Type 0) (xs : List X) → All P xs → All P (reverse xs)
All-reverse P xs = All-permutation P xs (reverse xs) (IsPermutation-reverse xs)
