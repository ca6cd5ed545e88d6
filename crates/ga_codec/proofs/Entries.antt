-- Entries whose conditions are tested one by one.
use Rattle.std.proofs.Common.{◌≡◌, ℕ, ◌+◌, ◌≤◌, ◌<◌, List, [], ◌∷◌, ◌++◌, length, map, take, get_or, sym, ap, ◌∙◌, subst, arith}
use Rattle.std.specs.List.{AllByRecursion}
use Rattle.std.proofs.lemmas.List.{take_all, map_push, map_more, get_or-map, length-map}
use Rattle.std.proofs.lemmas.List.Elements.{All-from_recursion}
use Rattle.ga_base.specs.declared.entry.Entry.{Entry}
use Rattle.ga_codec.specs.declared.entry_shape.EntryShape.{EntryShape}
use Rattle.ga_codec.specs.Values.{EntryValue, entry_value}
use Rattle.ga_codec.specs.Shapes.{IsEntry}
use Rattle.ga_codec.specs.Steps.Shapes.{shape_value}

pub all_good : (entries : List Entry) (shapes : List EntryShape) (n : ℕ) → map entry_value entries ≡ map shape_value (take n shapes) → AllByRecursion IsEntry (map shape_value (take n shapes)) → length shapes ≤ n
    → (map entry_value entries ≡ map shape_value shapes) × AllByRecursion IsEntry (map shape_value shapes)
all_good entries shapes n same good le =
    let all = take_all n shapes le in
    (same ∙ ap (λ (xs : List EntryShape). map shape_value xs) all, subst (λ (xs : List EntryShape). AllByRecursion IsEntry (map shape_value xs)) all good)

pub all_push : {A : Type 0} (P : A → Type 0) (xs : List A) (x : A) → AllByRecursion P xs → P x → AllByRecursion P (xs ++ x ∷ [])
all_push P [] x h p = (p, tt)
all_push P (y ∷ xs) x h p = (h.0, all_push P xs x h.1 p)

pub more_same : (entries : List Entry) (entry : Entry) (shapes : List EntryShape) (i : ℕ) (d : EntryShape) → i < length shapes
    → map entry_value entries ≡ map shape_value (take i shapes) → entry_value entry ≡ shape_value (get_or shapes i d) → map entry_value (entries ++ entry ∷ []) ≡ map shape_value (take (i + 1) shapes)
more_same entries entry shapes i d lt same one =
    map_push entry_value entries entry ∙ ap (λ (xs : List EntryValue). xs ++ entry_value entry ∷ []) same ∙ ap (λ (e : EntryValue). map shape_value (take i shapes) ++ e ∷ []) one
    ∙ sym (map_more shape_value shapes i d lt)

pub more_good : (shapes : List EntryShape) (i : ℕ) (d : EntryShape) → i < length shapes → AllByRecursion IsEntry (map shape_value (take i shapes)) → IsEntry (shape_value (get_or shapes i d))
    → AllByRecursion IsEntry (map shape_value (take (i + 1) shapes))
more_good shapes i d lt good one =
    subst (λ (xs : List EntryValue). AllByRecursion IsEntry xs) (sym (map_more shape_value shapes i d lt)) (all_push IsEntry (map shape_value (take i shapes)) (shape_value (get_or shapes i d)) good one)

pub one_bad : (shapes : List EntryShape) (i : ℕ) (d : EntryShape) → i < length shapes → (IsEntry (shape_value (get_or shapes i d)) → ⊥) → AllByRecursion IsEntry (map shape_value shapes) → ⊥
one_bad shapes i d lt bad good =
    let here = All-from_recursion IsEntry (map shape_value shapes) good i (shape_value d) (omega (arith, length-map shapes shape_value)) in
    bad (subst (λ (e : EntryValue). IsEntry e) (get_or-map shape_value shapes i d (shape_value d) lt) here)
