-- The names under a key's number, one word more.
use Rattle.std.proofs.Common.{◌≡◌, ℕ, ◌+◌, ◌<◌, List, [], ◌∷◌, ◌++◌, length, take, get_or, Option, Some, None, refl, ap, ◌∙◌}
use Rattle.std.specs.List.{filter_map}
use Rattle.std.specs.Option.{option_to_list}
use Rattle.std.proofs.lemmas.List.{take_more}
use Rattle.std.proofs.lemmas.List.Elements.{filter_map-append}
use Rattle.ga_base.specs.declared.key.Visitor.{Visitor}
use Rattle.ga_base.specs.declared.name.Name.{Name}
use Rattle.ga_pool.specs.Steps.CountedRows.{name_under, names_under}

one : {X Y : Type 0} (f : X → Option Y) (x : X) → filter_map f (x ∷ []) ≡ option_to_list (f x)
one f x = by (f x) refl
  where
    by : (o : Option _) → f x ≡ o → filter_map f (x ∷ []) ≡ option_to_list (f x)
    by None e = rw e
    by (Some y) e = rw e

pub names-more : (people : List Visitor) (k : ℕ) (words : List ℕ) (at : ℕ) → at < length words
    → names_under people k (take (at + 1) words) ≡ names_under people k (take at words) ++ option_to_list (name_under people k (get_or words at 0))
names-more people k words at lt =
    ap (filter_map (name_under people k)) (take_more words at 0 lt) ∙ filter_map-append (name_under people k) (take at words) (get_or words at 0 ∷ [])
    ∙ ap (λ (l : List Name). names_under people k (take at words) ++ l) (one (name_under people k) (get_or words at 0))
