-- The places of a list.
use Rattle.std.proofs.Common.{◌≡◌, ℕ, List, [], ◌∷◌, ◌++◌, length, refl, sym, arith, append-nil}
use Rattle.std.specs.List.{flat_map}
use Rattle.serde_json.specs.View.{items_view, view}
use Rattle.serde_json.specs.declared.value.Value.{Value}
use Rattle.ga_jsonlog.specs.declared.leaf.PathStep.{PathStep}
use Rattle.ga_jsonlog.specs.declared.leaf.PathStep.TheVariants.{First}
use Rattle.ga_jsonlog.specs.declared.places.Place.TheVariants.{Bad}
use Rattle.ga_jsonlog.specs.Places.{items_places, places}

-- those of its only element
pub one-item : (path : List PathStep) (vs : List Value) → length vs ≡ 1 → items_places path (items_view vs) ≡ flat_map (λ v. places (path ++ (First ∷ [])) (view v)) vs
one-item path [] one = absurd (omega arith)
one-item path (v ∷ []) one = sym (append-nil (places (path ++ (First ∷ [])) (view v)))
one-item path (v ∷ w ∷ vs) one = absurd (omega arith)

-- a bad place where it has not one element
pub not-one-item : (path : List PathStep) (vs : List Value) → (length vs ≡ 1 → ⊥) → items_places path (items_view vs) ≡ Bad ∷ []
not-one-item path [] some = refl
not-one-item path (v ∷ []) some = absurd (some refl)
not-one-item path (v ∷ w ∷ vs) some = refl
