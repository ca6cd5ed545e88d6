-- Places that were made where there were none.
use Rattle.std.proofs.Common.{◌≡◌, ◌⊎◌, List, None, Option, sym, subst, ⊎_elim}
use Rattle.std.specs.List.{All}
use Rattle.std.proofs.lemmas.List.Elements.{All-same, All-weaker}

-- what holds of all that was there, and of a place with nothing in it, holds of all that is there
pub still-all : {T : Type 0} (P : Option T → Type 0) → P None → {old new : List (Option T)} → (new ≡ old) ⊎ All (λ place. place ≡ None) new → All P old → All P new
still-all {T} P empty {old} {new} made all =
    ⊎_elim (λ same. All-same P new old same all)
    (λ none. All-weaker (λ place. place ≡ None) P (λ place is. subst P (sym is) empty) new none) made
