use Rattle.std.proofs.Common.{◌≡◌, ◌∷◌, [], List, ℕ, Some, sym, subst}
use Rattle.std.specs.Prelude.{slice_get}
use Rattle.ga_numbers.proofs.Noted.{get-append}
use Rattle.ga_numbers.proofs.place.make_room.Goals as goal

pub loop-numbers-preserved : goal.loop-numbers-preserved
loop-numbers-preserved c = λ k n at.
    subst (λ (l : List ℕ). slice_get l k ≡ Some n) (sym c.in_ok-push.ensures.items) (get-append c.loop-numbers.numbers.items (0 ∷ []) k n (c.loop-numbers.invariant k n at))
