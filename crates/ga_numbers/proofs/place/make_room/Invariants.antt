use Rattle.std.proofs.Common.{◌≡◌, ◌+◌, ◌-◌, ℕ, length, Some}
use Rattle.std.specs.Prelude.{slice_get}
use Rattle.ga_numbers.proofs.place.make_room.Given as goal

abbrev pub invariant-loop-numbers : goal.invariant-loop-numbers
invariant-loop-numbers l = (k n : ℕ) → slice_get l.initial.numbers.items k ≡ Some n → slice_get l.numbers.items k ≡ Some n

abbrev pub decreases-loop-numbers : goal.decreases-loop-numbers
decreases-loop-numbers l = l.local + 1 - length l.numbers.items
