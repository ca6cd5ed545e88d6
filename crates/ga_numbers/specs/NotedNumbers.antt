-- What the numbers of items are that are noted one after the other, each different one once.
use Rattle.std.specs.Prelude.{◌≡◌, ℕ, Bool, List, [], ◌∷◌, Some, slice_get}
use Rattle.ga_shards.specs.Numbers.{noted, place_of}
use Rattle.ga_shards.specs.Steps.{all_noted}

-- an item was noted in a list of different ones, and has this number
pub record IsNumbered {T : Type 0} (eq : T → T → Bool) (item : T) (n : ℕ) (old new : List T) : Type 0 where
  pub place : n ≡ place_of eq old item
  pub items : new ≡ noted eq old item
  pub stands : slice_get new n ≡ Some item

-- the numbers of items that are noted one after the other
abbrev pub places_of : {T : Type 0} → (T → T → Bool) → List T → List T → List ℕ
places_of eq known [] = []
places_of eq known (item ∷ items) = place_of eq known item ∷ places_of eq (noted eq known item) items

-- items were noted one after the other, and have these numbers
pub record AreNoted {T : Type 0} (eq : T → T → Bool) (items : List T) (numbers : List ℕ) (old new : List T) : Type 0 where
  pub places : numbers ≡ places_of eq old items
  pub known : new ≡ all_noted eq old items

-- ---- items of others, list by list

-- items after those of other lists came to them, list by list
abbrev pub all_in_turn : {T : Type 0} → (T → T → Bool) → List T → List (List T) → List T
all_in_turn same known [] = known
all_in_turn same known (more ∷ others) = all_in_turn same (all_noted same known more) others

-- the numbers that the items of each list get then
abbrev pub numbers_in_turn : {T : Type 0} → (T → T → Bool) → List T → List (List T) → List (List ℕ)
numbers_in_turn same known [] = []
numbers_in_turn same known (more ∷ others) = places_of same known more ∷ numbers_in_turn same (all_noted same known more) others

-- the items of other lists were noted, list by list, and have these numbers
pub record AreNotedInTurn {T : Type 0} (same : T → T → Bool) (others : List (List T)) (numbers : List (List ℕ)) (old new : List T) : Type 0 where
  pub places : numbers ≡ numbers_in_turn same old others
  pub known : new ≡ all_in_turn same old others
