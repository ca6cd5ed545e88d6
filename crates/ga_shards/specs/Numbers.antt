-- Lists of items in which no two are equal, and one number for each different item of several such lists.
use Rattle.std.specs.Prelude.{◌≡◌, ℕ, Bool, true, List, [], ◌∷◌, ◌++◌, Option, Some, slice_get, slice_index_or, if◌then◌else◌}
use Rattle.std.specs.List.{IsDistinct, list_any, position_or_len}

-- the list after an item was noted: it is appended where no item is equal to it
abbrev pub noted : {T : Type 0} → (T → T → Bool) → List T → T → List T
noted eq items item = if list_any (eq item) items then items else items ++ item ∷ []

-- an item is noted at this place: the first of an item that is equal to it, or the end
abbrev pub place_of : {T : Type 0} → (T → T → Bool) → List T → T → ℕ
place_of eq items item = position_or_len (eq item) items

-- item l of list d, where there is one
abbrev pub item_of : {T : Type 0} → List (List T) → ℕ → ℕ → Option T
item_of lists d l = slice_get (slice_index_or lists d []) l

-- a numbering as contracts see it
pub record NumberingSeen (T : Type 0) : Type 0 where
  -- the item of each number
  pub items : List T
  -- for each list the numbers of its items
  pub numbers : List (List ℕ)

-- each different item of the lists has one number, and each number one item
pub record IsNumbering {T : Type 0} (eq : T → T → Bool) (lists : List (List T)) (n : NumberingSeen T) : Type 0 where
  -- no two numbers have equal items
  pub distinct : IsDistinct eq n.items
  -- each item of a list has a number, whose item is equal to it
  pub numbered : (d l : ℕ) (item : T) → item_of lists d l ≡ Some item → (number : ℕ) × (known : T)
      × (item_of n.numbers d l ≡ Some number) × (slice_get n.items number ≡ Some known) × (eq item known ≡ true)
  -- and each number's item is one of a list
  pub used : (number : ℕ) (known : T) → slice_get n.items number ≡ Some known → (d : ℕ) × (l : ℕ) × (item_of lists d l ≡ Some known)
