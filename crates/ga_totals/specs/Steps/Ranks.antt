-- The ranks of visitors by name.
use Rattle.std.specs.Prelude.{◌≡◌, ◌<◌, ◌+◌, ◌-◌, ◌++◌, ℕ, List, [], ◌∷◌, Some, ◌⊎◌, All, length, map, slice_get, slice_index}
use Rattle.std.specs.List.{AllPairs, Contains}
use Rattle.std.specs.List.Sorted.{IsSorted}
use Rattle.std.specs.declared.cmp.Ordering.{Ordering}
use Rattle.std.specs.declared.cmp.Ordering.TheVariants.{Less}
use Rattle.ga_base.specs.declared.key.Visitor.{Visitor}
use Rattle.ga_base.specs.declared.name.Name.{Name}
use Rattle.ga_base.specs.Orders.{name_cmp, name_of}
use Rattle.ga_totals.specs.Steps.KeyRows.{name_at}

-- a visitor with its number
pub record NumberedVisitor : Type 0 where
  pub number : ℕ
  pub visitor : Visitor

abbrev pub named_cmp : NumberedVisitor → NumberedVisitor → Ordering
named_cmp a b = name_cmp (name_of a.visitor) (name_of b.visitor)

-- the visitor with the number has its name
pub record HasName (visitors : List Visitor) (entry : NumberedVisitor) : Type 0 where
  pub within : entry.number < length visitors
  pub name_is : name_of entry.visitor ≡ name_at visitors entry.number

-- this many visitors with their numbers
pub record AreNumbered (visitors : List Visitor) (count : ℕ) (all : List NumberedVisitor) : Type 0 where
  pub many : length all ≡ count
  pub names : All (HasName visitors) all
  pub each : (v : ℕ) → v < count → (n : NumberedVisitor) × Contains all n × (n.number ≡ v)

-- all visitors with their numbers, in the order of their names
pub record AreByName (visitors : List Visitor) (all : List NumberedVisitor) : Type 0 where
  pub numbered : AreNumbered visitors (length visitors) all
  pub sorted : IsSorted named_cmp all

-- the names of the visitors with these numbers
abbrev pub names_at : List Visitor → List ℕ → List Name
names_at visitors numbers = map (λ v. name_at visitors v) numbers

-- a list ends in this name
abbrev pub EndsIn : List Name → Name → Type 0
EndsIn names name = slice_get names (length names - 1) ≡ Some name

-- the first of each name become those in `new`, and the visitor has the rank of the last of them. It is one itself where
-- its name is not that of the last before
pub record IsNextRank (visitors : List Visitor) (entry : NumberedVisitor) (firsts new : List ℕ) (rank : ℕ) : Type 0 where
  pub last : rank + 1 ≡ length new
  pub either : ((new ≡ firsts) × EndsIn (names_at visitors firsts) (name_of entry.visitor))
      ⊎ ((new ≡ firsts ++ entry.number ∷ []) × (EndsIn (names_at visitors firsts) (name_of entry.visitor) → ⊥))

-- ranks of visitors by name: a rank is the place of one visitor of that name, and firsts have these in the order of the names
pub record AreRanks (visitors : List Visitor) (firsts ranks : List ℕ) : Type 0 where
  pub many : length ranks ≡ length visitors
  pub within : All (λ v. v < length visitors) firsts
  pub rising : AllPairs (λ a b. name_cmp a b ≡ Less) (names_at visitors firsts)
  pub each : (v : ℕ) → v < length visitors → slice_get (names_at visitors firsts) (slice_index ranks v) ≡ Some (name_at visitors v)

-- the name of a rank
abbrev pub name_ranked : List Visitor → List ℕ → ℕ → Name
name_ranked visitors firsts rank = name_at visitors (slice_index firsts rank)
