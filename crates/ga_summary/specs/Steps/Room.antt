-- What has to be there before entries are joined, so that nothing can fail: room for the names, and sums that fit.
use Rattle.std.specs.Prelude.{◌≡◌, ℕ, ◌+◌, ◌<◌, ◌≤◌, ◌^◌, List, [], ◌∷◌, Option, None, All, length, slice_index_or, vec_capacity}
use Rattle.std.specs.List.{find}
use Rattle.std.specs.List.Sorted.{IsStrictlySortedBy}
use Rattle.std.specs.Option.{ForSome}
use Rattle.std.specs.declared.boxed.Box.{Box}
use Rattle.ga_base.specs.declared.key.Key.{Key}
use Rattle.ga_base.specs.declared.counts.Sums.{Sums}
use Rattle.ga_base.specs.declared.counts.TheConstants.{LIMIT}
use Rattle.ga_summary.specs.declared.entry.Entry.{Entry}
use Rattle.ga_base.specs.Orders.{is_same_key, name_cmp}
use Rattle.ga_summary.specs.Steps.Entries.{IsClosed, entry_names}

-- two sums fit 64 bits together
pub record SumsFit (a b : Sums) : Type 0 where
  pub hits : a.hits + b.hits < 2 ^ 64
  pub bytes : a.bytes + b.bytes < 2 ^ 64
  pub micros : a.micros + b.micros < 2 ^ 64

-- sums at most the limit
pub record AreSmall (sums : Sums) : Type 0 where
  pub hits : sums.hits ≤ LIMIT
  pub bytes : sums.bytes ≤ LIMIT
  pub micros : sums.micros ≤ LIMIT

-- a closed entry whose names rise and whose sums are small, so that it can be joined to another of its key
pub record CanGrow (entry : Entry) : Type 0 where
  pub closed : IsClosed entry
  pub rising : IsStrictlySortedBy name_cmp (entry_names entry)
  pub small : AreSmall entry.sums

abbrev pub AllCanGrow : {A : Type 0} → List (Box Entry A) → Type 0
AllCanGrow entries = All (λ boxed. CanGrow boxed.value) entries

-- an entry has room for its names and another's
abbrev pub HasNameRoom : Entry → Entry → Type 0
HasNameRoom entry more = length (entry_names entry) + length more.names ≤ vec_capacity entry.work

-- an entry can take what another has
pub record CanTake (entry more : Entry) : Type 0 where
  pub rising : IsStrictlySortedBy name_cmp (entry_names entry)
  pub rising_more : IsStrictlySortedBy name_cmp more.names
  pub closed_more : IsClosed more
  pub room : HasNameRoom entry more
  pub sums : SumsFit entry.sums more.sums

-- the entry of a key
abbrev pub entry_at : {A : Type 0} → List (Box Entry A) → Key → Option (Box Entry A)
entry_at entries key = find (λ boxed. is_same_key key boxed.value.key) entries

-- the entry of the key, if it is there, has room for the other's names
abbrev pub HasRoom : {A : Type 0} → List (Box Entry A) → Entry → Type 0
HasRoom entries more = ForSome (entry_at entries more.key) (λ boxed. HasNameRoom boxed.value more)

abbrev pub AllHaveRoom : {A : Type 0} → List (Box Entry A) → List (Box Entry A) → Type 0
AllHaveRoom entries more = (i : ℕ) (d : Box Entry _) → i < length more → HasRoom entries (slice_index_or more i d).value

-- the entry of the key, if it is there, can take the other
abbrev pub HasPlace : {A : Type 0} → List (Box Entry A) → Entry → Type 0
HasPlace entries more = ForSome (entry_at entries more.key) (λ boxed. CanTake boxed.value more)

abbrev pub AllHavePlace : {A : Type 0} → List (Box Entry A) → List (Box Entry A) → Type 0
AllHavePlace entries [] = Unit {0}
AllHavePlace entries (boxed ∷ more) = HasPlace entries boxed.value × AllHavePlace entries more

-- the entry of the key, if it is there, is closed
abbrev pub IsClosedAt : {A : Type 0} → List (Box Entry A) → Key → Type 0
IsClosedAt entries key = ForSome (entry_at entries key) (λ boxed. IsClosed boxed.value)

-- an entry that isn't closed has its key among those of more
abbrev pub OpenAmong : {A : Type 0} → List (Box Entry A) → List (Box Entry A) → Type 0
OpenAmong entries more = (key : Key) → entry_at more key ≡ None → IsClosedAt entries key
