-- Which entry of a list a log continues, and what becomes of the list once more of the log was counted.
use Rattle.std.specs.Prelude.{◌≡◌, ℕ, ◌<◌, ◌≤◌, ◌≢◌, List, [], ◌∷◌, ◌++◌, length, take, min, set, slice_index_or, Option, Some, None}
use Rattle.std.specs.List.{Contains}
use Rattle.sha2.specs.Sha256.{sha256}
use Rattle.ga_base.specs.declared.entry.Entry.{Entry}
use Rattle.ga_base.specs.declared.limits.TheConstants.{FRONT}

-- a log of this front and size begins with what was counted under the entry: it is no shorter, and its first bytes have the
-- digest. The front is the log's first FRONT bytes, or all of a shorter one
pub record Fits (front : List ℕ) (end : ℕ) (entry : Entry) : Type 0 where
  pub within : entry.offset ≤ end
  pub same : entry.digest ≡ sha256 (take entry.lead front)

pub record StandsAt (entries : List Entry) (place : ℕ) (entry : Entry) : Type 0 where
  pub below : place < length entries
  pub is : slice_index_or entries place entry ≡ entry

-- among the entries that fit it is the one with the greatest offset, and the first of these in the list
pub record IsChosen (entries : List Entry) (front : List ℕ) (end place : ℕ) (entry : Entry) : Type 0 where
  pub stands : StandsAt entries place entry
  pub fits : Fits front end entry
  pub greatest : (other : Entry) → Contains entries other → Fits front end other → other.offset ≤ entry.offset
  pub first : (earlier : ℕ) (other : Entry) → earlier < place → StandsAt entries earlier other → Fits front end other → other.offset < entry.offset

-- the place of that entry, and its offset; without one that fits, nothing and 0
abbrev pub IsChoice : List Entry → List ℕ → ℕ → Option ℕ → ℕ → Type 0
IsChoice entries front end None from = ((other : Entry) → Contains entries other → Fits front end other → ⊥) × (from ≡ 0)
IsChoice entries front end (Some place) from = (entry : Entry) × IsChosen entries front end place entry × (from ≡ entry.offset)

-- the entry of a log of this front that was counted up to the offset
pub record IsEntryOf (front : List ℕ) (counted : ℕ) (entry : Entry) : Type 0 where
  pub offset : entry.offset ≡ counted
  pub digest : entry.digest ≡ sha256 (take (min counted FRONT) front)

-- the list with the entry in the place of the one that the log continued, or else at the end
abbrev pub with_entry : Option ℕ → Entry → List Entry → List Entry
with_entry None entry entries = entries ++ entry ∷ []
with_entry (Some place) entry entries = set entries place entry

-- what becomes of the list once the log was counted up to the offset: where that is 0, nothing
pub record IsAdvanced (front : List ℕ) (place : Option ℕ) (offset : ℕ) (old new : List Entry) : Type 0 where
  pub nothing : offset ≡ 0 → new ≡ old
  pub counted : offset ≢ 0 → (entry : Entry) × IsEntryOf front offset entry × (new ≡ with_entry place entry old)
