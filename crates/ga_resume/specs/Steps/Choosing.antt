-- What the code says of entries on the way to the one that is chosen.
use Rattle.std.specs.Prelude.{◌≡◌, ◌⊎◌, ℕ, ◌<◌, ◌≤◌, List, take, slice_index_or, Option, Some, None}
use Rattle.std.specs.List.{Contains}
use Rattle.std.specs.List.Sorted.{IsNonDecreasingBy}
use Rattle.sha2.specs.Sha256.{sha256}
use Rattle.ga_base.specs.declared.entry.Entry.{Entry}
use Rattle.ga_resume.specs.Entries.{StandsAt}
use Rattle.ga_resume.specs.declared.choosing.Candidate.{Candidate}

-- an entry whose offset lies within the log
pub record IsCandidate (entries : List Entry) (end : ℕ) (c : Candidate) : Type 0 where
  pub stands : StandsAt entries c.place c.entry
  pub within : c.entry.offset ≤ end

-- those among the first n entries, and no others
pub record AreCandidates (entries : List Entry) (n end : ℕ) (cs : List Candidate) : Type 0 where
  pub sound : (c : Candidate) → Contains cs c → IsCandidate entries end c
  pub whole : (c : Candidate) → c.place < n → IsCandidate entries end c → Contains cs c

abbrev pub HasDigest : List ℕ → Candidate → Type 0
HasDigest front c = c.entry.digest ≡ sha256 (take c.entry.lead front)

-- those among the first n whose digest is the front's, and no others
pub record AreFitting (front : List ℕ) (cs : List Candidate) (n : ℕ) (fits : List Candidate) : Type 0 where
  pub sound : (c : Candidate) → Contains fits c → Contains cs c × HasDigest front c
  pub whole : (k : ℕ) (d : Candidate) → k < n → HasDigest front (slice_index_or cs k d) → Contains fits (slice_index_or cs k d)

-- offsets don't fall along the list
abbrev pub Rise : List Candidate → Type 0
Rise cs = IsNonDecreasingBy (λ c. c.entry.offset) cs

-- the first is no worse than the second
abbrev pub Leads : Candidate → Candidate → Type 0
Leads a b = (b.entry.offset < a.entry.offset) ⊎ ((b.entry.offset ≡ a.entry.offset) × (a.place ≤ b.place))

-- no worse than any of the first n
abbrev pub IsBest : List Candidate → ℕ → Option Candidate → Type 0
IsBest cs n None = n ≡ 0
IsBest cs n (Some best) = Contains cs best × ((k : ℕ) (d : Candidate) → k < n → Leads best (slice_index_or cs k d))
