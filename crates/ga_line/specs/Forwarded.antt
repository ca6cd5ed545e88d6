-- The host of `~h{C}`, the field of a log format that has the addresses a request was forwarded for, as in the header
-- X-Forwarded-For, with bytes of C between them. How the field is read is our own rule.
use Rattle.std.specs.Prelude.{◌≡◌, ◌≢◌, ℕ, ◌≤◌, ◌⊎◌, true, List, [], ◌∷◌, ◌++◌, length, Option, Some, None, ⊤}
use Rattle.std.specs.List.{AllPass, slice_split}
use Rattle.bstr.specs.Bytes.{is_in, not_in}
use Rattle.ga_hosts.specs.Addresses.{IsAddress}

-- the entries of a text: the runs of bytes between those of C, of which an empty one is no address
abbrev pub entries : List ℕ → List ℕ → List (List ℕ)
entries separators text = slice_split (is_in separators) text

-- the first of these texts that is an address, None where none is
abbrev pub FirstAddress : List (List ℕ) → Option (List ℕ) → Type 0
FirstAddress [] host = host ≡ None
FirstAddress (entry ∷ later) host = (IsAddress entry × (host ≡ Some entry)) ⊎ ((¬ IsAddress entry) × FirstAddress later host)

-- an address that holds no byte of C
pub record IsLink (separators text : List ℕ) : Type 0 where
  pub address : IsAddress text
  pub whole : AllPass (not_in separators) text

-- these addresses, each without a byte of C, with a run of one or more bytes of C between each two
abbrev pub IsChain : List ℕ → List (List ℕ) → List ℕ → Type 0
IsChain separators [] text = ⊥
IsChain separators (host ∷ []) text = (text ≡ host) × IsLink separators host
IsChain separators (host ∷ next ∷ hosts) text =
    (gap rest : List ℕ) × (text ≡ host ++ (gap ++ rest)) × IsLink separators host × (gap ≢ []) × AllPass (is_in separators) gap
    × IsChain separators (next ∷ hosts) rest

-- an address ends before this: before a byte of C, or at the end of the line
abbrev pub EndsAddress : List ℕ → List ℕ → Type 0
EndsAddress separators [] = ⊤
EndsAddress separators (b ∷ after) = is_in separators b ≡ true

-- the text is a chain of these addresses with which `rest` begins, and `after` follows it
pub record BeginsWith (separators rest : List ℕ) (hosts : List (List ℕ)) (text after : List ℕ) : Type 0 where
  pub split : rest ≡ text ++ after
  pub chain : IsChain separators hosts text
  pub ended : EndsAddress separators after

-- the longest chain with which `rest` begins has this text and this first address
pub record IsLongestChain (separators rest host text after : List ℕ) : Type 0 where
  pub others : List (List ℕ)
  pub begins : BeginsWith separators rest (host ∷ others) text after
  pub longest : (hosts : List (List ℕ)) (other left : List ℕ) → BeginsWith separators rest hosts other left → length other ≤ length text
