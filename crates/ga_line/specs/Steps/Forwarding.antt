-- What the steps promise in which the field `~h{C}` is read.
use Rattle.std.specs.Prelude.{◌≡◌, ◌≢◌, ℕ, Bool, List, [], ◌∷◌, ◌++◌, Option, Some, None}
use Rattle.std.specs.List.{AllPass}
use Rattle.bstr.specs.Bytes.{is_in}
use Rattle.ga_base.specs.declared.formats.FormatItem.{FormatItem}
use Rattle.ga_base.specs.declared.formats.FormatItem.TheVariants.{Literal}
use Rattle.ga_line.specs.Fits.{IsForwarded}
use Rattle.ga_line.specs.Forwarded.{EndsAddress, IsLink, IsLongestChain}

-- an address of a chain begins `rest`, and `after` follows it
pub record BeginsAddress (separators rest host after : List ℕ) : Type 0 where
  pub split : rest ≡ host ++ after
  pub link : IsLink separators host
  pub ended : EndsAddress separators after

-- one or more separators and the next address of a chain begin `rest`, and `next` follows them
pub record IsNextAddress (separators rest next : List ℕ) : Type 0 where
  pub gap : List ℕ
  pub behind : List ℕ
  pub host : List ℕ
  pub split : rest ≡ gap ++ behind
  pub some : gap ≢ []
  pub apart : AllPass (is_in separators) gap
  pub begins : BeginsAddress separators behind host next

-- a chain that goes on with `rest` ends before `end`, if it may end there
pub data Reaches (separators : List ℕ) (end : List ℕ) : List ℕ → Type 0 where
  here : Reaches separators end end
  further : {rest next : List ℕ} → IsNextAddress separators rest next → Reaches separators end next → Reaches separators end rest

-- it goes no further than to `end`
pub record IsEndOf (separators rest end : List ℕ) : Type 0 where
  pub reached : Reaches separators end rest
  pub ended : EndsAddress separators end
  pub last : (next : List ℕ) → ¬ IsNextAddress separators end next

-- the longest chain with which `rest` begins has this first address, and this follows it
abbrev pub HasChain : List ℕ → List ℕ → List ℕ → List ℕ → Type 0
HasChain separators rest host after = (text : List ℕ) × IsLongestChain separators rest host text after

-- the field before the literal `stop`: its host, and what follows it from the literal on, None where the line ends with it
abbrev pub GoesOn : Bool → List ℕ → ℕ → List ℕ → Option (List ℕ) → Option (List ℕ) → Type 0
GoesOn chained separators stop rest host None = IsForwarded chained separators stop rest host None
GoesOn chained separators stop rest host (Some after) = (behind : List ℕ) × (after ≡ stop ∷ behind) × IsForwarded chained separators stop rest host (Some behind)

-- the field that no literal follows: its host, and nothing else
abbrev pub IsLastOf : List ℕ → List ℕ → Option (List ℕ) → Option (List ℕ) → Type 0
IsLastOf separators rest host after = (first left : List ℕ) × (host ≡ Some first) × (after ≡ None) × HasChain separators rest first left

-- no literal comes next
abbrev pub HasNoLiteral : Option FormatItem → Type 0
HasNoLiteral next = (stop : ℕ) → next ≡ Some (Literal stop) → ⊥

-- the field before the next item
abbrev pub Forwards : Option FormatItem → List ℕ → List ℕ → Option (List ℕ) → Option (List ℕ) → Type 0
Forwards (Some (Literal stop)) separators rest host after = GoesOn (is_in separators stop) separators stop rest host after
Forwards next separators rest host after = IsLastOf separators rest host after
