-- Which range of addresses a text spells, why it spells none, and what a list of ranges holds: this program's own rules
-- for `--exclude-ip`, after the option of that name in GoAccess.
use Rattle.std.specs.Prelude.{◌≡◌, ℕ, ◌+◌, ◌⊎◌, List, ◌++◌, length, codes, decimal, Any}
use Rattle.ga_hosts.specs.declared.address.Address.{Address}
use Rattle.ga_hosts.specs.declared.range.Range.{Range}
use Rattle.ga_hosts.specs.declared.range.BadRange.{BadRange}
use Rattle.ga_hosts.specs.Addresses.{Spells, IsAddress, IsAtMost}

-- an address alone is the range of it alone
pub record SpellsOne (text : List ℕ) (range : Range) : Type 0 where
  pub low : Spells text range.low
  pub high : range.high ≡ range.low

-- two addresses with a dash between them, the first not above the second
pub record SpellsTwo (text : List ℕ) (range : Range) : Type 0 where
  pub first : List ℕ
  pub second : List ℕ
  pub spelled : text ≡ first ++ codes "-" ++ second
  pub low : Spells first range.low
  pub high : Spells second range.high
  pub ordered : IsAtMost range.low range.high

-- the text spells this range
abbrev pub SpellsRange : List ℕ → Range → Type 0
SpellsRange text range = SpellsOne text range ⊎ SpellsTwo text range

-- the first address is missing: neither the text is an address nor what stands before a dash of it
pub record LacksFirst (text : List ℕ) : Type 0 where
  pub whole : ¬ (IsAddress text)
  pub before_dash : (first second : List ℕ) → text ≡ first ++ codes "-" ++ second → ¬ (IsAddress first)

-- The second address is missing: an address and a dash stand first, and what follows from this place on is no address of
-- the same family that isn't below it.
pub record LacksSecond (text : List ℕ) (at : ℕ) : Type 0 where
  pub first : List ℕ
  pub second : List ℕ
  pub low : Address
  pub spelled : text ≡ first ++ codes "-" ++ second
  pub is_low : Spells first low
  pub none : (high : Address) → Spells second high → ¬ (IsAtMost low high)
  pub place : at ≡ length first + 1

-- what a fault shows
abbrev pub bad_range_text : BadRange → List ℕ
bad_range_text bad = codes "byte " ++ decimal bad.at ++ codes ": bad range"

-- the address is in the range: of its family, not below its low end and not above its high end
abbrev pub IsWithin : Address → Range → Type 0
IsWithin address range = IsAtMost range.low address × IsAtMost address range.high

-- the host is an address that one of the ranges has
pub record HoldsHost (ranges : List Range) (host : List ℕ) : Type 0 where
  pub address : Address
  pub is_host : Spells host address
  pub within : Any (IsWithin address) ranges
