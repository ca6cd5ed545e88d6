-- Which address a text spells. IPv4 is four decimal parts joined by dots, as in RFC 3986, section 3.2.2; IPv6 is the text
-- form of RFC 4291, section 2.2, without a zone.
use Rattle.std.specs.Prelude.{◌≡◌, ℕ, ◌+◌, ◌*◌, ◌^◌, ◌<◌, ◌≤◌, ◌⊎◌, Bool, true, false, List, [], ◌∷◌, ◌++◌, length, replicate, codes, decimal, IsTrue}
use Rattle.std.specs.Str.Parse.{IsNumeral, digits_value}
use Rattle.ga_hosts.specs.declared.address.Address.{Address}
use Rattle.ga_hosts.specs.declared.address.Address.TheVariants.{V4, V6}

-- the number that these digits make, the first of them the highest
abbrev pub number_in : ℕ → List ℕ → ℕ
number_in base [] = 0
number_in base (digit ∷ digits) = digit * base ^ length digits + number_in base digits

-- Four parts from 0 to 255 joined by dots. Each is written as its number is, so that none has a leading zero.
pub record IsDottedQuad (text : List ℕ) (a b c d : ℕ) : Type 0 where
  pub spelled : text ≡ decimal a ++ codes "." ++ decimal b ++ codes "." ++ decimal c ++ codes "." ++ decimal d
  pub fit : (a < 256) × (b < 256) × (c < 256) × (d < 256)

-- a group: one to four hexadecimal digits of either case, and the number that they write
pub record IsGroup (text : List ℕ) (group : ℕ) : Type 0 where
  pub digits : IsNumeral 16 text
  pub short : length text ≤ 4
  pub value : group ≡ digits_value 16 text

-- an IPv4 text in place of two groups: its first two parts make the one, its last two the other
pub record IsQuadPair (text : List ℕ) (high low : ℕ) : Type 0 where
  pub a : ℕ
  pub b : ℕ
  pub c : ℕ
  pub d : ℕ
  pub quad : IsDottedQuad text a b c d
  pub high_is : high ≡ a * 256 + b
  pub low_is : low ≡ c * 256 + d

-- These groups joined by single colons, and no text where there are none. Where `quad` holds, an IPv4 text may stand in
-- place of the last two groups.
abbrev pub IsRow : Bool → List ℕ → List ℕ → Type 0
IsRow quad text [] = text ≡ []
IsRow quad text (group ∷ []) = IsGroup text group
IsRow quad text (group ∷ next ∷ more) =
    ((first rest : List ℕ) × (text ≡ first ++ codes ":" ++ rest) × IsGroup first group × IsRow quad rest (next ∷ more))
    ⊎ (IsTrue quad × (more ≡ []) × IsQuadPair text group next)

-- eight groups, all of them written
pub record IsWritten (text groups : List ℕ) : Type 0 where
  pub row : IsRow true text groups
  pub eight : length groups ≡ 8

-- Groups before and after a `::`, which represents the groups between them: for one at least, and all of them zero.
pub record IsShortened (text groups : List ℕ) : Type 0 where
  pub left : List ℕ
  pub right : List ℕ
  pub before : List ℕ
  pub zeros : ℕ
  pub after : List ℕ
  pub spelled : text ≡ left ++ codes "::" ++ right
  pub is_before : IsRow false left before
  pub is_after : IsRow true right after
  pub some_zeros : 0 < zeros
  pub eight : length before + zeros + length after ≡ 8
  pub groups_are : groups ≡ before ++ replicate zeros 0 ++ after

-- an IPv4 text, and the number that its four parts make
pub record SpellsV4 (text : List ℕ) (number : ℕ) : Type 0 where
  pub a : ℕ
  pub b : ℕ
  pub c : ℕ
  pub d : ℕ
  pub quad : IsDottedQuad text a b c d
  pub number_is : number ≡ number_in 256 (a ∷ b ∷ c ∷ d ∷ [])

-- an IPv6 text, and the number that its eight groups make
pub record SpellsV6 (text : List ℕ) (number : ℕ) : Type 0 where
  pub groups : List ℕ
  pub form : IsWritten text groups ⊎ IsShortened text groups
  pub number_is : number ≡ number_in (2 ^ 16) groups

-- the text spells this address
abbrev pub Spells : List ℕ → Address → Type 0
Spells text (V4 number) = SpellsV4 text number
Spells text (V6 number) = SpellsV6 text number

-- the text spells an address
abbrev pub IsAddress : List ℕ → Type 0
IsAddress text = (address : Address) × Spells text address

-- the number of the address fits the bits of its family
abbrev pub FitsFamily : Address → Type 0
FitsFamily (V4 number) = number < 2 ^ 32
FitsFamily (V6 number) = number < 2 ^ 128

-- some text spells the address
abbrev pub HasText : Address → Type 0
HasText address = (text : List ℕ) × Spells text address

-- both are of one family, and the first number isn't above the second
abbrev pub IsAtMost : Address → Address → Type 0
IsAtMost (V4 a) (V4 b) = a ≤ b
IsAtMost (V6 a) (V6 b) = a ≤ b
IsAtMost (V4 a) (V6 b) = ⊥
IsAtMost (V6 a) (V4 b) = ⊥
