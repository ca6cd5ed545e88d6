-- When a line fits the items of a log format, and which texts its fields then have: cases on the items,
-- in their order, each on a suffix of the line. The items are those of GoAccess's log formats; where
-- exactly a field ends, and that a backslash hides a double quote, is our own rule.
use Rattle.std.specs.Prelude.{◌≡◌, ◌≢◌, ℕ, ◌⊎◌, ◌==◌, Bool, true, false, ◌&&◌, ◌||◌, nat_le, List, [], ◌∷◌, ◌++◌, Option, Some, None, codes}
use Rattle.std.specs.List.{AllPass, find}
use Rattle.std.specs.Option.{option_map}
use Rattle.bstr.specs.Bytes.{is_in}
use Rattle.ga_base.specs.Bytes.{byte_of}
use Rattle.ga_base.specs.declared.formats.FormatItem.{FormatItem}
use Rattle.ga_base.specs.declared.formats.FormatItem.TheVariants.{Literal, Skip, Field, Forwarded}
use Rattle.ga_line.specs.Forwarded.{entries, FirstAddress, IsLongestChain}
use Rattle.ga_line.specs.Letters.{host_letter}

abbrev pub double_quote : ℕ
double_quote = byte_of (codes "\"")

abbrev pub backslash : ℕ
backslash = byte_of (codes "\\")

-- A text in which no field ends that ends at the byte `stop`: it is made of bytes other than `stop`. Where
-- `stop` is the double quote, a backslash stands only together with the byte after it, which may be any.
pub data IsFree (stop : ℕ) : List ℕ → Type 0 where
  nothing : IsFree stop []
  byte : {b : ℕ} {text : List ℕ} → b ≢ stop → (stop ≡ double_quote → b ≢ backslash) → IsFree stop text → IsFree stop (b ∷ text)
  pair : {a b : ℕ} {text : List ℕ} → stop ≡ double_quote → a ≡ backslash → IsFree stop text → IsFree stop (a ∷ b ∷ text)

-- the field that begins `rest` has this text, and `after` follows the first place at which it can end
pub record EndsAt (stop : ℕ) (rest text after : List ℕ) : Type 0 where
  pub split : rest ≡ text ++ stop ∷ after
  pub first : IsFree stop text

-- the field that begins `rest` ends nowhere before the line does
abbrev pub NeverEnds : ℕ → List ℕ → Type 0
NeverEnds stop rest = (text after : List ℕ) → EndsAt stop rest text after → ⊥

-- white space: the bytes 9 to 13, and the blank
abbrev pub is_space : ℕ → Bool
is_space b = (nat_le 9 b && nat_le b 13) || b == byte_of (codes " ")

-- `after` is what the longest run of white space leaves of `rest`
pub record SkipsSpace (rest after : List ℕ) : Type 0 where
  pub run : (space : List ℕ) × (rest ≡ space ++ after) × AllPass is_space space
  pub longest : (b : ℕ) (more : List ℕ) → after ≡ b ∷ more → is_space b ≡ false

-- a field of a line: its letter and its text
abbrev pub Part : Type 0
Part = ℕ × List ℕ

-- The field `~h{C}` that begins `rest`, where the literal `stop` follows it: its host, if it has one, and what follows
-- that literal, None where the line ends with the field. Where `stop` isn't in C the field ends as any other does, and its
-- host is its first entry that is an address. Where it is in C the field is the longest chain of addresses.
abbrev pub IsForwarded : Bool → List ℕ → ℕ → List ℕ → Option (List ℕ) → Option (List ℕ) → Type 0
IsForwarded false separators stop rest host None = NeverEnds stop rest × FirstAddress (entries separators rest) host
IsForwarded false separators stop rest host (Some after) =
    (text : List ℕ) × EndsAt stop rest text after × FirstAddress (entries separators text) host
IsForwarded true separators stop rest None left = ⊥
IsForwarded true separators stop rest (Some host) None = (text : List ℕ) × IsLongestChain separators rest host text []
IsForwarded true separators stop rest (Some host) (Some after) = (text : List ℕ) × IsLongestChain separators rest host text (stop ∷ after)

-- the host as a field
abbrev pub host_part : Option (List ℕ) → List Part
host_part None = []
host_part (Some host) = (host_letter, host) ∷ []

-- A line that goes on with `rest` fits the items, and its fields are `parts`, in the items' order. A field
-- that no literal byte follows has the whole rest, and `~h{C}` there has the longest chain of addresses. A field whose
-- literal byte doesn't come has the rest too. No item after these is asked for. What follows the last item is passed over.
abbrev pub Fits : List FormatItem → List ℕ → List Part → Type 0
Fits [] rest parts = parts ≡ []
Fits (Literal b ∷ items) rest parts = (after : List ℕ) × (rest ≡ b ∷ after) × Fits items after parts
Fits (Skip ∷ items) rest parts = (after : List ℕ) × SkipsSpace rest after × Fits items after parts
Fits (Field letter ∷ Literal stop ∷ items) rest parts =
    (NeverEnds stop rest × (parts ≡ (letter, rest) ∷ []))
    ⊎ ((text after : List ℕ) × (later : List Part) × EndsAt stop rest text after × (parts ≡ (letter, text) ∷ later) × Fits items after later)
Fits (Field letter ∷ items) rest parts = parts ≡ (letter, rest) ∷ []
Fits (Forwarded separators ∷ Literal stop ∷ items) rest parts =
    ((host : Option (List ℕ)) × IsForwarded (is_in separators stop) separators stop rest host None × (parts ≡ host_part host))
    ⊎ ((host : Option (List ℕ)) × (after : List ℕ) × (later : List Part) × IsForwarded (is_in separators stop) separators stop rest host (Some after)
    × (parts ≡ host_part host ++ later) × Fits items after later)
Fits (Forwarded separators ∷ items) rest parts = (host text after : List ℕ) × IsLongestChain separators rest host text after × (parts ≡ host_part (Some host))

-- the text of the field with a letter, None where the line ended before it: a letter stands once in a
-- format, but for the one of fields that are ignored
abbrev pub field : ℕ → List Part → Option (List ℕ)
field letter parts = option_map (λ part. part.1) (find (λ part. part.0 == letter) parts)
