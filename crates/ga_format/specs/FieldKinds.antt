-- What the items of a format are to one another, and what they give.
use Rattle.std.specs.Prelude.{◌≡◌, ℕ, Bool, true, false, codes, List, []}
use Rattle.std.specs.List.{list_any}
use Rattle.ga_base.specs.declared.formats.FormatItem.{FormatItem}
use Rattle.ga_base.specs.declared.formats.FormatItem.TheVariants.{Literal, Skip, Field, Forwarded}
use Rattle.ga_base.specs.declared.formats.Needed.{Needed}
use Rattle.ga_base.specs.declared.formats.Needed.TheVariants.{Host, Date, Request}
use Rattle.ga_format.specs.Specifiers.{has, kinds_of_letter}

-- all specifiers are fields but `%~`
abbrev pub is_field : FormatItem → Bool
is_field (Literal byte) = false
is_field Skip = false
is_field (Field letter) = true
is_field (Forwarded separators) = true

-- a field ends at the literal after it, so neither a field nor `%~` may come next
abbrev pub runs_into : FormatItem → FormatItem → Bool
runs_into item (Literal byte) = false
runs_into item Skip = is_field item
runs_into item (Field letter) = is_field item
runs_into item (Forwarded separators) = is_field item

-- the kinds of field that an item gives; `~h{C}` gives the host, as `%h` does
abbrev pub kinds_of : FormatItem → List ℕ
kinds_of (Literal byte) = []
kinds_of Skip = []
kinds_of (Field letter) = kinds_of_letter letter
kinds_of (Forwarded separators) = codes "h"

-- whether the two have a kind in common
abbrev pub share : List ℕ → List ℕ → Bool
share kinds others = list_any (λ kind. has kind others) kinds

-- two items overlap where they share a kind of field
abbrev pub overlap : FormatItem → FormatItem → Bool
overlap item other = share (kinds_of item) (kinds_of other)

-- the item may not follow these, since it gives what one of them gives
abbrev pub repeats : List FormatItem → FormatItem → Bool
repeats earlier item = list_any (overlap item) earlier

-- what every format needs, as a kind of field: the client's address, the day and the URL
abbrev pub needed_kind : Needed → List ℕ
needed_kind Host = codes "h"
needed_kind Date = codes "d"
needed_kind Request = codes "U"

-- whether the item gives what is needed: `%h` and `~h{C}`, `%d` and `%x`, `%r` and `%U` do
abbrev pub gives : Needed → FormatItem → Bool
gives need item = share (needed_kind need) (kinds_of item)

-- these items don't give this, and give what comes before it: the host, the date, the request
abbrev pub IsFirstMissing : List FormatItem → Needed → Type 0
IsFirstMissing items Host = list_any (gives Host) items ≡ false
IsFirstMissing items Date = (list_any (gives Host) items ≡ true) × (list_any (gives Date) items ≡ false)
IsFirstMissing items Request = (list_any (gives Host) items ≡ true) × (list_any (gives Date) items ≡ true) × (list_any (gives Request) items ≡ false)
