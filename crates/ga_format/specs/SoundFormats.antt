-- What holds of the items of every format.
use Rattle.std.specs.Prelude.{◌≡◌, ◌≢◌, true, false, codes, List, [], ◌∷◌, ◌++◌}
use Rattle.std.specs.List.{list_any, AllByRecursion}
use Rattle.ga_base.specs.Bytes.{byte_of}
use Rattle.ga_base.specs.declared.formats.FormatItem.{FormatItem}
use Rattle.ga_base.specs.declared.formats.FormatItem.TheVariants.{Literal, Skip, Field, Forwarded}
use Rattle.ga_base.specs.declared.formats.Needed.{Needed}
use Rattle.ga_format.specs.Specifiers.{has, letters}
use Rattle.ga_format.specs.FieldKinds.{runs_into, repeats, gives}

-- the item is one of the grammar: a field's letter is a specifier's, and separators hold a byte and no `}`
abbrev pub IsNamed : FormatItem → Type 0
IsNamed (Literal byte) = Unit {0}
IsNamed Skip = Unit {0}
IsNamed (Field letter) = (has letter letters ≡ true) × (letter ≢ byte_of (codes "~"))
IsNamed (Forwarded separators) = (separators ≢ []) × (has (byte_of (codes "}")) separators ≡ false)

pub record IsSound (items : List FormatItem) : Type 0 where
  -- each item is one of the grammar
  pub named : AllByRecursion IsNamed items
  -- a host, a date and a request are among the items
  pub needs : (need : Needed) → list_any (gives need) items ≡ true
  -- no field stands directly before a field or `%~`
  pub delimited : (before after : List FormatItem) (item next : FormatItem) → items ≡ before ++ (item ∷ (next ∷ after)) → runs_into item next ≡ false
  -- nothing stands twice that may not
  pub single : (before after : List FormatItem) (item : FormatItem) → items ≡ before ++ (item ∷ after) → repeats before item ≡ false
