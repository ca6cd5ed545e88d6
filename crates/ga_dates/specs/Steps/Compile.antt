-- One step of the compiler: the words of functions that only this crate calls.
use Rattle.std.specs.Prelude.{ℕ, ◌≡◌, ◌<◌, ◌≤◌, Bool, false, List, ◌++◌, take, drop, length}
use Rattle.std.specs.List.{list_any}
use Rattle.std.specs.Option.{option_map_or}
use Rattle.ga_base.specs.declared.formats.FormatFault.{FormatFault}
use Rattle.ga_base.specs.declared.formats.FormatFault.TheVariants.{BadDirective, NoMemory}
use Rattle.ga_dates.specs.declared.item.Item.{Item}
use Rattle.ga_dates.specs.declared.kind.Kind.{Kind}
use Rattle.ga_dates.specs.Items.{part_of, gives, AreOnce}
use Rattle.ga_dates.specs.Grammar.{Token, text_of, items_of, IsNamed, IsBadDirective}

-- whether an item gives a part that the items before give
abbrev pub is_given : List Item → Item → Bool
is_given before item = option_map_or (λ part. list_any (gives part) before) (part_of item) false

-- a named token is at the place and ends before the next one, and its items are added
pub record AddsToken (kind : Kind) (text : List ℕ) (at next : ℕ) (before after : List Item) : Type 0 where
  pub token : Token
  pub named : IsNamed kind token
  pub grows : at < next
  pub inside : next ≤ length text
  pub spelt : take next text ≡ take at text ++ text_of token
  pub added : after ≡ before ++ items_of kind token
  pub once : AreOnce after

-- a bad directive is at the place, or memory ran out
abbrev pub IsTokenFault : Kind → List ℕ → ℕ → List Item → FormatFault → Type 0
IsTokenFault kind text at before (BadDirective place) = (place ≡ at) × IsBadDirective kind before (drop at text)
IsTokenFault kind text at before NoMemory = Unit {0}
IsTokenFault kind text at before _ = ⊥
