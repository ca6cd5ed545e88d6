-- What is put down for an item once it has its number.
use Rattle.std.proofs.Common.{◌≡◌, ℕ, List, Option, Some, refl, ap, ◌∙◌, subst}
use Rattle.std.specs.Prelude.{slice_get}
use Rattle.ga_base.specs.declared.counts.Sums.{Sums}
use Rattle.ga_base.specs.declared.key.Key.{Key}
use Rattle.ga_base.specs.declared.key.Visitor.{Visitor}
use Rattle.ga_base.specs.Orders.{is_same_key, is_same_visitor}
use Rattle.ga_numbers.specs.NotedNumbers.{IsNumbered}
use Rattle.ga_tallies.specs.Steps.Adding.{added_at}
use Rattle.ga_tallies.specs.Steps.Notes.{AddsVisit, NotesKey, NotesOne}
use Rattle.ga_tallies.specs.Tallies.{TallySeen}

pub visitor-noted : (visitor : Visitor) (n : ℕ) (old : TallySeen) (items : List Visitor) → IsNumbered is_same_visitor visitor n old.visitors items
    → NotesOne visitor n old (record old { visitors = items })
visitor-noted visitor n old items one = record {
  place = one.place;
  visitors = ap (λ (l : List Visitor). record old { visitors = l }) one.items;
  stands = one.stands;
}

pub key-noted : (key : Key) (visitor : Option ℕ) (line : Sums) (n : ℕ) (old : TallySeen) (items : List Key) (rows : List Sums) (pairs : List (ℕ × ℕ))
    → IsNumbered is_same_key key n old.keys items → rows ≡ added_at n line old.sums
    → AddsVisit n visitor old.pairs pairs → NotesKey key visitor line old (record old { keys = items; sums = rows; pairs = pairs })
key-noted key visitor line n old items rows pairs one sums adds = record {
  keys = one.items;
  stands = subst (λ k. slice_get items k ≡ Some key) one.place one.stands;
  sums = sums ∙ ap (λ k. added_at k line old.sums) one.place;
  pairs = subst (λ k. AddsVisit k visitor old.pairs pairs) one.place adds;
  others = refl;
}
