-- What tallies have counted, and their totals.
use Rattle.std.proofs.Common.{◌≡◌, ℕ, ◌+◌, List, [], ◌∷◌, refl, sym, ap, ◌∙◌, arith, zero-add}
use Rattle.std.specs.List.{All}
use Rattle.std.proofs.lemmas.List.Elements.{All-head, All-tail}
use Rattle.ga_base.specs.declared.counts.Totals.{Totals}
use Rattle.ga_workers.specs.Together.{AreCounted, totals_in}
use Rattle.ga_workers.proofs.Alike.{alike-same}
use Rattle.ga_workers.proofs.DrawnPieces.{together-cons}
use Rattle.ga_workers.proofs.WeighedLines.{plus-none}
use Rattle.ga_outcomes.proofs.Behind.{plus-assoc}
use Rattle.ga_summary.proofs.Appends.{totals_of-append}
use Rattle.ga_summary.specs.Outcomes.{Outcome, totals_of}
use Rattle.ga_base.specs.Totals.{totals_plus, TotalsFit, no_totals}
use Rattle.ga_tallies.specs.Tallies.{AreTalliesOf, IsTallyOf, TallySeen, together, totals_from}

pub none-plus : (t : Totals) → totals_plus no_totals t ≡ t
none-plus t = λ i. record {
  lines = zero-add t.lines i;
  failed = zero-add t.failed i;
  excluded = zero-add t.excluded i;
  hits = zero-add t.hits i;
  bytes = zero-add t.bytes i;
  micros = zero-add t.micros i;
}

pub totals-from : (start : Totals) (parts : List (List Outcome)) (ts : List TallySeen) → AreTalliesOf parts ts
    → totals_from start ts ≡ totals_plus start (totals_of (together parts))
totals-from start [] [] are = λ i. record {
  lines = sym (add-none start.lines) i;
  failed = sym (add-none start.failed) i;
  excluded = sym (add-none start.excluded) i;
  hits = sym (add-none start.hits) i;
  bytes = sym (add-none start.bytes) i;
  micros = sym (add-none start.micros) i;
}
  where
    add-none : (n : ℕ) → n + 0 ≡ n
    add-none n = omega arith
totals-from start [] (t ∷ ts) are = absurd are
totals-from start (p ∷ parts) [] are = absurd are
totals-from start (p ∷ parts) (t ∷ ts) are =
    totals-from (totals_plus start t.totals) parts ts are.1 ∙ plus-assoc start t.totals (totals_of (together parts))
    ∙ ap (totals_plus start) (ap (λ (u : Totals). totals_plus u (totals_of (together parts))) are.0.totals ∙ sym (totals_of-append p (together parts)) ∙ ap totals_of (sym (together-cons p parts)))

-- the totals of all tallies are those of all outcomes
pub totals-together : (parts : List (List Outcome)) (ts : List TallySeen) → AreTalliesOf parts ts → totals_in ts ≡ totals_of (together parts)
totals-together parts ts are = totals-from no_totals parts ts are ∙ none-plus (totals_of (together parts))

-- their totals are those of the outcomes
pub counted-totals : (os : List Outcome) (ts : List TallySeen) → AreCounted os ts → totals_in ts ≡ totals_of os
counted-totals os ts are = totals-together are.parts ts are.tallies_of ∙ sym are.alike.totals

-- tallies of no lines have counted nothing
record AreNone (ts : List TallySeen) : Type 0 where
  parts : List (List Outcome)
  tallies_of : AreTalliesOf parts ts
  none : together parts ≡ []

none-in : (ts : List TallySeen) → All (IsTallyOf []) ts → AreNone ts
none-in [] all = record { parts = []; tallies_of = tt; none = refl }
none-in (t ∷ ts) all =
    let rest = none-in ts (All-tail (IsTallyOf []) t ts all) in
    record { parts = [] ∷ rest.parts; tallies_of = (All-head (IsTallyOf []) t ts all, rest.tallies_of); none = together-cons [] rest.parts ∙ rest.none }

pub none-counted : (ts : List TallySeen) → All (IsTallyOf []) ts → AreCounted [] ts
none-counted ts all =
    let none = none-in ts all in
    record { parts = none.parts; tallies_of = none.tallies_of; alike = alike-same _ _ (sym none.none) }

-- totals that fit with those of tallies fit
pub fit-before : (start : Totals) (ts : List TallySeen) → TotalsFit (totals_from start ts) → TotalsFit start
fit-before start [] fit = fit
fit-before start (t ∷ ts) fit =
    let more = fit-before (totals_plus start t.totals) ts fit in
    record { lines = omega (arith, more.lines); bytes = omega (arith, more.bytes); micros = omega (arith, more.micros) }

from-plus : (a b : Totals) (ts : List TallySeen) → totals_from (totals_plus a b) ts ≡ totals_plus a (totals_from b ts)
from-plus a b [] = refl
from-plus a b (t ∷ ts) = ap (λ (u : Totals). totals_from u ts) (plus-assoc a b t.totals) ∙ from-plus a (totals_plus b t.totals) ts

-- added up to others they are added up alone and then to these
pub from-alone : (start : Totals) (ts : List TallySeen) → totals_from start ts ≡ totals_plus start (totals_in ts)
from-alone start ts = ap (λ (u : Totals). totals_from u ts) (sym (plus-none start)) ∙ from-plus start no_totals ts
