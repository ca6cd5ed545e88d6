-- What a tally has counted that took in others is what all of them have.
use Rattle.std.proofs.Common.{◌≡◌, ◌<◌, nat_lt, get_or, remove, List, [], ◌∷◌, length, map, sym, ap, ◌∙◌, subst, arith}
use Rattle.ga_base.specs.declared.counts.Sums.{Sums}
use Rattle.ga_base.specs.declared.counts.Totals.{Totals}
use Rattle.ga_base.specs.Totals.{TotalsFit}
use Rattle.ga_workers.proofs.Together.{none-plus}
use Rattle.ga_workers.specs.Together.{AreAlike, AreCounted, totals_in}
use Rattle.ga_logs.proofs.Counts.{no-tallies}
use Rattle.ga_summary.specs.Outcomes.{Outcome}
use Rattle.ga_tallies.specs.Tallies.{AbsorbsAll, AreTalliesOf, IsTallyOf, TallySeen, together, totals_from}

-- of outcomes of which the same is counted
tally-alike : (xs ys : List Outcome) (t : TallySeen) → AreAlike xs ys → IsTallyOf ys t → IsTallyOf xs t
tally-alike xs ys t a h = record {
  totals = h.totals ∙ sym a.totals;
  different_keys = h.different_keys;
  different_visitors = h.different_visitors;
  sums = h.sums ∙ sym (λ i. map (λ key. a.sums key i) t.keys);
  counted = λ key. h.counted key ∙ sym (ap (λ (s : Sums). nat_lt 0 s.hits) (a.sums key));
  pairs = λ k v at.
      let p = h.pairs k v at in
      (p.0, p.1, p.2, p.3, a.visits p.0 p.1 ∙ p.4);
  visits = λ key visitor has. h.visits key visitor (sym (a.visits key visitor) ∙ has);
  used = h.used;
}

-- ---- the first of them

pub first-removed : (items : List TallySeen) (first : TallySeen) → first ≡ get_or items 0 first → 0 < length items → items ≡ first ∷ remove items 0
first-removed [] first is some = absurd (omega (arith, some))
first-removed (t ∷ items) first is some = ap (λ (u : TallySeen). u ∷ items) (sym is)

-- the totals of the others, added up to those of the first, fit where those of all do
pub first-fits : (first : TallySeen) (others : List TallySeen) → TotalsFit (totals_in (first ∷ others)) → TotalsFit (totals_from first.totals others)
first-fits first others fit = subst (λ (t : Totals). TotalsFit (totals_from t others)) (none-plus first.totals) fit

-- ---- all of them

pub absorbed-counted : (tallies : List TallySeen) (first : TallySeen) (others : List TallySeen) (t : TallySeen) → tallies ≡ first ∷ others → AbsorbsAll others first t
    → (outcomes : List Outcome) → AreCounted outcomes tallies → IsTallyOf outcomes t
absorbed-counted tallies first others t is absorbs outcomes are = go are.parts (subst (AreTalliesOf are.parts) is are.tallies_of) are.alike
  where
    go : (parts : List (List Outcome)) → AreTalliesOf parts (first ∷ others) → AreAlike outcomes (together parts) → IsTallyOf outcomes t
    go [] of alike = absurd of
    go (part ∷ parts) of alike = tally-alike outcomes (together (part ∷ parts)) t alike (absorbs part parts of.0 of.1)

pub none-counted : (tallies : List TallySeen) (t : TallySeen) → tallies ≡ [] → IsTallyOf [] t → (outcomes : List Outcome) → AreCounted outcomes tallies → IsTallyOf outcomes t
none-counted tallies t none is outcomes are = subst (λ (os : List Outcome). IsTallyOf os t) (sym (no-tallies outcomes (subst (AreCounted outcomes) none are))) is
