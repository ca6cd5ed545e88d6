-- Lines counted after lines.
use Rattle.std.proofs.Common.{◌≡◌, ℕ, List, [], ◌∷◌, ◌++◌, length, Option, Some, None, Vec, Global, refl, sym, ap, ◌∙◌, subst, arith, append_assoc, inl, inr}
use Rattle.ga_base.specs.declared.counts.Counter.{Counter}
use Rattle.ga_base.specs.declared.counts.Totals.{Totals}
use Rattle.ga_outcomes.proofs.Behind.{have_outcomes-append, or_else-none, over-append, plus-assoc, totals-cons}
use Rattle.ga_outcomes.proofs.Limits.{all-within}
use Rattle.ga_outcomes.specs.LineOutcomes.{FillsAmong}
use Rattle.ga_outcomes.specs.declared.setup.Setup.{Setup}
use Rattle.ga_workers.proofs.Alike.{countable-append}
use Rattle.ga_workers.proofs.Together.{counted-totals}
use Rattle.ga_workers.proofs.WeighedLines.{over-none}
use Rattle.ga_workers.specs.Together.{AreCounted, CountsOn, totals_in}
use Rattle.ga_logs.specs.Counting.{AreTallied, HasCountedBy, HaveTallies, LinesAreCounted}
use Rattle.ga_logs.specs.Steps.Counting.{AreSome}
use Rattle.ga_logs.specs.declared.full.Full.{Full}
use Rattle.ga_summary.specs.Limits.{over, passes}
use Rattle.ga_summary.specs.Outcomes.{Outcome, totals_of}
use Rattle.ga_base.specs.Totals.{totals_plus, TotalsFit}
use Rattle.ga_tallies.specs.Tallies.{TallySeen}

-- ---- outcomes

-- totals that no line fills fit
over-fits : (t : Totals) (os : List Outcome) → TotalsFit t → over t os ≡ None → TotalsFit (totals_plus t (totals_of os))
over-fits t [] fit none = record { lines = omega (arith, fit.lines); bytes = omega (arith, fit.bytes); micros = omega (arith, fit.micros) }
over-fits t (o ∷ os) fit none =
    let more = totals_plus t (totals_of (o ∷ [])) in
    let parts = or_else-none (passes more) (over more os) none in
    let along : totals_plus more (totals_of os) ≡ totals_plus t (totals_of (o ∷ os)) =
    plus-assoc t (totals_of (o ∷ [])) (totals_of os) ∙ ap (totals_plus t) (totals-cons o os) in
    subst TotalsFit along (over-fits more os (all-within more parts.0) parts.1)

-- ---- outcomes that are counted

-- the counters after them
behind : (start : Totals) (os : List Outcome) (tallies : List TallySeen) → AreTallied start os tallies → totals_plus start (totals_in tallies) ≡ totals_plus start (totals_of os)
behind start os tallies h = ap (totals_plus start) (counted-totals os tallies h.counted)

-- they fit, and so do those of the tallies alone
pub all-fit : (start : Totals) (tallies : List TallySeen) → TotalsFit start → AreSome start tallies → TotalsFit (totals_plus start (totals_in tallies))
all-fit start tallies fit some = subst TotalsFit (sym (behind start some.outcomes tallies some.tallied)) (over-fits start some.outcomes fit some.tallied.fits)

pub tallies-fit : (start : Totals) (tallies : List TallySeen) → TotalsFit start → AreSome start tallies → TotalsFit (totals_in tallies)
tallies-fit start tallies fit some =
    let all = all-fit start tallies fit some in
    record { lines = omega (arith, all.lines); bytes = omega (arith, all.bytes); micros = omega (arith, all.micros) }

-- lines that are counted after them, in tallies that were given away and came back
module _ (setup : Setup) (start : Totals) (all : List (List ℕ)) (old given new : List TallySeen) (same : given ≡ old) (behind-given : CountsOn setup all given new)
    (fit : TotalsFit (totals_plus start (totals_in new))) where
  on : CountsOn setup all old new
  on = subst (λ (ts : List TallySeen). CountsOn setup all ts new) same behind-given

  tallied-on : (os : List Outcome) → AreTallied start os old → AreTallied start (os ++ on.outcomes) new
  tallied-on os was =
      let counted = on.counted os was.counted in
      record {
        counted = counted;
        countable = countable-append os on.outcomes was.countable on.countable;
        fits = over-none start (os ++ on.outcomes) (subst (λ (t : Totals). TotalsFit (totals_plus start t)) (counted-totals (os ++ on.outcomes) new counted) fit);
      }

  pub some-on : AreSome start old → AreSome start new
  some-on was = record { outcomes = was.outcomes ++ on.outcomes; tallied = tallied-on was.outcomes was.tallied }

  pub counted-on : (before : List (List ℕ)) → LinesAreCounted setup start before old → LinesAreCounted setup start (before ++ all) new
  counted-on before was = record {
    outcomes = was.outcomes ++ on.outcomes;
    have_outcomes = have_outcomes-append setup before all was.outcomes on.outcomes was.have_outcomes on.have_outcomes;
    tallied = tallied-on was.outcomes was.tallied;
  }

  pub as-many-on : length new ≡ length old
  as-many-on = on.many

-- ---- counters that are full

-- lines after those that are counted fill a counter
pub fills-behind : (setup : Setup) (start : Totals) (before all : List (List ℕ)) (tallies given : List TallySeen) (which : Counter) (value : ℕ) → given ≡ tallies
    → LinesAreCounted setup start before tallies → FillsAmong setup (totals_plus start (totals_in given)) all which value → FillsAmong setup start (before ++ all) which value
fills-behind setup start before all tallies given which value same was h = record {
  front = before ++ h.front;
  back = h.back;
  split = ap (λ (x : List (List ℕ)). before ++ x) h.split ∙ sym (append_assoc before h.front h.back);
  outcomes = was.outcomes ++ h.outcomes;
  have_outcomes = have_outcomes-append setup before h.front was.outcomes h.outcomes was.have_outcomes h.have_outcomes;
  full = over-append start was.outcomes h.outcomes was.tallied.fits
      ∙ ap (λ (t : Totals). over t h.outcomes) (sym (behind start was.outcomes tallies was.tallied) ∙ ap (λ (ts : List TallySeen). totals_plus start (totals_in ts)) (sym same)) ∙ h.full;
}

-- no counter is full
pub unfilled : (o : Option Full) (setup : Setup) (start : Totals) (all : List (List ℕ)) (tallies : List TallySeen) → o ≡ None → HasCountedBy o setup start all tallies
    → LinesAreCounted setup start all tallies
unfilled o setup start all tallies is h = subst (λ (f : Option Full). HasCountedBy f setup start all tallies) is h

-- ---- no lines at all

-- the same vector has the same tallies
pub same-items : (v w : Vec TallySeen Global) → v ≡ w → v.items ≡ w.items
same-items v w is = ap (λ (u : Vec TallySeen Global). u.items) is

pub no-items : {A : Type 0} (xs : List A) → length xs ≡ 0 → xs ≡ []
no-items [] none = refl
no-items (x ∷ xs) none = absurd (omega (arith, none))

-- where there are no tallies nothing was counted
pub no-tallies : (os : List Outcome) → AreCounted os [] → os ≡ []
no-tallies os h = no-items os (sym (ap (λ (t : Totals). t.lines) (counted-totals os [] h)))

pub some-none : (start : Totals) (tallies : List TallySeen) → AreCounted [] tallies → AreSome start tallies
some-none start tallies none = record {
  outcomes = [];
  tallied = record { counted = none; countable = λ k d lt. absurd (omega arith); fits = refl };
}

pub none-counted : (tallies : List TallySeen) → tallies ≡ [] → AreCounted [] tallies
none-counted tallies is = subst (AreCounted []) (sym is) (record { parts = []; tallies_of = tt; alike = record { totals = refl; sums = λ key. refl; visits = λ key visitor. refl } })

-- tallies of no lines stand in for none
module _ (start : Totals) (old new : List TallySeen) (is : old ≡ []) (none : AreCounted [] new) where
  begun : (os : List Outcome) → AreTallied start os old → AreTallied start os new
  begun os h = record {
    counted = subst (λ (xs : List Outcome). AreCounted xs new) (sym (no-tallies os (subst (AreCounted os) is h.counted))) none;
    countable = h.countable;
    fits = h.fits;
  }

  pub has-begun : (setup : Setup) (before : List (List ℕ)) (o : Option Full) → HasCountedBy o setup start before old → HasCountedBy o setup start before new
  has-begun setup before (Some full) h = h
  has-begun setup before None h = record { outcomes = h.outcomes; have_outcomes = h.have_outcomes; tallied = begun h.outcomes h.tallied }

-- tallies that were counted on into are as many
pub have-on : (jobs : ℕ) (old new : List TallySeen) → HaveTallies jobs old → length new ≡ length old → HaveTallies jobs new
have-on jobs old new (inl none) many = inl (no-items new (many ∙ ap (λ (ts : List TallySeen). length ts) none))
have-on jobs old new (inr each) many = inr (many ∙ each)
