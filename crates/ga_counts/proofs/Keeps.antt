-- Each event keeps the invariant.
use Rattle.std.proofs.Common.{◌≡◌, ◌≢◌, ℕ, ◌+◌, ◌<◌, ◌≤◌, max, List, [], ◌∷◌, length, get_or, set, sym, refl, ap, ◌∙◌, subst, arith}
use Rattle.std.proofs.Common.{length-set}
use Rattle.std.specs.List.{sum_by}
use Rattle.std.proofs.lemmas.List.{get_or-set_same, get_or-set_other, length-replicate}
use Rattle.std.proofs.lemmas.List.Elements.{All-set, All-get_or}
use Rattle.std.proofs.lemmas.List.Sums.{sum_by-set}
use Rattle.ga_draws.specs.SeatViews.{after_split, after_join}
use Rattle.ga_counts.specs.Greatest.{greatest_by}
use Rattle.ga_draws.proofs.Views.{all-split, all-join, sum-split, sum-join}
use Rattle.ga_counts.proofs.Greatest.{greatest-set, greatest-same, greatest-split, greatest-join}
use Rattle.ga_counts.specs.Counts.{CountState, Inv, IsRow, IsSpent, tally_at, maximum_at, tallied, raised, given, left, joined, nothing}
use Rattle.ga_counts.specs.Events.{CountEvent, adds, raises, splits, joins, IsLawful, AreLawful, after, after_all}
use Rattle.ga_counts.specs.declared.view.CountView.{CountView}
use Rattle.ga_counts.specs.declared.view.Opening.{Opening}
use Rattle.ga_counts.proofs.Rows.{added-at, greater-at, length-added, length-greater, zeros-at, one-set}

abbrev Within : CountView → Type 0
Within v = (word : ℕ) → tally_at word v ≤ v.allowance

abbrev Spent : CountView → Type 0
Spent v = v.share ≡ 0 → IsSpent v

module _ (opening : Opening) where
  abbrev Rowed : CountView → Type 0
  Rowed v = 1 ≤ v.share → IsRow opening v.tallies v.maxima

module _ (opening : Opening) (words maxima : List ℕ) (views : List CountView) (kept : Inv opening record { words = words; maxima = maxima; views = views }) where
  pub add-keeps : (seat word n : ℕ) (v : CountView) → seat < length views → get_or views seat nothing ≡ v → 1 ≤ v.share → word < length words
      → tally_at word v + n ≤ v.allowance
      → Inv opening record { words = set words word (get_or words word 0 + n); maxima = maxima; views = set views seat (tallied v word n) }
  add-keeps seat word n v there is part within fits =
      let row : Rowed opening v = subst (Rowed opening) is (All-get_or (Rowed opening) views seat nothing there kept.rows) in
      let inside : word < length v.tallies = omega (arith, (row part).0, kept.row.0) in
      let w = tallied v word n in
      record {
        sums =
            let sum : (j : ℕ) → sum_by (tally_at j) (set views seat w) + tally_at j v ≡ get_or words j 0 + tally_at j w =
            λ j. let one = sum_by-set (tally_at j) views seat w nothing there in
            let here = ap (tally_at j) is in
            let was = kept.sums j in omega arith in
            one-set (λ (j x : ℕ). x ≡ sum_by (tally_at j) (set views seat w)) words word (get_or words word 0 + n) within
            (let s = sum word in
            let t : tally_at word w ≡ tally_at word v + n = get_or-set_same v.tallies word (tally_at word v + n) 0 inside in omega arith)
            (λ j ne.
            let s = sum j in
            let t : tally_at j w ≡ tally_at j v = get_or-set_other v.tallies word j (tally_at word v + n) 0 ne in omega arith);
        greatest = λ place. kept.greatest place ∙ sym (greatest-same (maximum_at place) views seat w nothing there (ap (maximum_at place) (sym is)));
        within = All-set Within views seat w
            (one-set (λ (j x : ℕ). x ≤ v.allowance) v.tallies word (tally_at word v + n) inside fits
            (λ j ne. subst Within is (All-get_or Within views seat nothing there kept.within) j))
            kept.within;
        allowances =
            let f : CountView → ℕ = λ u. u.allowance in
            let one = sum_by-set f views seat w nothing there in
            let here = ap f is in
            let was = kept.allowances in omega arith;
        limit = kept.limit;
        shares =
            let f : CountView → ℕ = λ u. u.share in
            let one = sum_by-set f views seat w nothing there in
            let here = ap f is in
            let was = kept.shares in omega arith;
        spent = All-set Spent views seat w (λ none. absurd (omega arith)) kept.spent;
        row = (length-set words word (get_or words word 0 + n) ∙ kept.row.0, kept.row.1);
        rows = All-set (Rowed opening) views seat w (λ some. (length-set v.tallies word (tally_at word v + n) ∙ (row part).0, (row part).1)) kept.rows;
      }

  pub raise-keeps : (seat place n : ℕ) (v : CountView) → seat < length views → get_or views seat nothing ≡ v → 1 ≤ v.share → place < length maxima
      → Inv opening record { words = words; maxima = set maxima place (max (get_or maxima place 0) n); views = set views seat (raised v place n) }
  raise-keeps seat place n v there is part within =
      let row : Rowed opening v = subst (Rowed opening) is (All-get_or (Rowed opening) views seat nothing there kept.rows) in
      let inside : place < length v.maxima = omega (arith, (row part).1, kept.row.1) in
      let w = raised v place n in
      record {
        sums = λ word.
            let one = sum_by-set (tally_at word) views seat w nothing there in
            let here = ap (tally_at word) is in
            let was = kept.sums word in omega arith;
        greatest =
            one-set (λ (j x : ℕ). x ≡ greatest_by (maximum_at j) (set views seat w)) maxima place (max (get_or maxima place 0) n) within
            (let t : maximum_at place w ≡ max (maximum_at place v) n = get_or-set_same v.maxima place (max (maximum_at place v) n) 0 inside in
            let here = ap (maximum_at place) is in
            let one = greatest-set (maximum_at place) views seat w nothing n there (omega arith) in
            let was = kept.greatest place in omega arith)
            (λ j ne.
            let t : maximum_at j w ≡ maximum_at j v = get_or-set_other v.maxima place j (max (maximum_at place v) n) 0 ne in
            kept.greatest j ∙ sym (greatest-same (maximum_at j) views seat w nothing there (t ∙ ap (maximum_at j) (sym is))));
        within = All-set Within views seat w (subst Within is (All-get_or Within views seat nothing there kept.within)) kept.within;
        allowances =
            let f : CountView → ℕ = λ u. u.allowance in
            let one = sum_by-set f views seat w nothing there in
            let here = ap f is in
            let was = kept.allowances in omega arith;
        limit = kept.limit;
        shares =
            let f : CountView → ℕ = λ u. u.share in
            let one = sum_by-set f views seat w nothing there in
            let here = ap f is in
            let was = kept.shares in omega arith;
        spent = All-set Spent views seat w (λ none. absurd (omega arith)) kept.spent;
        row = (kept.row.0, length-set maxima place (max (get_or maxima place 0) n) ∙ kept.row.1);
        rows = All-set (Rowed opening) views seat w (λ some. ((row part).0, length-set v.maxima place (max (maximum_at place v) n) ∙ (row part).1)) kept.rows;
      }

  pub split-keeps : (seat share allowance : ℕ) (v : CountView) → seat < length views → get_or views seat nothing ≡ v → 1 ≤ v.share → 1 ≤ share → share < v.share
      → ((word : ℕ) → tally_at word v + allowance ≤ v.allowance)
      → Inv opening record { words = words; maxima = maxima; views = after_split views seat (left v share allowance) (given v share allowance) }
  split-keeps seat share allowance v there is part some less room =
      let row : Rowed opening v = subst (Rowed opening) is (All-get_or (Rowed opening) views seat nothing there kept.rows) in
      let l = left v share allowance in
      let r = given v share allowance in
      let enough : allowance ≤ v.allowance = (let most = room 0 in omega arith) in
      record {
        sums = λ word. kept.sums word ∙ sym (sum-split (tally_at word) views seat l r nothing there
            (let here = ap (tally_at word) is in let zero-there : tally_at word r ≡ 0 = zeros-at (length v.tallies) word in omega arith));
        greatest = λ place. kept.greatest place ∙ sym (greatest-split (maximum_at place) views seat l r nothing there
            (ap (maximum_at place) (sym is)) (zeros-at (length v.maxima) place));
        within = all-split Within views seat l r
            (λ word. let most = room word in omega arith)
            (λ word. let zero-there : tally_at word r ≡ 0 = zeros-at (length v.tallies) word in omega arith)
            kept.within;
        allowances = sum-split (λ (u : CountView). u.allowance) views seat l r nothing there (let here = ap (λ (u : CountView). u.allowance) is in omega arith) ∙ kept.allowances;
        limit = kept.limit;
        shares = sum-split (λ (u : CountView). u.share) views seat l r nothing there (let here = ap (λ (u : CountView). u.share) is in omega arith) ∙ kept.shares;
        spent = all-split Spent views seat l r (λ none. absurd (omega arith)) (λ none. absurd (omega arith)) kept.spent;
        row = kept.row;
        rows = all-split (Rowed opening) views seat l r (λ _. row part)
            (λ _. (length-replicate (length v.tallies) 0 ∙ (row part).0, length-replicate (length v.maxima) 0 ∙ (row part).1)) kept.rows;
      }

  pub join-keeps : (seat other : ℕ) (v w : CountView) → seat < length views → other < length views → other ≢ seat
      → get_or views seat nothing ≡ v → get_or views other nothing ≡ w → 1 ≤ v.share → 1 ≤ w.share
      → Inv opening record { words = words; maxima = maxima; views = after_join views seat (joined v w) other nothing }
  join-keeps seat other v w there too apart is its part part' =
      let row : Rowed opening v = subst (Rowed opening) is (All-get_or (Rowed opening) views seat nothing there kept.rows) in
      let row' : Rowed opening w = subst (Rowed opening) its (All-get_or (Rowed opening) views other nothing too kept.rows) in
      let most : Within v = subst Within is (All-get_or Within views seat nothing there kept.within) in
      let most' : Within w = subst Within its (All-get_or Within views other nothing too kept.within) in
      let b = joined v w in
      record {
        sums = λ word. kept.sums word ∙ sym (sum-join (tally_at word) views seat other b nothing nothing there too apart
            (let e = ap (tally_at word) is in let e' = ap (tally_at word) its in let both : tally_at word b ≡ tally_at word v + tally_at word w = added-at v.tallies w.tallies word in omega arith) refl);
        greatest = λ place. kept.greatest place ∙ sym (greatest-join (maximum_at place) views seat other b nothing nothing there too apart
            (let e = ap (maximum_at place) is in let e' = ap (maximum_at place) its in let both : maximum_at place b ≡ max (maximum_at place v) (maximum_at place w) = greater-at v.maxima w.maxima place in omega arith) refl);
        within = all-join Within views seat other b nothing
            (λ word. let both : tally_at word b ≡ tally_at word v + tally_at word w = added-at v.tallies w.tallies word in let m = most word in let m' = most' word in omega arith)
            (λ word. omega arith) kept.within;
        allowances = sum-join (λ (u : CountView). u.allowance) views seat other b nothing nothing there too apart
            (let e = ap (λ (u : CountView). u.allowance) is in let e' = ap (λ (u : CountView). u.allowance) its in omega arith) refl ∙ kept.allowances;
        limit = kept.limit;
        shares = sum-join (λ (u : CountView). u.share) views seat other b nothing nothing there too apart
            (let e = ap (λ (u : CountView). u.share) is in let e' = ap (λ (u : CountView). u.share) its in omega arith) refl ∙ kept.shares;
        spent = all-join Spent views seat other b nothing (λ none. absurd (omega arith)) (λ _. record { allowance = refl; tallies = λ word. refl; maxima = λ place. refl }) kept.spent;
        row = kept.row;
        rows = all-join (Rowed opening) views seat other b nothing
            (λ _. (
              length-added v.tallies w.tallies ((row part).0 ∙ sym (row' part').0) ∙ (row part).0,
              length-greater v.maxima w.maxima ((row part).1 ∙ sym (row' part').1) ∙ (row part).1,
            ))
            (λ some. absurd (omega arith)) kept.rows;
      }

pub event-keeps : (opening : Opening) (s : CountState) (e : CountEvent) → Inv opening s → IsLawful s e → Inv opening (after s e)
event-keeps opening s (adds seat word n) kept law =
    add-keeps opening s.words s.maxima s.views kept seat word n (get_or s.views seat nothing) law.0.0 refl law.0.1 law.1 law.2
event-keeps opening s (raises seat place n) kept law =
    raise-keeps opening s.words s.maxima s.views kept seat place n (get_or s.views seat nothing) law.0.0 refl law.0.1 law.1
event-keeps opening s (splits seat share allowance) kept law =
    split-keeps opening s.words s.maxima s.views kept seat share allowance (get_or s.views seat nothing) law.0.0 refl law.0.1 law.1 law.2 law.3
event-keeps opening s (joins seat other) kept law =
    join-keeps opening s.words s.maxima s.views kept seat other (get_or s.views seat nothing) (get_or s.views other nothing) law.0.0 law.1.0 law.2 refl refl law.0.1 law.1.1

pub events-keep : (opening : Opening) (s : CountState) (es : List CountEvent) → Inv opening s → AreLawful s es → Inv opening (after_all s es)
events-keep opening s [] kept lawful = kept
events-keep opening s (e ∷ es) kept lawful = events-keep opening (after s e) es (event-keeps opening s e kept lawful.0) lawful.1
