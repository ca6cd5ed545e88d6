-- Each atomic step of the running counts is one event.
use Rattle.std.proofs.Common.{◌≡◌, ℕ, ◌+◌, ◌-◌, ◌*◌, ◌%◌, ◌^◌, ◌<◌, ◌≤◌, max, List, length, get_or, set, take, drop, sym, refl, ap, ◌∙◌, subst, arith}
use Rattle.std.proofs.Common.{length-set}
use Rattle.std.proofs.lemmas.List.{get_or-set_same, get_or-take, get_or-drop, take-set-le, drop-set-lt, drop-set-add}
use mathlib.Core.Option.{none, some}
use lib.ListN.{get_elem?}
use Rattle.atomic_table.specs.Table.{Me, step, keeps, Allows, Splits, Joins}
use Rattle.atomic_table.proofs.Lists.{set_else}
use Rattle.ga_draws.proofs.Views.{seat-there, seat-is, sum-below}
use Rattle.ga_counts.specs.Counts.{Inv, tally_at, tallied, raised, given, left, joined, nothing}
use Rattle.ga_counts.specs.Running.{Holds, Adds, Raises}
use Rattle.ga_counts.specs.declared.view.CountView.{CountView}
use Rattle.ga_counts.specs.declared.view.Opening.{Opening}
use Rattle.ga_counts.proofs.Keeps.{add-keeps, raise-keeps, split-keeps, join-keeps}
use Rattle.ga_counts.proofs.Rows.{take-of-set}

abbrev Mine : Type 0
Mine = Me (Unit {0}) CountView

-- no word passes the opening allowance
below-limit : (opening : Opening) (words maxima : List ℕ) (views : List CountView) → Inv opening record { words = words; maxima = maxima; views = views } → (word : ℕ) → get_or words word 0 < 2 ^ 64
below-limit opening words maxima views kept word =
    let sum = kept.sums word in
    let most = sum-below (tally_at word) (λ (v : CountView). v.allowance) views (λ k d within. kept.within k d within word) in
    let all = kept.allowances in
    let limit : opening.allowance ≤ 3 * (2 ^ 62 - 1) = kept.limit in
    omega arith

module _ (opening : Opening) where
  pub add-allowed : (slots id word n : ℕ) (me : Mine) → word < opening.words → 1 ≤ me.0.share → tally_at word me.0 + n ≤ me.0.allowance
      → Allows (Holds opening) slots id me word (λ x. (x + n) % 2 ^ 64) (λ r w. Adds (step slots word n 0 none) me r w)
  add-allowed slots id word n me inside part fits s kept len at small =
      let v = me.0 in
      let words : List ℕ = take opening.words s.words in
      let maxima : List ℕ = take opening.maxima (drop opening.words s.words) in
      let found : ℕ = get_or s.words word 0 in
      let found' : get_or words word 0 ≡ found = get_or-take opening.words s.words word 0 inside in
      let inv : Inv opening record { words = words; maxima = maxima; views = s.views } = kept.1 in
      let within : word < length words = omega (arith, inv.row.0) in
      let next = add-keeps opening words maxima s.views inv id word n v (seat-there s.views id v at) (seat-is s.views id v nothing at) part within fits in
      let bound = below-limit opening (set words word (get_or words word 0 + n)) maxima (set s.views id (tallied v word n)) next word in
      let there = get_or-set_same words word (get_or words word 0 + n) 0 within in
      let sum : (found + n) % 2 ^ 64 ≡ get_or words word 0 + n = omega arith in
      let first : take opening.words (set s.words word ((found + n) % 2 ^ 64)) ≡ set words word (get_or words word 0 + n) =
      take-of-set opening.words s.words word ((found + n) % 2 ^ 64) ∙ ap (λ (x : ℕ). set words word x) sum in
      let second : take opening.maxima (drop opening.words (set s.words word ((found + n) % 2 ^ 64))) ≡ maxima =
      ap (λ (xs : List ℕ). take opening.maxima xs) (drop-set-lt opening.words s.words word ((found + n) % 2 ^ 64) inside) in
      let after : Inv opening record { words = take opening.words (set s.words word ((found + n) % 2 ^ 64)); maxima = take opening.maxima (drop opening.words (set s.words word ((found + n) % 2 ^ 64))); views = set s.views id (tallied v word n) } =
      subst (λ (xs : List ℕ). Inv opening record { words = xs; maxima = take opening.maxima (drop opening.words (set s.words word ((found + n) % 2 ^ 64))); views = set s.views id (tallied v word n) }) (sym first)
      (subst (λ (xs : List ℕ). Inv opening record { words = set words word (get_or words word 0 + n); maxima = xs; views = set s.views id (tallied v word n) }) (sym second) next) in (
        tallied v word n,
        keeps,
        tt,
        (length-set s.words word ((found + n) % 2 ^ 64) ∙ kept.0, after),
        refl,
      )

  pub raise-allowed : (slots id row place n : ℕ) (me : Mine) → row ≡ opening.words + place → place < opening.maxima → 1 ≤ me.0.share
      → Allows (Holds opening) slots id me row (λ x. max x n) (λ r w. Raises place (step slots row n 0 none) me r w)
  raise-allowed slots id row place n me is-row inside part = subst (λ (k : ℕ). Allows (Holds opening) slots id me k (λ x. max x n) (λ r w. Raises place (step slots k n 0 none) me r w)) (sym is-row) here
    where
      here : Allows (Holds opening) slots id me (opening.words + place) (λ x. max x n) (λ r w. Raises place (step slots (opening.words + place) n 0 none) me r w)
      here s kept len at small =
          let v = me.0 in
          let spot : ℕ = opening.words + place in
          let words : List ℕ = take opening.words s.words in
          let maxima : List ℕ = take opening.maxima (drop opening.words s.words) in
          let found : ℕ = get_or s.words spot 0 in
          let found' : get_or maxima place 0 ≡ found = get_or-take opening.maxima (drop opening.words s.words) place 0 inside ∙ get_or-drop opening.words s.words place 0 in
          let inv : Inv opening record { words = words; maxima = maxima; views = s.views } = kept.1 in
          let within : place < length maxima = omega (arith, inv.row.1) in
          let next = raise-keeps opening words maxima s.views inv id place n v (seat-there s.views id v at) (seat-is s.views id v nothing at) part within in
          let first : take opening.words (set s.words spot (max found n)) ≡ words = take-set-le opening.words s.words spot (max found n) (omega arith) in
          let second : take opening.maxima (drop opening.words (set s.words spot (max found n))) ≡ set maxima place (max (get_or maxima place 0) n) =
          ap (λ (xs : List ℕ). take opening.maxima xs) (drop-set-add opening.words s.words place (max found n))
          ∙ (take-of-set opening.maxima (drop opening.words s.words) place (max found n) ∙ ap (λ (x : ℕ). set maxima place (max x n)) (sym found')) in
          let after : Inv opening record { words = take opening.words (set s.words spot (max found n)); maxima = take opening.maxima (drop opening.words (set s.words spot (max found n))); views = set s.views id (raised v place n) } =
          subst (λ (xs : List ℕ). Inv opening record { words = xs; maxima = take opening.maxima (drop opening.words (set s.words spot (max found n))); views = set s.views id (raised v place n) }) (sym first)
          (subst (λ (xs : List ℕ). Inv opening record { words = words; maxima = xs; views = set s.views id (raised v place n) }) (sym second) next) in (
            raised v place n,
            keeps,
            tt,
            (length-set s.words spot (max found n) ∙ kept.0, after),
            refl,
          )

  pub split-allowed : (id share allowance : ℕ) (v : CountView) → 1 ≤ v.share → 1 ≤ share → share < v.share → ((word : ℕ) → tally_at word v + allowance ≤ v.allowance)
      → Splits (Holds opening) id v (left v share allowance) (given v share allowance)
  split-allowed id share allowance v part more less room s kept at =
      (kept.0, split-keeps opening (take opening.words s.words) (take opening.maxima (drop opening.words s.words)) s.views kept.1 id share allowance v (seat-there s.views id v at) (seat-is s.views id v nothing at) part more less room)

  pub join-allowed : (id other : ℕ) (v w : CountView) → 1 ≤ v.share → 1 ≤ w.share → Joins (Holds opening) id v other w (joined v w) nothing
  join-allowed id other v w part part' s kept at apart its =
      let its' : get_elem? s.views other ≡ some w = sym (set_else s.views id other (joined v w) apart) ∙ its in
      (kept.0, join-keeps opening (take opening.words s.words) (take opening.maxima (drop opening.words s.words)) s.views kept.1 id other v w (seat-there s.views id v at) (seat-there s.views other w its') apart (seat-is s.views id v nothing at) (seat-is s.views other w nothing its') part part')
