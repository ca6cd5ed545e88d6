-- What a closed table has: the tallies and maxima of the seat that has all shares.
use Rattle.std.proofs.Common.{◌≡◌, ℕ, ◌+◌, ◌<◌, ◌≤◌, List, length, get_or, take, drop, sym, ap, ◌∙◌, subst, arith}
use Rattle.std.proofs.Common.{length-take}
use Rattle.std.specs.List.{sum_by}
use Rattle.std.proofs.lemmas.List.{get_or-take, get_or-drop}
use Rattle.std.proofs.lemmas.List.Elements.{All-weaker, All-get_or}
use mathlib.Core.Option.{some}
use lib.ListN.{get_elem?}
use Rattle.atomic_table.specs.Table.{Final, Seen}
use Rattle.ga_draws.proofs.Views.{seat-there, seat-is, sum-whole}
use Rattle.ga_counts.proofs.Greatest.{greatest-whole}
use Rattle.ga_counts.specs.Counts.{Inv, IsRow, IsSpent, tally_at, maximum_at, nothing}
use Rattle.ga_counts.specs.Running.{Holds}
use Rattle.ga_counts.specs.declared.view.CountView.{CountView}
use Rattle.ga_counts.specs.declared.view.Opening.{Opening}
use Rattle.ga_counts.proofs.Rows.{same-rows}

module _ (opening : Opening) (words maxima : List ℕ) (views : List CountView) (kept : Inv opening record { words = words; maxima = maxima; views = views }) where
  whole : (seat : ℕ) (v : CountView) → seat < length views → get_or views seat nothing ≡ v → 1 ≤ opening.shares → v.share ≡ opening.shares → (words ≡ v.tallies) × (maxima ≡ v.maxima) × IsRow opening words maxima
  whole seat v there is part all =
      let share : CountView → ℕ = λ u. u.share in
      let mine : sum_by share views ≡ share (get_or views seat nothing) = kept.shares ∙ (sym all ∙ ap share (sym is)) in
      let row : IsRow opening v.tallies v.maxima =
      subst (λ (u : CountView). 1 ≤ u.share → IsRow opening u.tallies u.maxima) is (All-get_or (λ (u : CountView). 1 ≤ u.share → IsRow opening u.tallies u.maxima) views seat nothing there kept.rows) (omega arith) in (
        same-rows words v.tallies (kept.row.0 ∙ sym row.0) (λ word.
            kept.sums word
            ∙ (sum-whole (tally_at word) share views seat nothing there mine
            (All-weaker (λ (u : CountView). u.share ≡ 0 → IsSpent u) (λ (u : CountView). u.share ≡ 0 → tally_at word u ≡ 0) (λ u spent none. (spent none).tallies word) views kept.spent)
            ∙ ap (tally_at word) is)),
        same-rows maxima v.maxima (kept.row.1 ∙ sym row.1) (λ place.
            kept.greatest place
            ∙ (greatest-whole (maximum_at place) share views seat nothing there mine
            (All-weaker (λ (u : CountView). u.share ≡ 0 → IsSpent u) (λ (u : CountView). u.share ≡ 0 → maximum_at place u ≡ 0) (λ u spent none. (spent none).maxima place) views kept.spent)
            ∙ ap (maximum_at place) is)),
        kept.row,
      )

pub close-gives : (opening : Opening) (words maxima : ℕ) (row : List ℕ) (xs : List (Unit {0})) (id : ℕ) (v : CountView) → opening.words ≡ words → opening.maxima ≡ maxima
    → 1 ≤ opening.shares → v.share ≡ opening.shares
    → Final (Seen (Holds opening) id v) row xs
    → (take words row ≡ v.tallies) × (take maxima (drop words row) ≡ v.maxima) × IsRow opening (take words row) (take maxima (drop words row))
close-gives opening words maxima row xs id v is-words is-maxima part all last =
    let s = last.0 in
    let holds = last.1.0 in
    let at = last.1.1 in
    subst (λ (n : ℕ). (take n row ≡ v.tallies) × (take maxima (drop n row) ≡ v.maxima) × IsRow opening (take n row) (take maxima (drop n row))) is-words
    (subst (λ (n : ℕ). (take opening.words row ≡ v.tallies) × (take n (drop opening.words row) ≡ v.maxima) × IsRow opening (take opening.words row) (take n (drop opening.words row))) is-maxima
    (subst (λ (r : List ℕ). (take opening.words r ≡ v.tallies) × (take opening.maxima (drop opening.words r) ≡ v.maxima) × IsRow opening (take opening.words r) (take opening.maxima (drop opening.words r))) last.2
    (whole opening (take opening.words s.words) (take opening.maxima (drop opening.words s.words)) s.views holds.1 id v (seat-there s.views id v at) (seat-is s.views id v nothing at) part all)))

pub sum-reads : (row : List ℕ) (words word r : ℕ) → word < length (take words row) → get_elem? row word ≡ some r → r ≡ get_or (take words row) word 0
sum-reads row words word r within e =
    sym (get_or-take words row word 0 (omega (arith, length-take words row)) ∙ seat-is row word r 0 e)

pub maximum-reads : (row : List ℕ) (words maxima place r : ℕ) → place < length (take maxima (drop words row)) → get_elem? row (words + place) ≡ some r → r ≡ get_or (take maxima (drop words row)) place 0
maximum-reads row words maxima place r within e =
    sym (get_or-take maxima (drop words row) place 0 (omega (arith, length-take maxima (drop words row))) ∙ (get_or-drop words row place 0 ∙ seat-is row (words + place) r 0 e))
