-- What a closed set has: the pairs of the seat that has all shares.
use Rattle.std.proofs.Common.{◌≡◌, ◌≢◌, ℕ, ◌<◌, ◌≤◌, Bool, true, cond, eqb, List, [], ◌∷◌, length, get_or, sym, refl, ap, ◌∙◌, subst, arith, eq-eqb}
use Rattle.std.specs.List.{AllPairs, Contains, sum_by}
use Rattle.std.proofs.lemmas.Bool.{eqb-true}
use Rattle.std.proofs.lemmas.List.Elements.{All-get_or, All-weaker, All-contains, Contains-get_or}
use Rattle.std.proofs.lemmas.List.Kept.{AllPairs-cons}
use Rattle.std.proofs.lemmas.List.Sums.{sum_by-cons}
use Rattle.atomic_table.specs.Table.{Final, Seen}
use Rattle.ga_draws.proofs.Views.{seat-there, seat-is, sum-whole}
use Rattle.ga_pairs.specs.Homes.{IsPair, word_of}
use Rattle.ga_pairs.specs.Pairs.{Inv, IsClosed, IsSpent, HasPairs, times, times_in}
use Rattle.ga_pairs.specs.Events.{nothing}
use Rattle.ga_pairs.specs.Running.{Holds}
use Rattle.ga_pairs.specs.declared.view.Opening.{Opening}
use Rattle.ga_pairs.specs.declared.view.Pair.{Pair}
use Rattle.ga_pairs.specs.declared.view.PairView.{PairView}
use Rattle.ga_pairs.proofs.Homes.{same-word}
use Rattle.ga_pairs.proofs.Keeps.{Asked, InCells}
use Rattle.ga_pairs.proofs.Rows.{count-there, count-found}

different-from : (pairs : List Pair) → ((word : ℕ) → word ≢ 0 → times_in word pairs ≤ 1) → AllPairs ◌≢◌ pairs
different-from [] once = λ i j d less within. absurd (omega arith)
different-from (p ∷ ps) once =
    AllPairs-cons ◌≢◌ p ps
    (λ k d within e.
    let test : Pair → Bool = λ q. eqb (word_of q) (word_of p) in
    let same : test (get_or ps k d) ≡ true = eq-eqb (word_of (get_or ps k d)) (word_of p) (ap word_of (sym e)) in
    let again = count-there test ps (get_or ps k d) (Contains-get_or ps k d within) same in
    let s = sum_by-cons (λ (q : Pair). cond {A = ℕ} (eqb (word_of q) (word_of p)) 1 0) p ps in
    let here : cond {A = ℕ} (eqb (word_of p) (word_of p)) 1 0 ≡ 1 = ap (λ b. cond {A = ℕ} b 1 0) (eq-eqb (word_of p) (word_of p) refl) in
    let most = once (word_of p) (λ z. omega arith) in omega arith)
    (different-from ps (λ word more.
    let s = sum_by-cons (λ (q : Pair). cond {A = ℕ} (eqb (word_of q) word) 1 0) p ps in
    let most = once word more in omega arith))

module _ (opening : Opening) (cells : List ℕ) (views : List PairView) (kept : Inv opening record { cells = cells; views = views }) where
  whole : (seat : ℕ) (v : PairView) → seat < length views → get_or views seat nothing ≡ v → v.claims.share ≡ opening.shares → IsClosed v.claims cells
  whole seat v there is all =
      let share : PairView → ℕ = λ u. u.claims.share in
      let mine : sum_by share views ≡ share (get_or views seat nothing) = kept.shares ∙ (sym all ∙ ap share (sym is)) in
      let same : (f : PairView → ℕ) → ((u : PairView) → u.claims.mine ≡ [] → f u ≡ 0) → sum_by f views ≡ f v =
      λ f none.
      sum-whole f share views seat nothing there mine
      (All-weaker (λ (u : PairView). u.claims.share ≡ 0 → IsSpent u) (λ (u : PairView). u.claims.share ≡ 0 → f u ≡ 0) (λ u spent no-share. none u (spent no-share).2) views kept.spent)
      ∙ ap f is in
      let theirs : (word : ℕ) → word ≢ 0 → times word cells ≡ times_in word v.claims.mine =
      λ word more. kept.placed word more ∙ same (λ u. times_in word u.claims.mine) (λ u empty. ap (times_in word) empty) in
      let numbers : HasPairs v = subst HasPairs is (All-get_or HasPairs views seat nothing there kept.numbers) in
      let in-asked : Asked v = subst Asked is (All-get_or Asked views seat nothing there kept.asked) in
      let in-cells : InCells cells v = subst (InCells cells) is (All-get_or (InCells cells) views seat nothing there kept.in_cells) in
      record {
        different = different-from v.claims.mine (λ word more. subst (λ (n : ℕ). n ≤ 1) (theirs word more) (kept.once word more));
        exact = λ pair. (
          λ in-mine. All-contains (Contains v.claims.asked) v.claims.mine pair in-asked in-mine,
          λ asked-it.
              let more : word_of pair ≢ 0 = λ e. omega arith in
              let in-cell = All-contains (λ (q : Pair). Contains cells (word_of q)) v.claims.asked pair in-cells asked-it in
              let some-there : 1 ≤ times (word_of pair) cells = count-there (λ (c : ℕ). eqb c (word_of pair)) cells (word_of pair) in-cell (eq-eqb (word_of pair) (word_of pair) refl) in
              let found = count-found (λ (q : Pair). eqb (word_of q) (word_of pair)) v.claims.mine (subst (λ (n : ℕ). 1 ≤ n) (theirs (word_of pair) more) some-there) in
              subst (Contains v.claims.mine)
              (same-word found.0 pair (All-contains IsPair v.claims.mine found.0 numbers.mine found.1) (All-contains IsPair v.claims.asked pair numbers.asked asked-it)
              (eqb-true (word_of found.0) (word_of pair) found.2))
              found.1,
        );
        theirs = λ word more. (theirs word more, kept.once word more);
        many = kept.many ∙ same (λ u. length u.claims.mine) (λ u empty. ap (λ (xs : List Pair). length xs) empty);
      }

pub close-gives : (opening : Opening) (row : List ℕ) (xs : List (Unit {0})) (id : ℕ) (v : PairView) → v.claims.share ≡ opening.shares → Final (Seen (Holds opening) id v) row xs → IsClosed v.claims row
close-gives opening row xs id v all last =
    let s = last.0 in
    let at = last.1.1 in
    subst (IsClosed v.claims) last.2 (whole opening s.words s.views last.1.0 id v (seat-there s.views id v at) (seat-is s.views id v nothing at) all)
