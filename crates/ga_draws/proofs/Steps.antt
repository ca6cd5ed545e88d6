-- Each atomic step of the running draws is one event.
use Rattle.std.proofs.Common.{◌≡◌, ℕ, ◌+◌, ◌%◌, ◌^◌, ◌<◌, ◌≤◌, List, length, get_or, set, sym, refl, ◌∙◌, subst, arith}
use Rattle.std.proofs.Common.{length-set}
use Rattle.std.proofs.lemmas.List.{get_or-set_same}
use mathlib.Core.Option.{none, some}
use lib.ListN.{get_elem?}
use Rattle.atomic_table.specs.Table.{State, Me, step, keeps, Allows, Splits, Joins}
use Rattle.atomic_table.proofs.Lists.{set_else, set_again}
use Rattle.ga_draws.proofs.Views.{seat-there, seat-is}
use Rattle.ga_draws.specs.Draws.{Inv, drew, given, left, joined, nothing}
use Rattle.ga_draws.specs.Running.{Holds, Draws, Looks}
use Rattle.ga_draws.specs.declared.view.DrawView.{DrawView}
use Rattle.ga_draws.specs.declared.view.Opening.{Opening}
use Rattle.ga_draws.proofs.Keeps.{draw-keeps, split-keeps, join-keeps, knows-all}

abbrev Table : Type 0
Table = State (Unit {0}) DrawView

abbrev Mine : Type 0
Mine = Me (Unit {0}) DrawView

module _ (opening : Opening) where
  pub draw-allowed : (shares slots id : ℕ) (me : Mine) → shares ≡ opening.shares → opening.allowance < 2 ^ 64 → 1 ≤ me.0.allowance
      → Allows (Holds opening) slots id me 0 (λ n. (n + 1) % 2 ^ 64) (λ n w. Draws shares (step slots 0 1 0 none) me n w)
  draw-allowed shares slots id me named fits left-over s kept len at small =
      let v = me.0 in
      let found : ℕ = get_or s.words 0 0 in
      let there = seat-there s.views id v at in
      let is = seat-is s.views id v nothing at in
      let inv : Inv opening record { counter = found; views = s.views } = kept.1 in
      let next = draw-keeps opening found s.views inv id v there is left-over in
      let below = next.allowances in
      let sum : found + 1 ≤ opening.allowance = omega arith in
      let small' : (found + 1) % 2 ^ 64 ≡ found + 1 = omega arith in
      let word : get_or (set s.words 0 ((found + 1) % 2 ^ 64)) 0 0 ≡ found + 1 = get_or-set_same s.words 0 ((found + 1) % 2 ^ 64) 0 (omega (arith, kept.0)) ∙ small' in
      let after : Inv opening record { counter = get_or (set s.words 0 ((found + 1) % 2 ^ 64)) 0 0; views = set s.views id (drew v found) } =
      subst (λ (n : ℕ). Inv opening record { counter = n; views = set s.views id (drew v found) }) (sym word) next in
      let there' : id < length (set s.views id (drew v found)) = omega (arith, length-set s.views id (drew v found)) in (
        drew v found,
        keeps,
        tt,
        (length-set s.words 0 ((found + 1) % 2 ^ 64) ∙ kept.0, after),
        (refl, λ whole. knows-all opening (found + 1) (set s.views id (drew v found)) next id (drew v found) there' (get_or-set_same s.views id (drew v found) nothing there) (whole ∙ named)),
      )

  pub look-allowed : (shares slots id : ℕ) (me : Mine) → shares ≡ opening.shares
      → Allows (Holds opening) slots id me 0 (λ n. n) (λ n w. Looks shares (step slots 0 0 0 none) me n w)
  look-allowed shares slots id me named s kept len at small =
      let found : ℕ = get_or s.words 0 0 in
      let word : get_or (set s.words 0 found) 0 0 ≡ found = get_or-set_same s.words 0 found 0 (omega (arith, kept.0)) in
      let views = set_again s.views id me.0 at in
      let inv : Inv opening record { counter = found; views = s.views } = kept.1 in
      let inv' : Inv opening record { counter = found; views = set s.views id me.0 } = subst (λ (vs : List DrawView). Inv opening record { counter = found; views = vs }) (sym views) inv in
      let after : Inv opening record { counter = get_or (set s.words 0 found) 0 0; views = set s.views id me.0 } =
      subst (λ (n : ℕ). Inv opening record { counter = n; views = set s.views id me.0 }) (sym word) inv' in (
        me.0,
        keeps,
        tt,
        (length-set s.words 0 found ∙ kept.0, after),
        (refl, λ whole. knows-all opening found s.views inv id me.0 (seat-there s.views id me.0 at) (seat-is s.views id me.0 nothing at) (whole ∙ named)),
      )

  pub split-allowed : (id share allowance : ℕ) (v : DrawView) → 1 ≤ share → share < v.share → allowance ≤ v.allowance
      → Splits (Holds opening) id v (left v share allowance) (given share allowance)
  split-allowed id share allowance v part less within s kept at =
      (kept.0, split-keeps opening (get_or s.words 0 0) s.views kept.1 id share allowance v (seat-there s.views id v at) (seat-is s.views id v nothing at) part less within)

  pub join-allowed : (id other : ℕ) (v w : DrawView) → Joins (Holds opening) id v other w (joined v w) nothing
  join-allowed id other v w s kept at apart its =
      let its' : get_elem? s.views other ≡ some w = sym (set_else s.views id other (joined v w) apart) ∙ its in
      (kept.0, join-keeps opening (get_or s.words 0 0) s.views kept.1 id other v w (seat-there s.views id v at) (seat-there s.views other w its') apart (seat-is s.views id v nothing at) (seat-is s.views other w nothing its'))
