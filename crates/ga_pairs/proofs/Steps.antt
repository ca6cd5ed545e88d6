-- Each atomic step of the running set is one event.
use Rattle.std.proofs.Common.{◌≡◌, ◌≢◌, ℕ, ◌+◌, ◌<◌, ◌≤◌, eqb, List, length, get_or, set, sym, refl, ap, ◌∙◌, subst, arith}
use Rattle.std.specs.List.{Contains}
use Rattle.std.specs.Option.{IfSome}
use Rattle.std.specs.declared.option.Option.{Option}
use Rattle.std.specs.declared.option.Option.TheVariants.{None}
use Rattle.std.proofs.lemmas.List.{set-get_or}
use Rattle.std.proofs.lemmas.List.Elements.{All-get_or, All-contains}
use mathlib.Core.Option.{some}
use native.Mathlib.Decide.{ℕ_discrete}
use prog.Atomic.{either}
use lib.ListN.{get_elem?}
use Rattle.atomic_table.specs.Table.{Me, Act, keeps, stepped, Valid, Allows, Splits, Joins, carried_after}
use Rattle.atomic_table.proofs.Lists.{exchanged, set_else}
use Rattle.ga_draws.proofs.Views.{seat-there, seat-is}
use Rattle.ga_pairs.specs.Homes.{IsPair, word_of}
use Rattle.ga_pairs.specs.Pairs.{Inv, place_after, cell_after, won, met, given, left, joined}
use Rattle.ga_pairs.specs.Events.{resting, looking, nothing, passed_of, IsFreeFor}
use Rattle.ga_pairs.specs.Running.{Holds, Tries}
use Rattle.ga_pairs.specs.declared.view.Opening.{Opening}
use Rattle.ga_pairs.specs.declared.view.Pair.{Pair}
use Rattle.ga_pairs.specs.declared.view.PairView.{PairView}
use Rattle.ga_pairs.specs.declared.view.Probe.{Probe}
use Rattle.ga_pairs.proofs.Keeps.{InCells, won-keeps, met-keeps, moved-keeps, further, not-there, split-keeps, join-keeps}

abbrev pub Mine : Type 0
Mine = Me (Unit {0}) PairView

module _ (opening : Opening) where
  pub try-allowed : (slots id at cells : ℕ) (pair : Pair) (me : Mine) → opening.cells ≡ cells → IsPair pair → IsFreeFor me.0 pair → 1 ≤ me.0.claims.allowance
      → at ≡ place_after cells pair (passed_of me.0)
      → Allows (Holds opening) slots id me at (λ n. either (eqb n 0) (word_of pair) n) (λ n seat. Tries pair cells me n seat)
  try-allowed slots id at cells pair me is-cells numbers free allowance is-at s kept len seat-at small =
      let long : length s.words ≡ cells = kept.size ∙ is-cells in
      let at-here : at ≡ place_after (length s.words) pair (passed_of me.0) = is-at ∙ ap (λ (n : ℕ). place_after n pair (passed_of me.0)) (sym long) in
      let read : get_or s.words at 0 ≡ cell_after s.words pair (passed_of me.0) = ap (λ (k : ℕ). get_or s.words k 0) at-here in
      exchanged (get_or s.words at 0) 0 (word_of pair)
      (λ (x : ℕ). (w : PairView) × (a : Act (Unit {0})) × Valid s.homes me.1 a × Holds opening (stepped s at x id me.1 w a) × Tries pair cells me (get_or s.words at 0) (w, carried_after me.1 a))
      (λ hit. won-by at at-here (sym read ∙ hit) hit)
      (λ miss. by-word at at-here read long miss (ℕ_discrete (get_or s.words at 0) (word_of pair)))
    where
      there : id < length s.views
      there = seat-there s.views id me.0 seat-at

      is : get_or s.views id nothing ≡ me.0
      is = seat-is s.views id me.0 nothing seat-at

      won-by : (at : ℕ) → at ≡ place_after (length s.words) pair (passed_of me.0) → cell_after s.words pair (passed_of me.0) ≡ 0 → get_or s.words at 0 ≡ 0
          → (w : PairView) × (a : Act (Unit {0})) × Valid s.homes me.1 a × Holds opening (stepped s at (word_of pair) id me.1 w a) × Tries pair cells me (get_or s.words at 0) (w, carried_after me.1 a)
      won-by at at-here zero-here hit = (
        resting (won me.0.claims pair),
        keeps,
        tt,
        subst (λ (k : ℕ). Inv opening record { cells = set s.words k (word_of pair); views = set s.views id (resting (won me.0.claims pair)) }) (sym at-here)
            (won-keeps opening s.words s.views kept id me.0 there is pair numbers allowance free zero-here),
        record {
          won_it = λ _. (
            refl,
            λ asked-it.
                not-there opening s.words s.views kept id me.0 there is pair numbers allowance free zero-here
                (All-contains (λ (q : Pair). Contains s.words (word_of q)) me.0.claims.asked pair
                (subst (InCells s.words) is (All-get_or (InCells s.words) s.views id nothing there kept.in_cells)) asked-it),
          );
          same = λ e. absurd (let z : 0 ≡ word_of pair = sym hit ∙ e in omega arith);
          another = λ ne. absurd (ne hit);
        },
      )

      by-word : (at : ℕ) → at ≡ place_after (length s.words) pair (passed_of me.0) → get_or s.words at 0 ≡ cell_after s.words pair (passed_of me.0) → length s.words ≡ cells → get_or s.words at 0 ≢ 0
          → Dec (get_or s.words at 0 ≡ word_of pair)
          → (w : PairView) × (a : Act (Unit {0})) × Valid s.homes me.1 a × Holds opening (stepped s at (get_or s.words at 0) id me.1 w a) × Tries pair cells me (get_or s.words at 0) (w, carried_after me.1 a)
      by-word at at-here read long miss (yes same) = (
        resting (met me.0.claims pair),
        keeps,
        tt,
        subst (λ (xs : List ℕ). Inv opening record { cells = xs; views = set s.views id (resting (met me.0.claims pair)) }) (sym (set-get_or s.words at 0))
            (met-keeps opening s.words s.views kept id me.0 there is pair numbers allowance free (sym read ∙ same)),
        record { won_it = λ e. absurd (miss e); same = λ _. refl; another = λ _ ne. absurd (ne same) },
      )
      by-word at at-here read long miss (no ne) =
          let not-zero : cell_after s.words pair (passed_of me.0) ≢ 0 = λ e. miss (read ∙ e) in
          let not-word : cell_after s.words pair (passed_of me.0) ≢ word_of pair = λ e. ne (read ∙ e) in
          let more = further opening s.words s.views kept id me.0 there is pair numbers allowance free not-zero in (
            looking me.0.claims pair (passed_of me.0 + 1),
            keeps,
            tt,
            subst (λ (xs : List ℕ). Inv opening record { cells = xs; views = set s.views id (looking me.0.claims pair (passed_of me.0 + 1)) }) (sym (set-get_or s.words at 0))
                (moved-keeps opening s.words s.views kept id me.0 there is pair numbers allowance free not-zero not-word),
            record { won_it = λ e. absurd (miss e); same = λ e. absurd (ne e); another = λ _ _. (refl, subst (λ (n : ℕ). passed_of me.0 + 1 < n) long more) },
          )

  -- the same, where the word and the number of cells are told
  pub try-told : (slots id at cells word : ℕ) (pair : Pair) (me : Mine) → opening.cells ≡ cells → word_of pair ≡ word → IsPair pair → IsFreeFor me.0 pair → 1 ≤ me.0.claims.allowance
      → at ≡ place_after cells pair (passed_of me.0)
      → Allows (Holds opening) slots id me at (λ n. either (eqb n 0) word n) (λ n seat. Tries pair cells me n seat)
  try-told slots id at cells word pair me is-cells is-word numbers free allowance is-at =
      subst (λ (x : ℕ). Allows (Holds opening) slots id me at (λ n. either (eqb n 0) x n) (λ n seat. Tries pair cells me n seat)) is-word
      (try-allowed slots id at cells pair me is-cells numbers free allowance is-at)

  pub split-allowed : (id share allowance : ℕ) (v : PairView) → v.probe ≡ None → 1 ≤ share → share < v.claims.share → allowance ≤ v.claims.allowance
      → Splits (Holds opening) id v (resting (left v.claims share allowance)) (resting (given share allowance))
  split-allowed id share allowance v rests part less within s kept at =
      split-keeps opening s.words s.views kept id v (seat-there s.views id v at) (seat-is s.views id v nothing at) share allowance rests part less within

  pub join-allowed : (id other : ℕ) (v w : PairView) → Joins (Holds opening) id v other w (resting (joined v.claims w.claims)) nothing
  join-allowed id other v w s kept at apart its =
      let its' : get_elem? s.views other ≡ some w = sym (set_else s.views id other (resting (joined v.claims w.claims)) apart) ∙ its in
      join-keeps opening s.words s.views kept id v (seat-there s.views id v at) (seat-is s.views id v nothing at) other w (seat-there s.views other w its') apart (seat-is s.views other w nothing its')

-- a view that rests looks for no other pair, and has passed no cell
pub rests-free : (probe : Option Probe) (pair : Pair) → probe ≡ None → IfSome probe (λ p. p.pair ≡ pair)
rests-free probe pair e = subst (λ (o : Option Probe). IfSome o (λ p. p.pair ≡ pair)) (sym e) tt
