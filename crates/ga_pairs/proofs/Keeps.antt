-- Each event keeps the invariant.
use Rattle.std.proofs.Common.{◌≡◌, ◌≢◌, ℕ, ◌+◌, ◌<◌, ◌≤◌, Bool, true, false, cond, not, eqb, List, [], ◌∷◌, ◌++◌, length, get_or, set, sym, refl, ap, ◌∙◌, subst, arith}
use Rattle.std.proofs.Common.{length-set, length-append, eq-eqb}
use Rattle.std.specs.List.{All, Contains, sum_by}
use Rattle.std.specs.Option.{IfSome}
use Rattle.std.specs.declared.option.Option.{Option}
use Rattle.std.specs.declared.option.Option.TheVariants.{None, Some}
use Rattle.std.proofs.lemmas.Bool.{ne_eqb, eqb-true, eqb-false}
use Rattle.std.proofs.lemmas.List.{get_or-set_same, get_or-set_other}
use Rattle.std.proofs.lemmas.List.Elements.{All-nil, All-set, All-get_or, All-weaker, All-push, All-append, Contains-push, Contains-append_left, Contains-append_right}
use Rattle.std.proofs.lemmas.List.Sums.{sum_by-set, sum_by_push, sum_by-append}
use native.Mathlib.Decide.{ℕ_discrete, dec_lt}
use Rattle.ga_draws.specs.SeatViews.{after_split, after_join}
use Rattle.ga_draws.proofs.Views.{all-split, all-join, sum-split, sum-join}
use Rattle.ga_pairs.specs.Homes.{IsPair, word_of, home, round}
use Rattle.ga_pairs.specs.Pairs.{PairState, Inv, IsSpent, HasPairs, HasPassed, times, times_in, place_after, cell_after, won, met, given, left, joined}
use Rattle.ga_pairs.specs.Events.{PairEvent, tries, splits, joins, resting, looking, nothing, cells_passed, passed_of, IsFreeFor, IsLawful, AreLawful, after_look, after, after_all, ChangesOnlyFromZero}
use Rattle.ga_pairs.specs.declared.view.Opening.{Opening}
use Rattle.ga_pairs.specs.declared.view.Pair.{Pair}
use Rattle.ga_pairs.specs.declared.view.PairView.{PairView}
use Rattle.ga_pairs.specs.declared.view.Probe.{Probe}
use Rattle.ga_pairs.proofs.Homes.{home-below, round-below, round-one, round-onto}
use Rattle.ga_pairs.proofs.Rows.{count-found, used-whole, place-of, contains-at}

abbrev pub Spent : PairView → Type 0
Spent v = v.claims.share ≡ 0 → IsSpent v

abbrev pub Asked : PairView → Type 0
Asked v = All (Contains v.claims.asked) v.claims.mine

abbrev pub InCells : List ℕ → PairView → Type 0
InCells cells v = All (λ pair. Contains cells (word_of pair)) v.claims.asked

abbrev pub Passed : List ℕ → PairView → Type 0
Passed cells v = IfSome v.probe (λ probe. HasPassed cells probe × (1 ≤ v.claims.allowance))

-- the cells that a view has passed which looks for the pair or for nothing
passed-cells : (cells : List ℕ) (pair : Pair) (allowance : ℕ) (probe : Option Probe) → IfSome probe (λ p. HasPassed cells p × (1 ≤ allowance)) → IfSome probe (λ p. p.pair ≡ pair)
    → (j : ℕ) → j < cells_passed probe → (cell_after cells pair j ≢ 0) × (cell_after cells pair j ≢ word_of pair)
passed-cells cells pair allowance None has free j less = absurd (omega arith)
passed-cells cells pair allowance (Some p) has free j less =
    subst (λ (q : Pair). (cell_after cells q j ≢ 0) × (cell_after cells q j ≢ word_of q)) free (has.0 j less)

module _ (opening : Opening) (cells : List ℕ) (views : List PairView) (kept : Inv opening record { cells = cells; views = views }) where
  -- there is a cell
  pub some-cell : 0 < length cells
  some-cell = let room = kept.room in omega arith

  -- not all cells are passed
  pub passed-below : (pair : Pair) (n : ℕ) → ((j : ℕ) → j < n → cell_after cells pair j ≢ 0) → n < length cells
  passed-below pair n passed = by-order (dec_lt n (length cells))
    where
      h : ℕ
      h = home (length cells) (word_of pair)

      each : length cells ≤ n → (i : ℕ) → i < length cells → get_or cells i 0 ≢ 0
      each all i within =
          let k = round-onto (length cells) (home (length cells) (word_of pair)) i (home-below (length cells) (word_of pair) some-cell) within in
          subst (λ (at : ℕ). get_or cells at 0 ≢ 0) k.2 (passed k.0 (let in-k = k.1 in omega arith))

      by-order : Dec (n < length cells) → n < length cells
      by-order (yes less) = less
      by-order (no more) = let whole = used-whole cells (each (omega arith)) in let room = kept.room in absurd (omega arith)

  -- what is known of the seat that takes a step
  module _ (seat : ℕ) (v : PairView) (there : seat < length views) (is : get_or views seat nothing ≡ v) where
    at-seat : (P : PairView → Type 0) → All P views → P v
    at-seat P each = subst P is (All-get_or P views seat nothing there each)

    sum-step : (f : PairView → ℕ) (w : PairView) → sum_by f (set views seat w) + f v ≡ sum_by f views + f w
    sum-step f w = let one = sum_by-set f views seat w nothing there in let here = ap f is in omega arith

    module _ (pair : Pair) (numbers : IsPair pair) (allowance : 1 ≤ v.claims.allowance) (free : IsFreeFor v pair) where
      pub passed-before : (j : ℕ) → j < passed_of v → (cell_after cells pair j ≢ 0) × (cell_after cells pair j ≢ word_of pair)
      passed-before = passed-cells cells pair v.claims.allowance v.probe (at-seat (Passed cells) kept.passed) free

      pub passed-few : passed_of v < length cells
      passed-few = passed-below pair (passed_of v) (λ j less. (passed-before j less).0)

      pub place-within : place_after (length cells) pair (passed_of v) < length cells
      place-within = round-below (length cells) (home (length cells) (word_of pair)) (passed_of v) (home-below (length cells) (word_of pair) some-cell) passed-few

      has-share : v.claims.share ≢ 0
      has-share none = let empty = (at-seat Spent kept.spent none).0 in absurd (omega arith)

      -- where the next cell is 0, the pair is in no cell
      pub not-there : cell_after cells pair (passed_of v) ≡ 0 → Contains cells (word_of pair) → ⊥
      not-there zero-here there' =
          let n : ℕ = passed_of v in
          let i = place-of cells (word_of pair) there' in
          let k = round-onto (length cells) (home (length cells) (word_of pair)) i.0 (home-below (length cells) (word_of pair) some-cell) i.1 in
          let word-here : cell_after cells pair k.0 ≡ word_of pair = ap (λ (at : ℕ). get_or cells at 0) k.2 ∙ i.2 in
          by-order k.0 k.1 word-here (dec_lt k.0 (passed_of v)) (dec_lt (passed_of v) k.0)
        where
          by-order : (k : ℕ) → k < length cells → cell_after cells pair k ≡ word_of pair → Dec (k < passed_of v) → Dec (passed_of v < k) → ⊥
          by-order k within word-here (yes before) d = (passed-before k before).1 word-here
          by-order k within word-here (no later) (yes behind) = kept.reached pair k within word-here (passed_of v) behind zero-here
          by-order k within word-here (no later) (no sooner) =
              let same : k ≡ passed_of v = omega arith in
              let e : word_of pair ≡ 0 = sym word-here ∙ (ap (cell_after cells pair) same ∙ zero-here) in omega arith

      -- the next cell is 0, and gets the pair's word
      pub won-keeps : cell_after cells pair (passed_of v) ≡ 0
          → Inv opening record { cells = set cells (place_after (length cells) pair (passed_of v)) (word_of pair); views = set views seat (resting (won v.claims pair)) }
      won-keeps zero-here =
          let n : ℕ = passed_of v in
          let size : ℕ = length cells in
          let place : ℕ = place_after (length cells) pair (passed_of v) in
          let word : ℕ = word_of pair in
          let after-cells : List ℕ = set cells (place_after (length cells) pair (passed_of v)) (word_of pair) in
          let w : PairView = resting (won v.claims pair) in
          let within = place-within in
          let long : length after-cells ≡ size = length-set cells place word in
          let other : (k : ℕ) → k ≢ place → get_or after-cells k 0 ≡ get_or cells k 0 = λ k ne. get_or-set_other cells place k word 0 ne in
          let here : get_or after-cells place 0 ≡ word = get_or-set_same cells place word 0 within in
          let stays : (k : ℕ) → get_or cells k 0 ≢ 0 → get_or after-cells k 0 ≡ get_or cells k 0 = λ k more. other k (λ e. more (ap (λ (at : ℕ). get_or cells at 0) e ∙ zero-here)) in
          let read : (q : Pair) (j : ℕ) → cell_after after-cells q j ≡ get_or after-cells (place_after size q j) 0 = λ q j. ap (λ (s : ℕ). get_or after-cells (place_after s q j) 0) long in
          let read-stays : (q : Pair) (j : ℕ) → cell_after cells q j ≢ 0 → cell_after after-cells q j ≡ cell_after cells q j = λ q j more. read q j ∙ stays (place_after size q j) more in
          let cells-step : (f : ℕ → ℕ) → f 0 ≡ 0 → sum_by f after-cells ≡ sum_by f cells + f word =
          λ f none. (let one = sum_by-set f cells place word 0 within in let z = ap f zero-here in omega arith) in
          record {
            shares = (let s = sum-step (λ (u : PairView). u.claims.share) w in let was = kept.shares in omega arith);
            spent = All-set Spent views seat w (λ none. absurd (has-share none)) kept.spent;
            placed = λ x more.
                let f : ℕ → ℕ = λ c. cond (eqb c x) 1 0 in
                let one = cells-step f (ap (λ b. cond {A = ℕ} b 1 0) (ne_eqb 0 x (λ e. more (sym e)))) in
                let views-step = sum-step (λ (u : PairView). times_in x u.claims.mine) w in
                let push : times_in x (v.claims.mine ++ pair ∷ []) ≡ times_in x v.claims.mine + f word = sum_by_push (λ (p : Pair). cond {A = ℕ} (eqb (word_of p) x) 1 0) v.claims.mine pair in
                let was = kept.placed x more in omega arith;
            once = λ x more.
                let f : ℕ → ℕ = λ c. cond (eqb c x) 1 0 in
                let one : times x after-cells ≡ times x cells + f word = cells-step f (ap (λ b. cond {A = ℕ} b 1 0) (ne_eqb 0 x (λ e. more (sym e)))) in
                once-by x more
                (λ same some-there.
                let found = count-found (λ (c : ℕ). eqb c x) cells some-there in
                not-there zero-here (subst (Contains cells) (eqb-true found.0 x found.2 ∙ sym same) found.1))
                one (ℕ_discrete (word_of pair) x);
            many =
                let one = cells-step (λ c. cond (not (eqb c 0)) 1 0) refl in
                let one-word : cond {A = ℕ} (not (eqb (word_of pair) 0)) 1 0 ≡ 1 = ap (λ b. cond {A = ℕ} (not b) 1 0) (ne_eqb (word_of pair) 0 (λ e. omega arith)) in
                let views-step = sum-step (λ (u : PairView). length u.claims.mine) w in
                let push : length (v.claims.mine ++ pair ∷ []) ≡ length v.claims.mine + 1 = length-append v.claims.mine (pair ∷ []) in
                let was = kept.many in omega arith;
            numbers =
                let has = at-seat HasPairs kept.numbers in
                All-set HasPairs views seat w (record { asked = All-push IsPair v.claims.asked pair has.asked numbers; mine = All-push IsPair v.claims.mine pair has.mine numbers; probe = tt }) kept.numbers;
            asked = All-set Asked views seat w
                (All-push (Contains (v.claims.asked ++ pair ∷ [])) v.claims.mine pair
                (All-weaker (Contains v.claims.asked) (Contains (v.claims.asked ++ pair ∷ [])) (λ q has. Contains-append_left v.claims.asked (pair ∷ []) q has) v.claims.mine (at-seat Asked kept.asked))
                (Contains-push v.claims.asked pair))
                kept.asked;
            in_cells =
                let more-cells : (q : Pair) → Contains cells (word_of q) → Contains after-cells (word_of q) =
                λ q has.
                let i = place-of cells (word_of q) has in
                let more : get_or cells i.0 0 ≢ 0 = λ e. (let z : word_of q ≡ 0 = sym i.2 ∙ e in omega arith) in
                contains-at after-cells i.0 (word_of q) (let in-i = i.1 in omega arith) (stays i.0 more ∙ i.2) in
                let weaker : (u : PairView) → InCells cells u → InCells after-cells u =
                λ u each. All-weaker (λ (q : Pair). Contains cells (word_of q)) (λ (q : Pair). Contains after-cells (word_of q)) more-cells u.claims.asked each in
                All-set (InCells after-cells) views seat w
                (All-push (λ (q : Pair). Contains after-cells (word_of q)) v.claims.asked pair (weaker v (at-seat (InCells cells) kept.in_cells))
                (contains-at after-cells place word (omega arith) here))
                (All-weaker (InCells cells) (InCells after-cells) weaker views kept.in_cells);
            reached = λ q at in-at word-at j less.
                let in-at' : at < size = omega arith in
                let word-at' : get_or after-cells (place_after size q at) 0 ≡ word_of q = sym (read q at) ∙ word-at in
                reached-by after-cells other here read-stays q at in-at' word-at' j less (ℕ_discrete (place_after (length cells) q at) (place_after (length cells) pair (passed_of v)));
            passed =
                let probe-stays : (p : Probe) → HasPassed cells p → HasPassed after-cells p =
                λ p has j less.
                let was = has j less in
                subst (λ (c : ℕ). (c ≢ 0) × (c ≢ word_of p.pair)) (sym (read-stays p.pair j was.0)) was in
                All-set (Passed after-cells) views seat w tt
                (All-weaker (Passed cells) (Passed after-cells) (λ u has. probe-weaker cells after-cells u.claims.allowance probe-stays u.probe has) views kept.passed);
            room =
                let one = cells-step (λ c. cond (not (eqb c 0)) 1 0) refl in
                let one-word : cond {A = ℕ} (not (eqb (word_of pair) 0)) 1 0 ≡ 1 = ap (λ b. cond {A = ℕ} (not b) 1 0) (ne_eqb (word_of pair) 0 (λ e. omega arith)) in
                let s = sum-step (λ (u : PairView). u.claims.allowance) w in
                let was = kept.room in omega arith;
            size = long ∙ kept.size;
          }
        where
          none-there : (n : ℕ) → (1 ≤ n → ⊥) → Dec (0 < n) → n ≡ 0
          none-there n none (yes more) = absurd (none more)
          none-there n none (no fewer) = omega arith

          once-by : (x : ℕ) → x ≢ 0 → (word_of pair ≡ x → 1 ≤ times x cells → ⊥)
              → times x (set cells (place_after (length cells) pair (passed_of v)) (word_of pair)) ≡ times x cells + cond (eqb (word_of pair) x) 1 0
              → Dec (word_of pair ≡ x) → times x (set cells (place_after (length cells) pair (passed_of v)) (word_of pair)) ≤ 1
          once-by x more none step (yes same) =
              let one-more : cond {A = ℕ} (eqb (word_of pair) x) 1 0 ≡ 1 = ap (λ b. cond {A = ℕ} b 1 0) (eq-eqb (word_of pair) x same) in
              let no-other : times x cells ≡ 0 = none-there (times x cells) (none same) (dec_lt 0 (times x cells)) in omega arith
          once-by x more none step (no ne) =
              let zero-more : cond {A = ℕ} (eqb (word_of pair) x) 1 0 ≡ 0 = ap (λ b. cond {A = ℕ} b 1 0) (ne_eqb (word_of pair) x ne) in
              let was = kept.once x more in omega arith

          reached-by : (after-cells : List ℕ) → ((k : ℕ) → k ≢ place_after (length cells) pair (passed_of v) → get_or after-cells k 0 ≡ get_or cells k 0)
              → get_or after-cells (place_after (length cells) pair (passed_of v)) 0 ≡ word_of pair
              → ((q : Pair) (j : ℕ) → cell_after cells q j ≢ 0 → cell_after after-cells q j ≡ cell_after cells q j)
              → (q : Pair) (at : ℕ) → at < length cells → get_or after-cells (place_after (length cells) q at) 0 ≡ word_of q → (j : ℕ) → j < at
              → Dec (place_after (length cells) q at ≡ place_after (length cells) pair (passed_of v)) → cell_after after-cells q j ≢ 0
          reached-by after-cells other here stays q at within word-at j less (yes same) =
              let word-same : word_of pair ≡ word_of q = sym here ∙ (ap (λ (k : ℕ). get_or after-cells k 0) (sym same) ∙ word-at) in
              let h : ℕ = home (length cells) (word_of pair) in
              let place-same : (k : ℕ) → place_after (length cells) q k ≡ place_after (length cells) pair k = λ k. ap (λ (x : ℕ). round (length cells) (home (length cells) x + k)) (sym word-same) in
              let at-is : at ≡ passed_of v = round-one (length cells) (home (length cells) (word_of pair)) at (passed_of v) (home-below (length cells) (word_of pair) some-cell) within passed-few (sym (place-same at) ∙ same) in
              let was = (passed-before j (omega arith)).0 in
              let was' : cell_after cells q j ≢ 0 = subst (λ (k : ℕ). get_or cells k 0 ≢ 0) (sym (place-same j)) was in
              subst (λ (c : ℕ). c ≢ 0) (sym (stays q j was')) was'
          reached-by after-cells other here stays q at within word-at j less (no ne) =
              let was = kept.reached q at within (sym (other (place_after (length cells) q at) ne) ∙ word-at) j less in
              subst (λ (c : ℕ). c ≢ 0) (sym (stays q j was)) was

          probe-weaker : (old new : List ℕ) (allowance : ℕ) → ((p : Probe) → HasPassed old p → HasPassed new p) → (probe : Option Probe)
              → IfSome probe (λ p. HasPassed old p × (1 ≤ allowance)) → IfSome probe (λ p. HasPassed new p × (1 ≤ allowance))
          probe-weaker old new allowance stays None has = tt
          probe-weaker old new allowance stays (Some p) has = (stays p has.0, has.1)

      -- the next cell has the pair's word
      pub met-keeps : cell_after cells pair (passed_of v) ≡ word_of pair → Inv opening record { cells = cells; views = set views seat (resting (met v.claims pair)) }
      met-keeps word-here =
          let w : PairView = resting (met v.claims pair) in
          record {
            shares = (let s = sum-step (λ (u : PairView). u.claims.share) w in let was = kept.shares in omega arith);
            spent = All-set Spent views seat w (λ none. absurd (has-share none)) kept.spent;
            placed = λ x more. (let s = sum-step (λ (u : PairView). times_in x u.claims.mine) w in let was = kept.placed x more in omega arith);
            once = kept.once;
            many = (let s = sum-step (λ (u : PairView). length u.claims.mine) w in let was = kept.many in omega arith);
            numbers =
                let has = at-seat HasPairs kept.numbers in
                All-set HasPairs views seat w (record { asked = All-push IsPair v.claims.asked pair has.asked numbers; mine = has.mine; probe = tt }) kept.numbers;
            asked = All-set Asked views seat w
                (All-weaker (Contains v.claims.asked) (Contains (v.claims.asked ++ pair ∷ [])) (λ q has. Contains-append_left v.claims.asked (pair ∷ []) q has) v.claims.mine (at-seat Asked kept.asked))
                kept.asked;
            in_cells = All-set (InCells cells) views seat w
                (All-push (λ (q : Pair). Contains cells (word_of q)) v.claims.asked pair (at-seat (InCells cells) kept.in_cells)
                (contains-at cells (place_after (length cells) pair (passed_of v)) (word_of pair) place-within word-here))
                kept.in_cells;
            reached = kept.reached;
            passed = All-set (Passed cells) views seat w tt kept.passed;
            room = (let s = sum-step (λ (u : PairView). u.claims.allowance) w in let was = kept.room in omega arith);
            size = kept.size;
          }

      -- the next cell has another word
      pub moved-keeps : cell_after cells pair (passed_of v) ≢ 0 → cell_after cells pair (passed_of v) ≢ word_of pair
          → Inv opening record { cells = cells; views = set views seat (looking v.claims pair (passed_of v + 1)) }
      moved-keeps not-zero not-word =
          let w : PairView = looking v.claims pair (passed_of v + 1) in
          record {
            shares = (let s = sum-step (λ (u : PairView). u.claims.share) w in let was = kept.shares in omega arith);
            spent = All-set Spent views seat w (λ none. absurd (has-share none)) kept.spent;
            placed = λ x more. (let s = sum-step (λ (u : PairView). times_in x u.claims.mine) w in let was = kept.placed x more in omega arith);
            once = kept.once;
            many = (let s = sum-step (λ (u : PairView). length u.claims.mine) w in let was = kept.many in omega arith);
            numbers =
                let has = at-seat HasPairs kept.numbers in
                All-set HasPairs views seat w (record { asked = has.asked; mine = has.mine; probe = numbers }) kept.numbers;
            asked = All-set Asked views seat w (at-seat Asked kept.asked) kept.asked;
            in_cells = All-set (InCells cells) views seat w (at-seat (InCells cells) kept.in_cells) kept.in_cells;
            reached = kept.reached;
            passed = All-set (Passed cells) views seat w ((λ j less. passed-by j (dec_lt j (passed_of v)) (λ before. passed-before j before) less not-zero not-word), allowance) kept.passed;
            room = (let s = sum-step (λ (u : PairView). u.claims.allowance) w in let was = kept.room in omega arith);
            size = kept.size;
          }
        where
          passed-by : (j : ℕ) → Dec (j < passed_of v) → (j < passed_of v → (cell_after cells pair j ≢ 0) × (cell_after cells pair j ≢ word_of pair)) → j < passed_of v + 1
              → cell_after cells pair (passed_of v) ≢ 0 → cell_after cells pair (passed_of v) ≢ word_of pair → (cell_after cells pair j ≢ 0) × (cell_after cells pair j ≢ word_of pair)
          passed-by j (yes before) was less not-zero not-word = was before
          passed-by j (no later) was less not-zero not-word =
              let same : j ≡ passed_of v = omega arith in
              subst (λ (k : ℕ). (cell_after cells pair k ≢ 0) × (cell_after cells pair k ≢ word_of pair)) (sym same) (not-zero, not-word)

      -- where another word is there, a further cell is
      pub further : cell_after cells pair (passed_of v) ≢ 0 → passed_of v + 1 < length cells
      further not-zero = passed-below pair (passed_of v + 1) (λ j less. passed-by j (dec_lt j (passed_of v)) (λ before. (passed-before j before).0) less not-zero)
        where
          passed-by : (j : ℕ) → Dec (j < passed_of v) → (j < passed_of v → cell_after cells pair j ≢ 0) → j < passed_of v + 1 → cell_after cells pair (passed_of v) ≢ 0 → cell_after cells pair j ≢ 0
          passed-by j (yes before) was less not-zero = was before
          passed-by j (no later) was less not-zero =
              let same : j ≡ passed_of v = omega arith in
              subst (λ (k : ℕ). cell_after cells pair k ≢ 0) (sym same) not-zero

    pub split-keeps : (share allowance : ℕ) → v.probe ≡ None → 1 ≤ share → share < v.claims.share → allowance ≤ v.claims.allowance
        → Inv opening record { cells = cells; views = after_split views seat (resting (left v.claims share allowance)) (resting (given share allowance)) }
    split-keeps share allowance rests part less within =
        let l : PairView = resting (left v.claims share allowance) in
        let r : PairView = resting (given share allowance) in
        let has = at-seat HasPairs kept.numbers in
        let same : (f : PairView → ℕ) → f l + f r ≡ f v → sum_by f (after_split views seat l r) ≡ sum_by f views =
        λ f parts. sum-split f views seat l r nothing there (let here = ap f is in omega arith) in
        record {
          shares = same (λ u. u.claims.share) (omega arith) ∙ kept.shares;
          spent = all-split Spent views seat l r (λ none. absurd (omega arith)) (λ none. absurd (omega arith)) kept.spent;
          placed = λ x more. kept.placed x more ∙ sym (same (λ u. times_in x u.claims.mine) (omega arith));
          once = kept.once;
          many = kept.many ∙ sym (same (λ u. length u.claims.mine) (omega arith));
          numbers = all-split HasPairs views seat l r (record { asked = has.asked; mine = has.mine; probe = tt })
              (record { asked = All-nil IsPair; mine = All-nil IsPair; probe = tt }) kept.numbers;
          asked = all-split Asked views seat l r (at-seat Asked kept.asked) (All-nil (Contains [])) kept.asked;
          in_cells = all-split (InCells cells) views seat l r (at-seat (InCells cells) kept.in_cells) (All-nil (λ (q : Pair). Contains cells (word_of q))) kept.in_cells;
          reached = kept.reached;
          passed = all-split (Passed cells) views seat l r tt tt kept.passed;
          room = (let s = same (λ u. u.claims.allowance) (omega arith) in let was = kept.room in omega arith);
          size = kept.size;
        }

    pub join-keeps : (other : ℕ) (u : PairView) → other < length views → other ≢ seat → get_or views other nothing ≡ u
        → Inv opening record { cells = cells; views = after_join views seat (resting (joined v.claims u.claims)) other nothing }
    join-keeps other u too apart its =
        let b : PairView = resting (joined v.claims u.claims) in
        let at-other : (P : PairView → Type 0) → All P views → P u = λ P each. subst P its (All-get_or P views other nothing too each) in
        let has = at-seat HasPairs kept.numbers in
        let has' = at-other HasPairs kept.numbers in
        let same : (f : PairView → ℕ) → f b ≡ f v + f u → f nothing ≡ 0 → sum_by f (after_join views seat b other nothing) ≡ sum_by f views =
        λ f parts none. sum-join f views seat other b nothing nothing there too apart (let e = ap f is in let e' = ap f its in omega arith) none in
        record {
          shares = same (λ w. w.claims.share) refl refl ∙ kept.shares;
          spent = all-join Spent views seat other b nothing (both-spent (at-seat Spent kept.spent) (at-other Spent kept.spent)) (λ none. (refl, refl, refl)) kept.spent;
          placed = λ x more. kept.placed x more ∙ sym (same (λ w. times_in x w.claims.mine) (sum_by-append (λ (p : Pair). cond {A = ℕ} (eqb (word_of p) x) 1 0) v.claims.mine u.claims.mine) refl);
          once = kept.once;
          many = kept.many ∙ sym (same (λ w. length w.claims.mine) (length-append v.claims.mine u.claims.mine) refl);
          numbers = all-join HasPairs views seat other b nothing
              (record { asked = All-append IsPair v.claims.asked u.claims.asked has.asked has'.asked; mine = All-append IsPair v.claims.mine u.claims.mine has.mine has'.mine; probe = tt })
              (record { asked = All-nil IsPair; mine = All-nil IsPair; probe = tt }) kept.numbers;
          asked = all-join Asked views seat other b nothing
              (All-append (Contains (v.claims.asked ++ u.claims.asked)) v.claims.mine u.claims.mine
              (All-weaker (Contains v.claims.asked) (Contains (v.claims.asked ++ u.claims.asked)) (λ q in-it. Contains-append_left v.claims.asked u.claims.asked q in-it) v.claims.mine (at-seat Asked kept.asked))
              (All-weaker (Contains u.claims.asked) (Contains (v.claims.asked ++ u.claims.asked)) (λ q in-it. Contains-append_right v.claims.asked u.claims.asked q in-it) u.claims.mine (at-other Asked kept.asked)))
              (All-nil (Contains [])) kept.asked;
          in_cells = all-join (InCells cells) views seat other b nothing
              (All-append (λ (q : Pair). Contains cells (word_of q)) v.claims.asked u.claims.asked (at-seat (InCells cells) kept.in_cells) (at-other (InCells cells) kept.in_cells))
              (All-nil (λ (q : Pair). Contains cells (word_of q))) kept.in_cells;
          reached = kept.reached;
          passed = all-join (Passed cells) views seat other b nothing tt tt kept.passed;
          room = (let s = same (λ w. w.claims.allowance) refl refl in let was = kept.room in omega arith);
          size = kept.size;
        }
      where
        both-spent : Spent v → Spent u → Spent (resting (joined v.claims u.claims))
        both-spent one two none =
            let a = one (omega arith) in
            let b = two (omega arith) in (
              omega (arith, a.0, b.0),
              ap (λ (xs : List Pair). xs ++ u.claims.asked) a.1 ∙ b.1,
              ap (λ (xs : List Pair). xs ++ u.claims.mine) a.2 ∙ b.2,
            )

look-keeps : (opening : Opening) (s : PairState) → Inv opening s → (seat : ℕ) (v : PairView) → seat < length s.views → get_or s.views seat nothing ≡ v → (pair : Pair) → IsPair pair → 1 ≤ v.claims.allowance → IsFreeFor v pair
    → (is_zero is_pair : Bool) → eqb (cell_after s.cells pair (passed_of v)) 0 ≡ is_zero → eqb (cell_after s.cells pair (passed_of v)) (word_of pair) ≡ is_pair
    → Inv opening (after_look s seat v pair is_zero is_pair)
look-keeps opening s kept seat v there is pair numbers allowance free true is_pair z p =
    won-keeps opening s.cells s.views kept seat v there is pair numbers allowance free (eqb-true (cell_after s.cells pair (passed_of v)) 0 z)
look-keeps opening s kept seat v there is pair numbers allowance free false true z p =
    met-keeps opening s.cells s.views kept seat v there is pair numbers allowance free (eqb-true (cell_after s.cells pair (passed_of v)) (word_of pair) p)
look-keeps opening s kept seat v there is pair numbers allowance free false false z p =
    moved-keeps opening s.cells s.views kept seat v there is pair numbers allowance free (eqb-false (cell_after s.cells pair (passed_of v)) 0 z) (eqb-false (cell_after s.cells pair (passed_of v)) (word_of pair) p)

pub event-keeps : (opening : Opening) (s : PairState) (e : PairEvent) → Inv opening s → IsLawful s e → Inv opening (after s e)
event-keeps opening s (tries seat pair) kept law =
    look-keeps opening s kept seat (get_or s.views seat nothing) law.0 refl pair law.2 law.1 law.3 _ _ refl refl
event-keeps opening s (splits seat share allowance) kept law =
    split-keeps opening s.cells s.views kept seat (get_or s.views seat nothing) law.0 refl share allowance law.1 law.2 law.3 law.4
event-keeps opening s (joins seat other) kept law =
    join-keeps opening s.cells s.views kept seat (get_or s.views seat nothing) law.0 refl other (get_or s.views other nothing) law.1 law.2 refl

pub events-keep : (opening : Opening) (s : PairState) (es : List PairEvent) → Inv opening s → AreLawful s es → Inv opening (after_all s es)
events-keep opening s [] kept lawful = kept
events-keep opening s (e ∷ es) kept lawful = events-keep opening (after s e) es (event-keeps opening s e kept lawful.0) lawful.1

-- a cell changes only from 0
look-changes : (s : PairState) (seat : ℕ) (v : PairView) (pair : Pair) (is_zero is_pair : Bool) → eqb (cell_after s.cells pair (passed_of v)) 0 ≡ is_zero
    → ChangesOnlyFromZero s.cells (after_look s seat v pair is_zero is_pair).cells
look-changes s seat v pair true is_pair z at more =
    get_or-set_other s.cells (place_after (length s.cells) pair (passed_of v)) at (word_of pair) 0
    (λ e. more (ap (λ (k : ℕ). get_or s.cells k 0) e ∙ eqb-true (cell_after s.cells pair (passed_of v)) 0 z))
look-changes s seat v pair false true z at more = refl
look-changes s seat v pair false false z at more = refl

pub cells-keep : (opening : Opening) (s : PairState) (e : PairEvent) → Inv opening s → IsLawful s e → ChangesOnlyFromZero s.cells (after s e).cells
cells-keep opening s (tries seat pair) kept law = look-changes s seat (get_or s.views seat nothing) pair _ _ refl
cells-keep opening s (splits seat share allowance) kept law = λ at more. refl
cells-keep opening s (joins seat other) kept law = λ at more. refl
