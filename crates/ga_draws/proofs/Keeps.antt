-- Each event keeps the invariant, and a seat with all shares knows what was drawn.
use Rattle.std.proofs.Common.{◌≡◌, ◌≢◌, ℕ, ◌+◌, ◌<◌, ◌≤◌, cond, eqb, List, [], ◌∷◌, ◌++◌, length, get_or, set, sym, refl, ap, ◌∙◌, subst, arith}
use Rattle.std.proofs.Common.{length-append}
use Rattle.std.specs.List.{sum_by}
use Rattle.std.proofs.lemmas.List.Elements.{All-set, All-get_or, All-weaker}
use Rattle.std.proofs.lemmas.List.Sums.{sum_by-set, sum_by_push, sum_by-append}
use Rattle.ga_draws.specs.SeatViews.{after_split, after_join}
use Rattle.ga_draws.proofs.Views.{all-split, all-join, sum-split, sum-join, sum-whole}
use Rattle.ga_draws.specs.Draws.{DrawState, Inv, IsSpent, AreAllBelow, times, once_below, drew, given, left, joined, nothing}
use Rattle.ga_draws.specs.Events.{DrawEvent, draws, splits, joins, IsLawful, AreLawful, after, after_all}
use Rattle.ga_draws.specs.declared.view.DrawView.{DrawView}
use Rattle.ga_draws.specs.declared.view.Opening.{Opening}

-- one number more is drawn
once-more : (counter number : ℕ) → once_below (counter + 1) number ≡ once_below counter number + cond (eqb counter number) 1 0
once-more counter number = grind arith

module _ (opening : Opening) (counter : ℕ) (views : List DrawView) (kept : Inv opening record { counter = counter; views = views }) where
  pub draw-keeps : (seat : ℕ) (v : DrawView) → seat < length views → get_or views seat nothing ≡ v → 1 ≤ v.allowance
      → Inv opening record { counter = counter + 1; views = set views seat (drew v counter) }
  draw-keeps seat v there is some = record {
    numbers = λ number.
        let each : (get_or views seat nothing).drawn ≡ v.drawn = ap (λ (u : DrawView). u.drawn) is in
        let f : DrawView → ℕ = λ u. times number u.drawn in
        let one = sum_by-set f views seat (drew v counter) nothing there in
        let here : f (get_or views seat nothing) ≡ f v = ap f is in
        let more : f (drew v counter) ≡ f v + cond (eqb counter number) 1 0 = sum_by_push (λ (n : ℕ). cond (eqb n number) 1 0) v.drawn counter in
        let was = kept.numbers number in
        let next = once-more counter number in
        omega arith;
    many =
        let f : DrawView → ℕ = λ u. length u.drawn in
        let one = sum_by-set f views seat (drew v counter) nothing there in
        let here : f (get_or views seat nothing) ≡ f v = ap f is in
        let more : f (drew v counter) ≡ f v + 1 = length-append v.drawn (counter ∷ []) in
        let was = kept.many in
        omega arith;
    allowances =
        let f : DrawView → ℕ = λ u. u.allowance in
        let one = sum_by-set f views seat (drew v counter) nothing there in
        let here : f (get_or views seat nothing) ≡ f v = ap f is in
        let was = kept.allowances in
        omega arith;
    shares =
        let f : DrawView → ℕ = λ u. u.share in
        let one = sum_by-set f views seat (drew v counter) nothing there in
        let here : f (get_or views seat nothing) ≡ f v = ap f is in
        let was = kept.shares in
        omega arith;
    spent =
        let P : DrawView → Type 0 = λ u. u.share ≡ 0 → IsSpent u in
        let at : v.share ≡ 0 → IsSpent v = subst P is (All-get_or P views seat nothing there kept.spent) in
        All-set P views seat (drew v counter) (λ none. let empty = (at none).0 in absurd (omega arith)) kept.spent;
  }

  pub split-keeps : (seat share allowance : ℕ) (v : DrawView) → seat < length views → get_or views seat nothing ≡ v → 1 ≤ share → share < v.share → allowance ≤ v.allowance
      → Inv opening record { counter = counter; views = after_split views seat (left v share allowance) (given share allowance) }
  split-keeps seat share allowance v there is some less within = record {
    numbers = λ number. sum-split (λ (u : DrawView). times number u.drawn) views seat (left v share allowance) (given share allowance) nothing there
        (let here = ap (λ (u : DrawView). times number u.drawn) is in omega arith) ∙ kept.numbers number;
    many = sum-split (λ (u : DrawView). length u.drawn) views seat (left v share allowance) (given share allowance) nothing there
        (let here = ap (λ (u : DrawView). length u.drawn) is in omega arith) ∙ kept.many;
    allowances =
        let same = sum-split (λ (u : DrawView). u.allowance) views seat (left v share allowance) (given share allowance) nothing there
        (let here = ap (λ (u : DrawView). u.allowance) is in omega arith) in
        ap (λ (n : ℕ). counter + n) same ∙ kept.allowances;
    shares = sum-split (λ (u : DrawView). u.share) views seat (left v share allowance) (given share allowance) nothing there
        (let here = ap (λ (u : DrawView). u.share) is in omega arith) ∙ kept.shares;
    spent = all-split (λ (u : DrawView). u.share ≡ 0 → IsSpent u) views seat (left v share allowance) (given share allowance)
        (λ none. absurd (omega arith)) (λ none. absurd (omega arith)) kept.spent;
  }

  both-spent : (v w : DrawView) → (v.share ≡ 0 → IsSpent v) → (w.share ≡ 0 → IsSpent w) → (joined v w).share ≡ 0 → IsSpent (joined v w)
  both-spent v w one two none =
      let a = one (omega arith) in
      let b = two (omega arith) in (
        omega (arith, a.0, b.0),
        ap (λ (xs : List ℕ). xs ++ w.drawn) a.1 ∙ b.1,
      )

  pub join-keeps : (seat other : ℕ) (v w : DrawView) → seat < length views → other < length views → other ≢ seat
      → get_or views seat nothing ≡ v → get_or views other nothing ≡ w
      → Inv opening record { counter = counter; views = after_join views seat (joined v w) other nothing }
  join-keeps seat other v w there too apart is its = record {
    numbers = λ number.
        let f : DrawView → ℕ = λ u. times number u.drawn in
        sum-join f views seat other (joined v w) nothing nothing there too apart
        (sum_by-append (λ (n : ℕ). cond (eqb n number) 1 0) v.drawn w.drawn ∙ (let a = ap f is in let b = ap f its in omega arith)) refl ∙ kept.numbers number;
    many =
        let f : DrawView → ℕ = λ u. length u.drawn in
        sum-join f views seat other (joined v w) nothing nothing there too apart
        (length-append v.drawn w.drawn ∙ (let a = ap f is in let b = ap f its in omega arith)) refl ∙ kept.many;
    allowances =
        let f : DrawView → ℕ = λ u. u.allowance in
        let same = sum-join f views seat other (joined v w) nothing nothing there too apart
        (let a = ap f is in let b = ap f its in omega arith) refl in
        ap (λ (n : ℕ). counter + n) same ∙ kept.allowances;
    shares =
        let f : DrawView → ℕ = λ u. u.share in
        sum-join f views seat other (joined v w) nothing nothing there too apart
        (let a = ap f is in let b = ap f its in omega arith) refl ∙ kept.shares;
    spent =
        let P : DrawView → Type 0 = λ u. u.share ≡ 0 → IsSpent u in
        let one : P v = subst P is (All-get_or P views seat nothing there kept.spent) in
        let two : P w = subst P its (All-get_or P views other nothing too kept.spent) in
        all-join P views seat other (joined v w) nothing (both-spent v w one two) (λ none. (refl, refl)) kept.spent;
  }

  -- a seat with all shares has drawn all numbers so far
  pub knows-all : (seat : ℕ) (v : DrawView) → seat < length views → get_or views seat nothing ≡ v → v.share ≡ opening.shares → AreAllBelow v.drawn
  knows-all seat v there is whole number =
      let share : DrawView → ℕ = λ u. u.share in
      let all : sum_by share views ≡ share (get_or views seat nothing) = kept.shares ∙ (sym whole ∙ ap share (sym is)) in
      let many : sum_by (λ (u : DrawView). length u.drawn) views ≡ length v.drawn =
      sum-whole (λ (u : DrawView). length u.drawn) share views seat nothing there all
      (All-weaker (λ (u : DrawView). u.share ≡ 0 → IsSpent u) (λ (u : DrawView). u.share ≡ 0 → length u.drawn ≡ 0) (λ u spent none. ap (λ (xs : List ℕ). length xs) (spent none).1) views kept.spent)
      ∙ ap (λ (u : DrawView). length u.drawn) is in
      let mine : sum_by (λ (u : DrawView). times number u.drawn) views ≡ times number v.drawn =
      sum-whole (λ (u : DrawView). times number u.drawn) share views seat nothing there all
      (All-weaker (λ (u : DrawView). u.share ≡ 0 → IsSpent u) (λ (u : DrawView). u.share ≡ 0 → times number u.drawn ≡ 0) (λ u spent none. ap (λ (xs : List ℕ). times number xs) (spent none).1) views kept.spent)
      ∙ ap (λ (u : DrawView). times number u.drawn) is in
      let length-is : counter ≡ length v.drawn = sym kept.many ∙ many in
      sym mine ∙ (kept.numbers number ∙ ap (λ (n : ℕ). once_below n number) length-is)

pub event-keeps : (opening : Opening) (s : DrawState) (e : DrawEvent) → Inv opening s → IsLawful s e → Inv opening (after s e)
event-keeps opening s (draws seat) kept law = draw-keeps opening s.counter s.views kept seat (get_or s.views seat nothing) law.0 refl law.1
event-keeps opening s (splits seat share allowance) kept law = split-keeps opening s.counter s.views kept seat share allowance (get_or s.views seat nothing) law.0 refl law.1 law.2 law.3
event-keeps opening s (joins seat other) kept law = join-keeps opening s.counter s.views kept seat other (get_or s.views seat nothing) (get_or s.views other nothing) law.0 law.1 law.2 refl refl

pub events-keep : (opening : Opening) (s : DrawState) (es : List DrawEvent) → Inv opening s → AreLawful s es → Inv opening (after_all s es)
events-keep opening s [] kept lawful = kept
events-keep opening s (e ∷ es) kept lawful = events-keep opening (after s e) es (event-keeps opening s e kept lawful.0) lawful.1
