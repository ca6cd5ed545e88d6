-- The greatest value over a list of views, after a step of one seat, a split and a join.
use Rattle.std.proofs.Common.{◌≡◌, ◌≢◌, ℕ, zero, suc, ◌<◌, ◌≤◌, max, List, [], ◌∷◌, ◌++◌, length, get_or, set, refl, ap, arith}
use Rattle.std.proofs.Common.{length-set}
use Rattle.std.specs.List.{All, sum_by}
use Rattle.std.proofs.lemmas.List.{get_or-set_other, get_or-set_same}
use Rattle.std.proofs.lemmas.List.Elements.{All-head, All-tail}
use Rattle.std.proofs.lemmas.List.Sums.{sum_by-cons, get_or-le-sum_by}
use Rattle.ga_draws.specs.SeatViews.{after_split, after_join}
use Rattle.ga_counts.specs.Greatest.{greatest_by}

module _ {V : Type 0} (f : V → ℕ) where
  greatest-at : (views : List V) (seat : ℕ) (d : V) → seat < length views → f (get_or views seat d) ≤ greatest_by f views
  greatest-at [] seat d there = absurd (omega arith)
  greatest-at (v ∷ vs) zero d there = omega arith
  greatest-at (v ∷ vs) (suc seat) d there = let rest = greatest-at vs seat d (omega arith) in omega arith

  -- one seat's value is raised by n
  pub greatest-set : (views : List V) (seat : ℕ) (w d : V) (n : ℕ) → seat < length views → f w ≡ max (f (get_or views seat d)) n → greatest_by f (set views seat w) ≡ max (greatest_by f views) n
  greatest-set [] seat w d n there e = absurd (omega arith)
  greatest-set (v ∷ vs) zero w d n there e = omega arith
  greatest-set (v ∷ vs) (suc seat) w d n there e = let rest = greatest-set vs seat w d n (omega arith) e in omega arith

  pub greatest-same : (views : List V) (seat : ℕ) (w d : V) → seat < length views → f w ≡ f (get_or views seat d) → greatest_by f (set views seat w) ≡ greatest_by f views
  greatest-same views seat w d there e = let same = greatest-set views seat w d 0 there (omega arith) in omega arith

  greatest-push : (views : List V) (w : V) → greatest_by f (views ++ w ∷ []) ≡ max (greatest_by f views) (f w)
  greatest-push [] w = omega arith
  greatest-push (v ∷ vs) w = let rest = greatest-push vs w in omega arith

  -- a view that another one outdoes can be spent
  greatest-spent : (views : List V) (seat other : ℕ) (spent d : V) → seat < length views → other < length views → other ≢ seat
      → f (get_or views other d) ≤ f (get_or views seat d) → f spent ≡ 0 → greatest_by f (set views other spent) ≡ greatest_by f views
  greatest-spent [] seat other spent d there too apart less none = absurd (omega arith)
  greatest-spent (v ∷ vs) zero zero spent d there too apart less none = absurd (apart refl)
  greatest-spent (v ∷ vs) zero (suc other) spent d there too apart less none = greatest-below vs other spent d (f v) (omega arith) less none
    where
      greatest-below : (views : List V) (other : ℕ) (spent d : V) (n : ℕ) → other < length views → f (get_or views other d) ≤ n → f spent ≡ 0 → max n (greatest_by f (set views other spent)) ≡ max n (greatest_by f views)
      greatest-below [] other spent d n too less none = absurd (omega arith)
      greatest-below (v ∷ vs) zero spent d n too less none = omega arith
      greatest-below (v ∷ vs) (suc other) spent d n too less none = let rest = greatest-below vs other spent d n (omega arith) less none in omega arith
  greatest-spent (v ∷ vs) (suc seat) zero spent d there too apart less none = let most = greatest-at vs seat d (omega arith) in omega arith
  greatest-spent (v ∷ vs) (suc seat) (suc other) spent d there too apart less none = let rest = greatest-spent vs seat other spent d (omega arith) (omega arith) (λ e. apart (ap suc e)) less none in omega arith

  pub greatest-split : (views : List V) (seat : ℕ) (left right d : V) → seat < length views → f left ≡ f (get_or views seat d) → f right ≡ 0 → greatest_by f (after_split views seat left right) ≡ greatest_by f views
  greatest-split views seat left right d there same none =
      let one = greatest-same views seat left d there same in
      let two = greatest-push (set views seat left) right in omega arith

  pub greatest-join : (views : List V) (seat other : ℕ) (both spent d : V) → seat < length views → other < length views → other ≢ seat
      → f both ≡ max (f (get_or views seat d)) (f (get_or views other d)) → f spent ≡ 0 → greatest_by f (after_join views seat both other spent) ≡ greatest_by f views
  greatest-join views seat other both spent d there too apart parts none =
      let one = greatest-set views seat both d (f (get_or views other d)) there parts in
      let most = greatest-at views other d too in
      let long = length-set views seat both in
      let kept = ap f (get_or-set_other views seat other both d apart) in
      let here = ap f (get_or-set_same views seat both d there) in
      let less : f (get_or (set views seat both) other d) ≤ f (get_or (set views seat both) seat d) = omega arith in
      let two = greatest-spent (set views seat both) seat other spent d (omega arith) (omega arith) apart less none in omega arith

  greatest-none : (share : V → ℕ) (views : List V) → sum_by share views ≡ 0 → All (λ v. share v ≡ 0 → f v ≡ 0) views → greatest_by f views ≡ 0
  greatest-none share [] e each = refl
  greatest-none share (v ∷ vs) e each =
      let s = sum_by-cons share v vs in
      let here : f v ≡ 0 = All-head (λ (u : V). share u ≡ 0 → f u ≡ 0) v vs each (omega arith) in
      let rest = greatest-none share vs (omega arith) (All-tail (λ (u : V). share u ≡ 0 → f u ≡ 0) v vs each) in omega arith

  -- where the shares of all views are those of one seat, the greatest value is its own
  pub greatest-whole : (share : V → ℕ) (views : List V) (seat : ℕ) (d : V) → seat < length views → sum_by share views ≡ share (get_or views seat d)
      → All (λ v. share v ≡ 0 → f v ≡ 0) views → greatest_by f views ≡ f (get_or views seat d)
  greatest-whole share [] seat d there e each = absurd (omega arith)
  greatest-whole share (v ∷ vs) zero d there e each =
      let s = sum_by-cons share v vs in
      let rest = greatest-none share vs (omega arith) (All-tail (λ (u : V). share u ≡ 0 → f u ≡ 0) v vs each) in omega arith
  greatest-whole share (v ∷ vs) (suc seat) d there e each =
      let s = sum_by-cons share v vs in
      let within : seat < length vs = omega arith in
      let most = get_or-le-sum_by share vs seat d within in
      let e' : sum_by share (v ∷ vs) ≡ share (get_or vs seat d) = e in
      let here : f v ≡ 0 = All-head (λ (u : V). share u ≡ 0 → f u ≡ 0) v vs each (omega arith) in
      let rest = greatest-whole share vs seat d within (omega arith) (All-tail (λ (u : V). share u ≡ 0 → f u ≡ 0) v vs each) in omega arith
