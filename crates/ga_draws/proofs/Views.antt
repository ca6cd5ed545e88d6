-- Sums and facts over a list of views, after a step of one seat, a split and a join.
use Rattle.std.proofs.Common.{◌≡◌, ◌≢◌, ℕ, zero, suc, ◌+◌, ◌<◌, ◌≤◌, List, [], ◌∷◌, length, get_or, set, sym, refl, ap, arith}
use Rattle.std.proofs.Common.{length-set}
use Rattle.std.specs.List.{All, sum_by}
use Rattle.std.proofs.lemmas.List.{get_or-set_other}
use Rattle.std.proofs.lemmas.List.Elements.{All-set, All-push, All-head, All-tail}
use Rattle.std.proofs.lemmas.List.Sums.{sum_by-set, sum_by_push, sum_by-cons, get_or-le-sum_by}
use mathlib.Core.Option.{some, some-injective, some-ne-none}
use lib.ListN.{get_elem?}
use Rattle.ga_draws.specs.SeatViews.{after_split, after_join}

module _ {V : Type 0} where
  -- what a seat of the running table is to the list
  pub seat-there : (views : List V) (seat : ℕ) (v : V) → get_elem? views seat ≡ some v → seat < length views
  seat-there [] seat v e = absurd (some-ne-none v (sym e))
  seat-there (x ∷ xs) zero v e = omega arith
  seat-there (x ∷ xs) (suc seat) v e = let rest = seat-there xs seat v e in omega arith

  pub seat-is : (views : List V) (seat : ℕ) (v d : V) → get_elem? views seat ≡ some v → get_or views seat d ≡ v
  seat-is [] seat v d e = absurd (some-ne-none v (sym e))
  seat-is (x ∷ xs) zero v d e = some-injective x v e
  seat-is (x ∷ xs) (suc seat) v d e = seat-is xs seat v d e

  pub all-split : (P : V → Type 0) (views : List V) (seat : ℕ) (left right : V) → P left → P right → All P views → All P (after_split views seat left right)
  all-split P views seat left right l r each = All-push P (set views seat left) right (All-set P views seat left l each) r

  pub all-join : (P : V → Type 0) (views : List V) (seat other : ℕ) (both spent : V) → P both → P spent → All P views → All P (after_join views seat both other spent)
  all-join P views seat other both spent b s each = All-set P (set views seat both) other spent s (All-set P views seat both b each)

module _ {V : Type 0} (f : V → ℕ) where
  pub sum-split : (views : List V) (seat : ℕ) (left right d : V) → seat < length views → f left + f right ≡ f (get_or views seat d) → sum_by f (after_split views seat left right) ≡ sum_by f views
  sum-split views seat left right d there parts =
      let one = sum_by-set f views seat left d there in
      let two = sum_by_push f (set views seat left) right in omega arith

  pub sum-join : (views : List V) (seat other : ℕ) (both spent d : V) → seat < length views → other < length views → other ≢ seat
      → f both ≡ f (get_or views seat d) + f (get_or views other d) → f spent ≡ 0 → sum_by f (after_join views seat both other spent) ≡ sum_by f views
  sum-join views seat other both spent d there too apart parts none =
      let one = sum_by-set f views seat both d there in
      let within : other < length (set views seat both) = omega (arith, length-set views seat both) in
      let two = sum_by-set f (set views seat both) other spent d within in
      let kept = ap f (get_or-set_other views seat other both d apart) in omega arith

  -- where the shares of all views are those of one seat, it alone has anything
  pub sum-none : (share : V → ℕ) (views : List V) → sum_by share views ≡ 0 → All (λ v. share v ≡ 0 → f v ≡ 0) views → sum_by f views ≡ 0
  sum-none share [] e each = refl
  sum-none share (v ∷ vs) e each =
      let s = sum_by-cons share v vs in
      let t = sum_by-cons f v vs in
      let here : f v ≡ 0 = All-head (λ (u : V). share u ≡ 0 → f u ≡ 0) v vs each (omega arith) in
      let rest = sum-none share vs (omega arith) (All-tail (λ (u : V). share u ≡ 0 → f u ≡ 0) v vs each) in omega arith

  pub sum-whole : (share : V → ℕ) (views : List V) (seat : ℕ) (d : V) → seat < length views → sum_by share views ≡ share (get_or views seat d)
      → All (λ v. share v ≡ 0 → f v ≡ 0) views → sum_by f views ≡ f (get_or views seat d)
  sum-whole share [] seat d there e each = absurd (omega arith)
  sum-whole share (v ∷ vs) zero d there e each =
      let s = sum_by-cons share v vs in
      let t = sum_by-cons f v vs in
      let rest = sum-none share vs (omega arith) (All-tail (λ (u : V). share u ≡ 0 → f u ≡ 0) v vs each) in omega arith
  sum-whole share (v ∷ vs) (suc seat) d there e each =
      let s = sum_by-cons share v vs in
      let t = sum_by-cons f v vs in
      let within : seat < length vs = omega arith in
      let most = get_or-le-sum_by share vs seat d within in
      let e' : sum_by share (v ∷ vs) ≡ share (get_or vs seat d) = e in
      let here : f v ≡ 0 = All-head (λ (u : V). share u ≡ 0 → f u ≡ 0) v vs each (omega arith) in
      let rest = sum-whole share vs seat d within (omega arith) (All-tail (λ (u : V). share u ≡ 0 → f u ≡ 0) v vs each) in omega arith

-- where one value is at most another in each view, so are their sums
pub sum-below : {V : Type 0} (f h : V → ℕ) (views : List V) → All (λ v. f v ≤ h v) views → sum_by f views ≤ sum_by h views
sum-below f h [] each = omega arith
sum-below {V} f h (v ∷ vs) each =
    let s = sum_by-cons f v vs in
    let t = sum_by-cons h v vs in
    let here : f v ≤ h v = All-head (λ (u : V). f u ≤ h u) v vs each in
    let rest = sum-below f h vs (All-tail (λ (u : V). f u ≤ h u) v vs each) in omega arith
