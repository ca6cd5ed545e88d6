-- What all workers put into the tables, together.
use Rattle.std.proofs.Common.{◌≡◌, ℕ, zero, suc, ◌+◌, ◌<◌, max, List, [], ◌∷◌, ◌++◌, length, get_or, refl, ap, ◌∙◌, subst, arith}
use Rattle.std.specs.List.{flat_map, sum_by}
use Rattle.std.proofs.lemmas.List.{length-replicate}
use Rattle.std.proofs.lemmas.List.Concat.{flat_map-cons}
use Rattle.std.proofs.lemmas.List.Sums.{sum_by-cons}
use Rattle.ga_counts.specs.Counts.{blank, given, joined, maximum_at, tally_at}
use Rattle.ga_counts.specs.declared.view.CountView.{CountView}
use Rattle.ga_counts.proofs.Rows.{added-at, greater-at, zeros-at}
use Rattle.ga_pool.specs.Steps.Filling.{lists_from, max_from, sum_from}
use Rattle.ga_pool.specs.declared.filling.TableSeats.{TableSeats}
use Rattle.ga_pool.specs.declared.table_inputs.TableRows.{TableRows}
use Rattle.ga_counts.specs.Greatest.{greatest_by}

pub tally-joined : (word : ℕ) (v w : CountView) → tally_at word (joined v w) ≡ tally_at word v + tally_at word w
tally-joined word v w = added-at v.tallies w.tallies word

pub maximum-joined : (place : ℕ) (v w : CountView) → maximum_at place (joined v w) ≡ max (maximum_at place v) (maximum_at place w)
maximum-joined place v w = greater-at v.maxima w.maxima place

pub greatest-push : {V : Type 0} (f : V → ℕ) (vs : List V) (v : V) → greatest_by f (vs ++ v ∷ []) ≡ max (greatest_by f vs) (f v)
greatest-push f [] v = omega arith
greatest-push f (x ∷ vs) v = omega (arith, greatest-push f vs v)

pub blank-tally : (words places share allowance word : ℕ) → tally_at word (blank words places share allowance) ≡ 0
blank-tally words places share allowance word = zeros-at words word

pub blank-maximum : (words places share allowance place : ℕ) → maximum_at place (blank words places share allowance) ≡ 0
blank-maximum words places share allowance place = zeros-at places place

-- a seat that is split off a blank one is blank
pub given-blank : (words places s a share allowance : ℕ) → given (blank words places s a) share allowance ≡ blank words places share allowance
given-blank words places s a share allowance = λ i. blank (length-replicate {A = ℕ} words 0 i) (length-replicate {A = ℕ} places 0 i) share allowance

-- what holds at each place of a list still holds where an item is put after
pub at-push : {X : Type 0} (P : ℕ → X → Type 0) (xs : List X) (y : X) → ((i : ℕ) (d : X) → i < length xs → P i (get_or xs i d)) → P (length xs) y
    → (i : ℕ) (d : X) → i < length (xs ++ y ∷ []) → P i (get_or (xs ++ y ∷ []) i d)
at-push P [] y each last zero d lt = last
at-push P [] y each last (suc i) d lt = absurd (omega arith)
at-push P (x ∷ xs) y each last zero d lt = each 0 d (omega arith)
at-push P (x ∷ xs) y each last (suc i) d lt =
    at-push (λ n. P (suc n)) xs y (λ n e within. each (suc n) e (omega arith)) (subst (λ (n : ℕ). P n y) (omega arith) last) i d (omega arith)

pub before-push : {X : Type 0} (xs : List X) (y d : X) (i : ℕ) → i < length xs → get_or (xs ++ y ∷ []) i d ≡ get_or xs i d
before-push [] y d i lt = absurd (omega arith)
before-push (x ∷ xs) y d zero lt = refl
before-push (x ∷ xs) y d (suc i) lt = before-push xs y d i (omega arith)

pub last-push : {X : Type 0} (xs : List X) (y d : X) → get_or (xs ++ y ∷ []) (length xs) d ≡ y
last-push [] y d = refl
last-push (x ∷ xs) y d = last-push xs y d

-- numbers that are known place by place, added up
pub sum-each : (f : ℕ → TableRows → ℕ) (h : TableSeats → ℕ) (k : ℕ) (puts : List TableSeats) (rows : List TableRows) → length puts ≡ length rows
    → ((i : ℕ) (p : TableSeats) (r : TableRows) → i < length rows → h (get_or puts i p) ≡ f (k + i) (get_or rows i r)) → sum_by h puts ≡ sum_from f k rows
sum-each f h k [] [] long each = refl
sum-each f h k [] (r ∷ rows) long each = absurd (omega arith)
sum-each f h k (p ∷ puts) [] long each = absurd (omega arith)
sum-each f h k (p ∷ puts) (r ∷ rows) long each =
    let here : h p ≡ f k r = each 0 p r (omega arith) ∙ ap (λ (n : ℕ). f n r) (omega arith) in
    let rest = sum-each f h (k + 1) puts rows (omega arith) (λ i q s lt. each (suc i) q s (omega arith) ∙ ap (λ (n : ℕ). f n (get_or rows i s)) (omega arith)) in
    omega (arith, sum_by-cons h p puts, here, rest)

-- the greatest of them
pub max-each : (f : ℕ → TableRows → ℕ) (h : TableSeats → ℕ) (k : ℕ) (puts : List TableSeats) (rows : List TableRows) → length puts ≡ length rows
    → ((i : ℕ) (p : TableSeats) (r : TableRows) → i < length rows → h (get_or puts i p) ≡ f (k + i) (get_or rows i r)) → greatest_by h puts ≡ max_from f k rows
max-each f h k [] [] long each = refl
max-each f h k [] (r ∷ rows) long each = absurd (omega arith)
max-each f h k (p ∷ puts) [] long each = absurd (omega arith)
max-each f h k (p ∷ puts) (r ∷ rows) long each =
    let here : h p ≡ f k r = each 0 p r (omega arith) ∙ ap (λ (n : ℕ). f n r) (omega arith) in
    let rest = max-each f h (k + 1) puts rows (omega arith) (λ i q s lt. each (suc i) q s (omega arith) ∙ ap (λ (n : ℕ). f n (get_or rows i s)) (omega arith)) in
    omega (arith, here, rest)

-- and lists, one after the other
pub lists-each : {X : Type 0} (f : ℕ → TableRows → List X) (h : TableSeats → List X) (k : ℕ) (puts : List TableSeats) (rows : List TableRows) → length puts ≡ length rows
    → ((i : ℕ) (p : TableSeats) (r : TableRows) → i < length rows → h (get_or puts i p) ≡ f (k + i) (get_or rows i r)) → flat_map h puts ≡ lists_from f k rows
lists-each f h k [] [] long each = refl
lists-each f h k [] (r ∷ rows) long each = absurd (omega arith)
lists-each f h k (p ∷ puts) [] long each = absurd (omega arith)
lists-each f h k (p ∷ puts) (r ∷ rows) long each =
    let here : h p ≡ f k r = each 0 p r (omega arith) ∙ ap (λ (n : ℕ). f n r) (omega arith) in
    let rest = lists-each f h (k + 1) puts rows (omega arith) (λ i q s lt. each (suc i) q s (omega arith) ∙ ap (λ (n : ℕ). f n (get_or rows i s)) (omega arith)) in
    flat_map-cons h p puts ∙ (λ i. here i ++ rest i)
