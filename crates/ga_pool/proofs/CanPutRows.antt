-- The rows of tallies can be put into tables of the numbers of their items.
use Rattle.std.proofs.Common.{◌≡◌, ℕ, zero, suc, ◌+◌, ◌<◌, ◌≤◌, Bool, true, false, cond, List, [], ◌∷◌, length, map, get_or, Some, refl, sym, ap, ◌∙◌, subst, arith}
use Rattle.std.specs.Prelude.{slice_get, fold}
use Rattle.std.specs.List.{AllZip, Contains, filter, sum_by}
use Rattle.std.proofs.lemmas.List.{get_or-map, length-map}
use Rattle.std.proofs.lemmas.List.Sums.{sum_by-cons}
use Rattle.std.proofs.lemmas.Option.{get_or_from_slice_get, slice_get-get_or, slice_get_within}
use Rattle.ga_base.specs.declared.counts.Sums.{Sums}
use Rattle.ga_base.specs.declared.counts.Totals.{Totals}
use Rattle.ga_base.specs.declared.key.Key.{Key}
use Rattle.ga_base.specs.declared.key.Visitor.{Visitor}
use Rattle.ga_base.specs.Orders.{is_same_key}
use Rattle.ga_pool.specs.Steps.Filling.{CanAdd, CanClaim, CanPut, numbers_at, weight_of_rows}
use Rattle.ga_pool.specs.Steps.TableInputs.{AreRowsOf}
use Rattle.ga_workers.specs.Together.{totals_in}
use Rattle.ga_pool.specs.declared.table_inputs.TableRows.{TableRows}
use Rattle.ga_pool.proofs.AllPairs.{contains-map}
use Rattle.ga_pool.proofs.AllWorkers.{HaveNumbers, keys_in, visitors_in}
use Rattle.ga_pool.proofs.Numbered.{one-place}
use Rattle.ga_pool.proofs.OneWorker.{HasNumbers}
use Rattle.ga_summary.specs.Outcomes.{Counted, Excluded, Failed, Hit, Outcome, has_key, hits_of, sums_of, totals_of}
use Rattle.ga_base.specs.Totals.{totals_plus, no_totals}
use Rattle.ga_tallies.specs.Tallies.{AreTalliesOf, IsTallyOf, TallySeen, pair_of}
use Rattle.ga_tallies.specs.declared.pairs.Pair.{Pair}
use Rattle.ga_numbers.proofs.Same.{key-itself, same-key}

part-of : (f : Hit → ℕ) (test : Hit → Bool) (hits : List Hit) → sum_by f (filter test hits) ≤ sum_by f hits
part-of f test [] = omega arith
part-of f test (x ∷ hits) = by (test x) (part-of f test hits)
  where
    by : (b : Bool) → sum_by f (filter test hits) ≤ sum_by f hits → sum_by f (cond b (x ∷ filter test hits) (filter test hits)) ≤ sum_by f (x ∷ hits)
    by true rest = omega (arith, rest, sum_by-cons f x hits, sum_by-cons f x (filter test hits))
    by false rest = omega (arith, rest, sum_by-cons f x hits)

fewer : (test : Hit → Bool) (hits : List Hit) → length (filter test hits) ≤ length hits
fewer test [] = omega arith
fewer test (x ∷ hits) = by (test x) (fewer test hits)
  where
    by : (b : Bool) → length (filter test hits) ≤ length hits → length (cond b (x ∷ filter test hits) (filter test hits)) ≤ length (x ∷ hits)
    by true rest = omega (arith, rest)
    by false rest = omega (arith, rest)

hits-few : (os : List Outcome) → length (hits_of os) ≤ length os
hits-few [] = omega arith
hits-few (Failed ∷ os) = omega (arith, hits-few os)
hits-few (Excluded ∷ os) = omega (arith, hits-few os)
hits-few (Counted hit ∷ os) = omega (arith, hits-few os)

-- a key's sums are at most the totals
abbrev IsWithin : ℕ → Sums → Type 0
IsWithin most sums = (sums.hits ≤ most) × (sums.bytes ≤ most) × (sums.micros ≤ most)

sums-within : (key : Key) (os : List Outcome) (most : ℕ) → (totals_of os).lines + (totals_of os).bytes + (totals_of os).micros ≤ most → IsWithin most (sums_of key os)
sums-within key os most fit = (
  omega (arith, fit, fewer (has_key key) (hits_of os), hits-few os),
  omega (arith, fit, part-of (λ (h : Hit). h.bytes) (has_key key) (hits_of os)),
  omega (arith, fit, part-of (λ (h : Hit). h.micros) (has_key key) (hits_of os)),
)

module _ (items : List Key) (people : List Visitor) (ns vs : List ℕ) (os : List Outcome) (t : TallySeen) (r : TableRows) (is : IsTallyOf os t) (mine : AreRowsOf t r)
    (hk : HasNumbers items ns t.keys) (hv : HasNumbers people vs t.visitors) (few : length t.keys < 4294967296) where
  long : length r.sums.items ≡ length t.keys
  long = ap length mine.sums ∙ ap length is.sums ∙ length-map t.keys (λ (x : Key). sums_of x os)

  -- the number of a row's key
  number-at : (i : ℕ) → i < length t.keys → (key : Key) × (k : ℕ) × (slice_get t.keys i ≡ Some key) × (i < length ns) × (get_or ns i 0 ≡ k) × (slice_get items k ≡ Some key)
  number-at i lt = at t.keys refl lt
    where
      at : (keys : List Key) → keys ≡ t.keys → i < length keys → (key : Key) × (k : ℕ) × (slice_get t.keys i ≡ Some key) × (i < length ns) × (get_or ns i 0 ≡ k) × (slice_get items k ≡ Some key)
      at [] e less = absurd (omega arith)
      at (x ∷ keys) e less =
          let there : slice_get t.keys i ≡ Some (get_or t.keys i x) = slice_get-get_or t.keys i x lt in
          let (k, number, item) = hk.mine i (get_or t.keys i x) there in
          (get_or t.keys i x, k, there, slice_get_within ns i k number, get_or_from_slice_get ns i k 0 number, item)

  many : (n : ℕ) → n ≡ length t.keys → n ≤ length ns
  many zero e = omega arith
  many (suc n) e = let (key, k, there, inside, number, item) = number-at n (omega arith) in omega (arith, inside)

  can-add : CanAdd (length items) (weight_of_rows r) ns r.sums.items
  can-add = record {
    many = omega (arith, long, many (length t.keys) refl);
    few = omega (arith, long, few);
    below = λ i lt.
        let (key, k, there, inside, number, item) = number-at i (omega (arith, lt, long)) in
        omega (arith, number, slice_get_within items k key item);
    apart = λ i j lt less same.
        let (key, k, there, inside, number, item) = number-at i (omega (arith, lt, long)) in
        let (key', k', there', inside', number', item') = number-at j (omega (arith, less, long)) in
        let one : k ≡ k' = sym number ∙ same ∙ number' in
        let mine' : Some key ≡ Some key' = sym item ∙ ap (slice_get items) one ∙ item' in
        one-place is_same_key key-itself same-key t.keys is.different_keys i j key' (there ∙ mine') there';
    within = λ i d lt.
        let (key, k, there, inside, number, item) = number-at i (omega (arith, lt, long)) in
        let row : get_or r.sums.items i d ≡ sums_of key os =
        ap (λ (rows : List Sums). get_or rows i d) (mine.sums ∙ is.sums) ∙ get_or-map (λ (x : Key). sums_of x os) t.keys i key d (omega (arith, lt, long))
        ∙ ap (λ (x : Key). sums_of x os) (get_or_from_slice_get t.keys i key key there) in
        let totals : r.totals ≡ totals_of os = mine.totals ∙ is.totals in
        let weight : (totals_of os).lines + (totals_of os).bytes + (totals_of os).micros ≤ weight_of_rows r =
        subst (λ (u : Totals). u.lines + u.bytes + u.micros ≤ weight_of_rows r) totals (omega arith) in
        subst (IsWithin (weight_of_rows r)) (sym row) (sums-within key os (weight_of_rows r) weight);
  }

  can-claim : CanClaim (length items) (length people) ns vs r.pairs.items
  can-claim = λ i d lt.
      let pair : Pair = get_or r.pairs.items i d in
      let has : Contains r.pairs.items pair = (i, lt, same-default r.pairs.items i pair d lt) in
      let (key, visitor, at-key, at-visitor, visits) = is.pairs pair.key pair.visitor (subst (λ (ps : List (ℕ × ℕ)). Contains ps (pair_of pair)) mine.pairs (contains-map pair_of r.pairs.items pair has)) in
      let (k, number, item) = hk.mine pair.key key at-key in
      let (v, name, person) = hv.mine pair.visitor visitor at-visitor in
      record {
        key = slice_get_within ns pair.key k number;
        visitor = slice_get_within vs pair.visitor v name;
        key_below = omega (arith, get_or_from_slice_get ns pair.key k 0 number, slice_get_within items k key item);
        visitor_below = omega (arith, get_or_from_slice_get vs pair.visitor v 0 name, slice_get_within people v visitor person);
      }
    where
      same-default : (xs : List Pair) (i : ℕ) (d e : Pair) → i < length xs → get_or xs i d ≡ get_or xs i e
      same-default [] i d e less = absurd (omega arith)
      same-default (x ∷ xs) zero d e less = refl
      same-default (x ∷ xs) (suc i) d e less = same-default xs i d e (omega arith)

-- so can those of each worker
pub all-can : (items : List Key) (people : List Visitor) (numbers names : List (List ℕ)) (worker : ℕ) (parts : List (List Outcome)) (ts : List TallySeen) (rows : List TableRows) → AreTalliesOf parts ts
    → AllZip AreRowsOf ts rows → HaveNumbers keys_in items numbers worker ts → HaveNumbers visitors_in people names worker ts → sum_by (λ (l : List Key). length l) (map keys_in ts) < 4294967295
    → (i : ℕ) (d : TableRows) → i < length rows → CanPut (length items) (length people) numbers names (worker + i) (get_or rows i d)
all-can items people numbers names worker [] [] [] are mine hk hv few i d lt = absurd (omega arith)
all-can items people numbers names worker [] [] (r ∷ rows) are mine hk hv few i d lt = absurd mine
all-can items people numbers names worker [] (t ∷ ts) rows are mine hk hv few i d lt = absurd are
all-can items people numbers names worker (p ∷ parts) [] rows are mine hk hv few i d lt = absurd are
all-can items people numbers names worker (p ∷ parts) (t ∷ ts) [] are mine hk hv few i d lt = absurd mine
all-can items people numbers names worker (p ∷ parts) (t ∷ ts) (r ∷ rows) are mine hk hv few zero d lt =
    let small : length t.keys < 4294967296 = omega (arith, few, sum_by-cons (λ (l : List Key). length l) t.keys (map keys_in ts)) in
    subst (λ (w : ℕ). CanPut (length items) (length people) numbers names w r) (omega arith)
    record {
      sums = can-add items people (numbers_at numbers worker) (numbers_at names worker) p t r are.0 mine.0 hk.0 hv.0 small;
      pairs = can-claim items people (numbers_at numbers worker) (numbers_at names worker) p t r are.0 mine.0 hk.0 hv.0 small;
    }
all-can items people numbers names worker (p ∷ parts) (t ∷ ts) (r ∷ rows) are mine hk hv few (suc i) d lt =
    subst (λ (w : ℕ). CanPut (length items) (length people) numbers names w (get_or rows i d)) (omega arith)
    (all-can items people numbers names (worker + 1) parts ts rows are.1 mine.1 hk.1 hv.1 (omega (arith, few, sum_by-cons (λ (l : List Key). length l) t.keys (map keys_in ts))) i d (omega arith))

-- the weights of all rows are those of all tallies
weigh-from : (start : Totals) (ts : List TallySeen) (rows : List TableRows) → AllZip AreRowsOf ts rows → let sum = fold (λ (sum : Totals) (t : TallySeen). totals_plus sum t.totals) start ts in
    start.lines + start.bytes + start.micros + sum_by weight_of_rows rows ≡ sum.lines + sum.bytes + sum.micros
weigh-from start [] [] mine = omega arith
weigh-from start [] (r ∷ rows) mine = absurd mine
weigh-from start (t ∷ ts) [] mine = absurd mine
weigh-from start (t ∷ ts) (r ∷ rows) mine =
    omega (arith, weigh-from (totals_plus start t.totals) ts rows mine.1, sum_by-cons weight_of_rows r rows, ap (λ (u : Totals). u.lines) mine.0.totals, ap (λ (u : Totals). u.bytes) mine.0.totals, ap (λ (u : Totals). u.micros) mine.0.totals)

pub weigh-all : (ts : List TallySeen) (rows : List TableRows) → AllZip AreRowsOf ts rows → sum_by weight_of_rows rows ≡ (totals_in ts).lines + (totals_in ts).bytes + (totals_in ts).micros
weigh-all ts rows mine = omega (arith, weigh-from no_totals ts rows mine)
