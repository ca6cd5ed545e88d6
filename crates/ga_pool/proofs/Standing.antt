-- The tables that all workers filled have what was counted.
use Rattle.std.proofs.Common.{◌≡◌, ◌≢◌, ℕ, zero, suc, ◌+◌, ◌*◌, ◌<◌, ◌≤◌, Bool, true, false, cond, eqb, nat_lt, List, [], ◌∷◌, length, map, get_or, Some, refl, sym, ap, ◌∙◌, subst, arith, zero-add}
use Rattle.std.specs.Prelude.{slice_get, slice_index}
use Rattle.std.specs.Cmp.{both_ways}
use Rattle.std.specs.List.{AllZip, Contains, IsDistinct, list_any}
use Rattle.std.proofs.lemmas.Bool.{eqb-true}
use Rattle.std.proofs.lemmas.Bool.Decides.{nat_tests}
use Rattle.std.proofs.lemmas.List.Sums.{sum_by-cons}
use Rattle.std.proofs.lemmas.Map.Views.{Contains-from_any, list_any-from_Contains}
use Rattle.std.proofs.lemmas.Option.{get_or_from_slice_get, slice_get-get_or, slice_get_within}
use Rattle.ga_base.specs.declared.counts.Sums.{Sums}
use Rattle.ga_base.specs.declared.counts.Totals.{Totals}
use Rattle.ga_base.specs.declared.key.Key.{Key}
use Rattle.ga_base.specs.declared.key.Visitor.{Visitor}
use Rattle.ga_base.specs.Orders.{is_same_key, is_same_visitor}
use Rattle.ga_counts.specs.Counts.{ClosedSeen}
use Rattle.ga_pairs.specs.Homes.{word_of}
use Rattle.ga_pairs.specs.Pairs.{times, times_in}
use Rattle.ga_pairs.specs.declared.view.Pair.{Pair as Claim}
use Rattle.ga_pool.specs.Stands.{IsVisit, Stands, said_of, sums_at_number}
use Rattle.ga_pool.specs.Steps.Filled.{ClosesOver}
use Rattle.ga_pool.specs.Steps.Filling.{adds, at_place, at_word, claims_of, lists_from, max_from, raises, sum_from}
use Rattle.ga_pool.specs.Steps.TableInputs.{AreRowsOf}
use Rattle.ga_workers.specs.Together.{totals_in}
use Rattle.ga_pool.specs.declared.counted.Counted.{Counted}
use Rattle.ga_pool.specs.declared.table_inputs.TableRows.{TableRows}
use Rattle.ga_pool.proofs.AllPairs.{claims-are, claims-have, key-counted, key-found, visitor-used}
use Rattle.ga_pool.proofs.AllWorkers.{HaveNumbers, all-add, all-raise, keys_in, visitors_in}
use Rattle.ga_workers.proofs.DrawnPieces.{contains-times}
use Rattle.ga_pool.proofs.Numbered.{AreNumbered}
use Rattle.ga_workers.proofs.Together.{totals-together}
use Rattle.ga_shards.specs.Numbers.{NumberingSeen}
use Rattle.ga_summary.specs.Outcomes.{Outcome, sums_of}
use Rattle.ga_tallies.specs.Tallies.{AreTalliesOf, TallySeen, together}
use Rattle.ga_numbers.proofs.Same.{key-laws, same-key}

-- the numbers of each worker's items
pub have-numbers : {T : Type 0} (own : TallySeen → List T) (lists : List (List T)) (n : NumberingSeen T) → AreNumbered lists n → (worker : ℕ) (ts : List TallySeen)
    → ((j : ℕ) → get_or lists (worker + j) [] ≡ get_or (map own ts) j []) → HaveNumbers own n.items n.numbers worker ts
have-numbers own lists n are worker [] same = tt
have-numbers own lists n are worker (t ∷ ts) same = (
  record {
    apart = are.apart;
    mine = λ l x at. are.numbered worker l x (ap (λ (list : List _). slice_get list l) (ap (λ (w : ℕ). get_or lists w []) (omega arith) ∙ same 0) ∙ at);
  },
  have-numbers own lists n are (worker + 1) ts (λ j. ap (λ (w : ℕ). get_or lists w []) (omega arith) ∙ same (suc j)),
)

at-hits : (k : ℕ) (s : Sums) → at_word (3 * k) k s ≡ s.hits
at-hits k s = grind (arith, nat_tests)

at-bytes : (k : ℕ) (s : Sums) → at_word (3 * k + 1) k s ≡ s.bytes
at-bytes k s = grind (arith, nat_tests)

at-micros : (k : ℕ) (s : Sums) → at_word (3 * k + 2) k s ≡ s.micros
at-micros k s = grind (arith, nat_tests)

at-max : (k : ℕ) (s : Sums) → at_place k k s ≡ s.max_micros
at-max k s = grind (arith, nat_tests)

-- a word that stands among those of claims is that of one
some-claim : (word : ℕ) (claims : List Claim) → 1 ≤ times_in word claims → (claim : Claim) × Contains claims claim × (word_of claim ≡ word)
some-claim word [] some = absurd (omega arith)
some-claim word (c ∷ claims) some = by (eqb (word_of c) word) refl (some-claim word claims)
  where
    by : (b : Bool) → eqb (word_of c) word ≡ b → (1 ≤ times_in word claims → (claim : Claim) × Contains claims claim × (word_of claim ≡ word)) → (claim : Claim) × Contains (c ∷ claims) claim × (word_of claim ≡ word)
    by true e rest = (c, (0, omega arith, refl), eqb-true (word_of c) word e)
    by false e rest =
        let none : ◌≡◌ {A = ℕ} (cond (eqb (word_of c) word) 1 0) 0 = ap (λ (b : Bool). cond b 1 0) e in
        let (claim, (i, within, at), is) = rest (omega (arith, some, none, sum_by-cons (λ (p : Claim). cond (eqb (word_of p) word) 1 0) c claims)) in
        (claim, (suc i, omega arith, at), is)

claim-times : (word : ℕ) (claims : List Claim) (claim : Claim) → word_of claim ≡ word → (i : ℕ) → i < length claims → get_or claims i claim ≡ claim → 1 ≤ times_in word claims
claim-times word [] claim is i within at = absurd (omega arith)
claim-times word (c ∷ claims) claim is zero within at =
    omega (arith, sum_by-cons (λ (p : Claim). cond (eqb (word_of p) word) 1 0) c claims, once (word_of c) word (ap word_of at ∙ is))
  where
    once : (a b : ℕ) → a ≡ b → ◌≡◌ {A = ℕ} (cond (eqb a b) 1 0) 1
    once a b e = grind (arith, nat_tests)
claim-times word (c ∷ claims) claim is (suc i) within at =
    omega (arith, sum_by-cons (λ (p : Claim). cond (eqb (word_of p) word) 1 0) c claims, claim-times word claims claim is i (omega arith) at)

times-contains : (word : ℕ) (words : List ℕ) → 1 ≤ times word words → Contains words word
times-contains word [] some = absurd (omega arith)
times-contains word (w ∷ words) some = by (eqb w word) refl (times-contains word words)
  where
    by : (b : Bool) → eqb w word ≡ b → (1 ≤ times word words → Contains words word) → Contains (w ∷ words) word
    by true e rest = (0, omega arith, eqb-true w word e)
    by false e rest =
        let none : ◌≡◌ {A = ℕ} (cond (eqb w word) 1 0) 0 = ap (λ (b : Bool). cond b 1 0) e in
        let (i, within, at) = rest (omega (arith, some, none, sum_by-cons (λ (x : ℕ). cond (eqb x word) 1 0) w words)) in
        (suc i, omega arith, at)

-- what the tables have
pub record AreFilled (keys : NumberingSeen Key) (visitors : NumberingSeen Visitor) (rows : List TableRows) (counts : ClosedSeen) (cells : List ℕ) : Type 0 where
  pub words : length counts.sums ≡ 3 * length keys.items
  pub places : length counts.maxima ≡ length keys.items
  pub sums : (word : ℕ) → slice_index counts.sums word ≡ sum_from (adds keys.numbers word) 0 rows
  pub maxima : (place : ℕ) → slice_index counts.maxima place ≡ max_from (raises keys.numbers place) 0 rows
  pub pairs : ClosesOver (lists_from (claims_of keys.numbers visitors.numbers) 0 rows) cells

module _ (parts : List (List Outcome)) (ts : List TallySeen) (rows : List TableRows) (keys : NumberingSeen Key) (visitors : NumberingSeen Visitor) (counts : ClosedSeen) (cells : List ℕ) (totals : Totals)
    (are : AreTalliesOf parts ts) (mine : AllZip AreRowsOf ts rows) (nk : AreNumbered (map keys_in ts) keys) (nv : AreNumbered (map visitors_in ts) visitors)
    (dk : IsDistinct is_same_key keys.items) (dv : IsDistinct is_same_visitor visitors.items) (sum : totals ≡ totals_in ts) (filled : AreFilled keys visitors rows counts cells) where
  all : List Outcome
  all = together parts

  hk : HaveNumbers keys_in keys.items keys.numbers 0 ts
  hk = have-numbers keys_in (map keys_in ts) keys nk 0 ts (λ j. ap (λ (w : ℕ). get_or (map keys_in ts) w []) (zero-add j))

  hv : HaveNumbers visitors_in visitors.items visitors.numbers 0 ts
  hv = have-numbers visitors_in (map visitors_in ts) visitors nv 0 ts (λ j. ap (λ (w : ℕ). get_or (map visitors_in ts) w []) (zero-add j))

  word-is : (k : ℕ) (key : Key) → slice_get keys.items k ≡ Some key → (word j : ℕ) → word ≡ 3 * k + j → j < 3 → slice_index counts.sums word ≡ at_word word k (sums_of key (together parts))
  word-is k key at word j w lt = filled.sums word ∙ all-add keys.items keys.numbers k key at word j w lt 0 parts ts rows are mine hk

  sums-are : (k : ℕ) (key : Key) → slice_get keys.items k ≡ Some key → sums_at_number counts k ≡ sums_of key (together parts)
  sums-are k key at =
      let s = sums_of key (together parts) in
      let hits : slice_index counts.sums (3 * k) ≡ s.hits = word-is k key at (3 * k) 0 (omega arith) (omega arith) ∙ at-hits k s in
      let bytes : slice_index counts.sums (3 * k + 1) ≡ s.bytes = word-is k key at (3 * k + 1) 1 refl (omega arith) ∙ at-bytes k s in
      let micros : slice_index counts.sums (3 * k + 2) ≡ s.micros = word-is k key at (3 * k + 2) 2 refl (omega arith) ∙ at-micros k s in
      let most : slice_index counts.maxima k ≡ s.max_micros = filled.maxima k ∙ all-raise keys.items keys.numbers k key at 0 parts ts rows are mine hk ∙ at-max k s in
      λ i. record { hits = hits i; bytes = bytes i; micros = micros i; max_micros = most i }

  keys-are : (key : Key) → list_any (is_same_key key) keys.items ≡ nat_lt 0 (sums_of key (together parts)).hits
  keys-are key =
      both_ways (list_any (is_same_key key) keys.items) (nat_lt 0 (sums_of key (together parts)).hits)
      (λ has.
      let (k, within, here) = Contains-from_any same-key key keys.items has in
      let (d, l, item) = nk.used k key (slice_get-get_or keys.items k key within ∙ ap Some here) in
      key-counted parts ts are d l key item)
      (λ counted.
      let (d, l, item) = key-found parts ts are key counted in
      let (k, number, there) = nk.numbered d l key item in
      list_any-from_Contains key-laws key keys.items (k, slice_get_within keys.items k key there, get_or_from_slice_get keys.items k key key there))

  counted : Counted
  counted = record { totals = totals; keys = keys; visitors = visitors; counts = counts; pairs = cells }

  claims : List Claim
  claims = lists_from (claims_of keys.numbers visitors.numbers) 0 rows

  found : (word : ℕ) → word ≢ 0 → Contains cells word → IsVisit (record { totals = totals; keys = keys; visitors = visitors; counts = counts; pairs = cells }) (said_of (together parts)) word
  found word some (i, within, at) =
      let over = filled.pairs in
      let here : 1 ≤ times_in word over.claims.mine = omega (arith, contains-times word cells i within at, (over.closed.theirs word some).0) in
      let (claim, there, is) = some-claim word over.claims.mine here in
      let asked : Contains (lists_from (claims_of keys.numbers visitors.numbers) 0 rows) claim = subst (λ (l : List Claim). Contains l claim) over.asked_is ((over.closed.exact claim).0 there) in
      let one = claims-are keys.items keys.numbers visitors.items visitors.numbers 0 parts ts rows are mine hk hv claim asked in
      record { k = claim.key; v = claim.visitor; key = one.key; visitor = one.visitor; word_is = sym is; key_is = one.key_is; visitor_is = one.visitor_is; visits = one.visits }

  stands-there : (word : ℕ) → word ≢ 0 → IsVisit (record { totals = totals; keys = keys; visitors = visitors; counts = counts; pairs = cells }) (said_of (together parts)) word → Contains cells word
  stands-there word some visit =
      let over = filled.pairs in
      let one = claims-have keys.items keys.numbers visitors.items visitors.numbers 0 parts ts rows are mine hk hv visit.key visit.visitor visit.visits in
      let k = nk.apart one.claim.key visit.k visit.key one.key_is visit.key_is in
      let v = nv.apart one.claim.visitor visit.v visit.visitor one.visitor_is visit.visitor_is in
      let is : word_of one.claim ≡ word = (λ i. 4294967296 * k i + v i + 1) ∙ sym visit.word_is in
      let (i, within, at) = (over.closed.exact one.claim).1 (subst (λ (l : List Claim). Contains l one.claim) (sym over.asked_is) one.there) in
      times-contains word cells (omega (arith, claim-times word over.claims.mine one.claim is i within at, (over.closed.theirs word some).0))

  -- the tables have what was counted
  pub stands : Stands (record { totals = totals; keys = keys; visitors = visitors; counts = counts; pairs = cells }) (said_of (together parts))
  stands = record {
    totals = sum ∙ totals-together parts ts are;
    different_keys = dk;
    keys = keys-are;
    words = filled.words;
    maxima = filled.places;
    sums = sums-are;
    different_visitors = dv;
    used = λ v visitor at. let (d, l, item) = nv.used v visitor at in visitor-used parts ts are d l visitor item;
    pairs = λ word some. (found word some, stands-there word some);
    once = λ word some. (filled.pairs.closed.theirs word some).1;
    visits = λ key visitor visits.
        let one = claims-have keys.items keys.numbers visitors.items visitors.numbers 0 parts ts rows are mine hk hv key visitor visits in
        (one.claim.key, one.claim.visitor, one.key_is, one.visitor_is);
  }
