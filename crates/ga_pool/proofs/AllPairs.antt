-- Which pairs the workers claim: those of keys and visitors of them, by their numbers. And which keys there are.
use Rattle.std.proofs.Common.{◌≡◌, ℕ, zero, suc, ◌+◌, Bool, true, false, ◌||◌, ◌⊎◌, inl, inr, List, [], ◌∷◌, ◌++◌, map, get_or, Some, refl, sym, ap, ◌∙◌, subst, arith, ⊎_elim, nat_lt}
use Rattle.std.specs.Prelude.{slice_get}
use Rattle.std.specs.List.{AllZip, Contains}
use Rattle.std.proofs.lemmas.Bool.Decides.{nat_tests}
use Rattle.std.proofs.lemmas.List.{get_or-map, length-map}
use Rattle.std.proofs.lemmas.List.Elements.{Contains-append_cases, Contains-append_left, Contains-append_right}
use Rattle.std.proofs.lemmas.Map.Views.{Contains-from_any, list_any-from_Contains}
use Rattle.std.proofs.lemmas.Option.{get_or_from_slice_get, slice_get-get_or, slice_get_within}
use Rattle.ga_base.specs.declared.key.Key.{Key}
use Rattle.ga_base.specs.declared.key.Visitor.{Visitor}
use Rattle.ga_pairs.specs.declared.view.Pair.{Pair as Claim}
use Rattle.ga_pool.specs.Steps.Filling.{claim_of, claims_of, lists_from, numbers_at}
use Rattle.ga_pool.specs.Steps.TableInputs.{AreRowsOf}
use Rattle.ga_pool.specs.declared.table_inputs.TableRows.{TableRows}
use Rattle.ga_pool.proofs.AllWorkers.{HaveNumbers, keys_in, visitors_in}
use Rattle.ga_workers.proofs.DrawnPieces.{together-cons}
use Rattle.ga_pool.proofs.Numbered.{some-inj}
use Rattle.ga_pool.proofs.OneWorker.{HasNumbers}
use Rattle.ga_shards.specs.Numbers.{item_of}
use Rattle.ga_summary.specs.Outcomes.{Outcome, has_visit, sums_of}
use Rattle.ga_summary.proofs.Appends.{has_visit-append, sums_of-append}
use Rattle.ga_tallies.specs.Tallies.{AreTalliesOf, IsTallyOf, TallySeen, pair_of, together}
use Rattle.ga_numbers.proofs.Same.{key-laws, same-key, same-visitor}

pub contains-map : {X Y : Type 0} (f : X → Y) (xs : List X) (x : X) → Contains xs x → Contains (map f xs) (f x)
contains-map f xs x (k, within, is) = (k, omega (arith, within, length-map xs f), get_or-map f xs k x (f x) within ∙ ap f is)

pub contains-map-back : {X Y : Type 0} (f : X → Y) (xs : List X) (y : Y) → Contains (map f xs) y → (x : X) × Contains xs x × (f x ≡ y)
contains-map-back f [] y (k, within, is) = absurd (omega arith)
contains-map-back f (x ∷ xs) y (zero, within, is) = (x, (0, omega arith, refl), is)
contains-map-back f (x ∷ xs) y (suc k, within, is) =
    let (z, (l, inside, at), same) = contains-map-back f xs y (k, omega arith, is) in
    (z, (suc l, omega arith, at), same)

or-cases : (a b : Bool) → (a || b) ≡ true → (a ≡ true) ⊎ (b ≡ true)
or-cases true b e = inl refl
or-cases false b e = inr e

or-left : (a b : Bool) → a ≡ true → (a || b) ≡ true
or-left true b e = refl
or-left false b e = absurd (cc e)

or-right : (a b : Bool) → b ≡ true → (a || b) ≡ true
or-right true b e = refl
or-right false b e = e

-- a visit among the outcomes of a part, or of the others
pub visit-first : (key : Key) (visitor : Visitor) (p : List Outcome) (parts : List (List Outcome)) → has_visit key visitor p ≡ true → has_visit key visitor (together (p ∷ parts)) ≡ true
visit-first key visitor p parts e =
    ap (has_visit key visitor) (together-cons p parts) ∙ has_visit-append key visitor p (together parts) ∙ or-left (has_visit key visitor p) (has_visit key visitor (together parts)) e

pub visit-later : (key : Key) (visitor : Visitor) (p : List Outcome) (parts : List (List Outcome)) → has_visit key visitor (together parts) ≡ true → has_visit key visitor (together (p ∷ parts)) ≡ true
visit-later key visitor p parts e =
    ap (has_visit key visitor) (together-cons p parts) ∙ has_visit-append key visitor p (together parts) ∙ or-right (has_visit key visitor p) (has_visit key visitor (together parts)) e

visit-cases : (key : Key) (visitor : Visitor) (p : List Outcome) (parts : List (List Outcome)) → has_visit key visitor (together (p ∷ parts)) ≡ true
    → (has_visit key visitor p ≡ true) ⊎ (has_visit key visitor (together parts) ≡ true)
visit-cases key visitor p parts e =
    or-cases (has_visit key visitor p) (has_visit key visitor (together parts)) (sym (ap (has_visit key visitor) (together-cons p parts) ∙ has_visit-append key visitor p (together parts)) ∙ e)

-- a key's hits among the outcomes of a part, or of the others
hits-cons : (key : Key) (p : List Outcome) (parts : List (List Outcome)) → (sums_of key (together (p ∷ parts))).hits ≡ (sums_of key p).hits + (sums_of key (together parts)).hits
hits-cons key p parts = ap (λ (os : List Outcome). (sums_of key os).hits) (together-cons p parts) ∙ (λ i. (sums_of-append key p (together parts) i).hits)

some-hits : (m n t : ℕ) → t ≡ m + n → nat_lt 0 t ≡ true → (nat_lt 0 m ≡ true) ⊎ (nat_lt 0 n ≡ true)
some-hits zero n t e h = inr (subst (λ (x : ℕ). nat_lt 0 x ≡ true) (e ∙ omega arith) h)
some-hits (suc m) n t e h = inl (grind (arith, nat_tests))

hits-first : (m n t : ℕ) → t ≡ m + n → nat_lt 0 m ≡ true → nat_lt 0 t ≡ true
hits-first m n t e h = grind (arith, nat_tests)

hits-later : (m n t : ℕ) → t ≡ m + n → nat_lt 0 n ≡ true → nat_lt 0 t ≡ true
hits-later m n t e h = grind (arith, nat_tests)

module _ (items : List Key) (numbers : List (List ℕ)) (people : List Visitor) (names : List (List ℕ)) where
  -- a claim is of a key and a visitor of it
  pub record IsClaim (os : List Outcome) (claim : Claim) : Type 0 where
    pub key : Key
    pub visitor : Visitor
    pub key_is : slice_get items claim.key ≡ Some key
    pub visitor_is : slice_get people claim.visitor ≡ Some visitor
    pub visits : has_visit key visitor os ≡ true

  -- of one worker
  one-claim : (ns vs : List ℕ) (os : List Outcome) (t : TallySeen) (r : TableRows) → IsTallyOf os t → AreRowsOf t r → HasNumbers items ns t.keys → HasNumbers people vs t.visitors
      → (claim : Claim) → Contains (map (claim_of ns vs) r.pairs.items) claim → IsClaim os claim
  one-claim ns vs os t r is mine hk hv claim has =
      let (pair, there, same) = contains-map-back (claim_of ns vs) r.pairs.items claim has in
      let (key, visitor, at-key, at-visitor, visits) = is.pairs pair.key pair.visitor (subst (λ (ps : List (ℕ × ℕ)). Contains ps (pair_of pair)) mine.pairs (contains-map pair_of r.pairs.items pair there)) in
      let (k, number, item) = hk.mine pair.key key at-key in
      let (v, name, person) = hv.mine pair.visitor visitor at-visitor in
      record {
        key = key;
        visitor = visitor;
        key_is = ap (λ (c : Claim). slice_get items c.key) (sym same) ∙ ap (slice_get items) (get_or_from_slice_get ns pair.key k 0 number) ∙ item;
        visitor_is = ap (λ (c : Claim). slice_get people c.visitor) (sym same) ∙ ap (slice_get people) (get_or_from_slice_get vs pair.visitor v 0 name) ∙ person;
        visits = visits;
      }

  pub claims-are : (worker : ℕ) (parts : List (List Outcome)) (ts : List TallySeen) (rows : List TableRows) → AreTalliesOf parts ts → AllZip AreRowsOf ts rows → HaveNumbers keys_in items numbers worker ts
      → HaveNumbers visitors_in people names worker ts → (claim : Claim) → Contains (lists_from (claims_of numbers names) worker rows) claim → IsClaim (together parts) claim
  claims-are worker [] [] [] are mine hk hv claim (i, within, is) = absurd (omega arith)
  claims-are worker [] [] (r ∷ rows) are mine hk hv claim has = absurd mine
  claims-are worker [] (t ∷ ts) rows are mine hk hv claim has = absurd are
  claims-are worker (p ∷ parts) [] rows are mine hk hv claim has = absurd are
  claims-are worker (p ∷ parts) (t ∷ ts) [] are mine hk hv claim has = absurd mine
  claims-are worker (p ∷ parts) (t ∷ ts) (r ∷ rows) are mine hk hv claim has =
      ⊎_elim
      (λ first.
      let one = one-claim (numbers_at numbers worker) (numbers_at names worker) p t r are.0 mine.0 hk.0 hv.0 claim first in
      let made : IsClaim (together (p ∷ parts)) claim = record { key = one.key; visitor = one.visitor; key_is = one.key_is; visitor_is = one.visitor_is; visits = visit-first one.key one.visitor p parts one.visits } in
      made)
      (λ later.
      let one = claims-are (worker + 1) parts ts rows are.1 mine.1 hk.1 hv.1 claim later in
      let made : IsClaim (together (p ∷ parts)) claim = record { key = one.key; visitor = one.visitor; key_is = one.key_is; visitor_is = one.visitor_is; visits = visit-later one.key one.visitor p parts one.visits } in
      made)
      (Contains-append_cases (claims_of numbers names worker r) (lists_from (claims_of numbers names) (worker + 1) rows) claim has)

  -- each visitor of a key is claimed
  pub record HasClaim (key : Key) (visitor : Visitor) (claims : List Claim) : Type 0 where
    pub claim : Claim
    pub key_is : slice_get items claim.key ≡ Some key
    pub visitor_is : slice_get people claim.visitor ≡ Some visitor
    pub there : Contains claims claim

  one-visit : (ns vs : List ℕ) (os : List Outcome) (t : TallySeen) (r : TableRows) → IsTallyOf os t → AreRowsOf t r → HasNumbers items ns t.keys → HasNumbers people vs t.visitors
      → (key : Key) (visitor : Visitor) → has_visit key visitor os ≡ true → HasClaim key visitor (map (claim_of ns vs) r.pairs.items)
  one-visit ns vs os t r is mine hk hv key visitor visits =
      let (l, m, known, seen, at-key, same-k, at-visitor, same-v, has) = is.visits key visitor visits in
      let (pair, there, same) = contains-map-back pair_of r.pairs.items (l, m) (subst (λ (ps : List (ℕ × ℕ)). Contains ps (l, m)) (sym mine.pairs) has) in
      let (k, number, item) = hk.mine l known at-key in
      let (v, name, person) = hv.mine m seen at-visitor in
      let of-key : get_or ns pair.key 0 ≡ k = ap (λ (q : ℕ × ℕ). get_or ns q.0 0) same ∙ get_or_from_slice_get ns l k 0 number in
      let of-visitor : get_or vs pair.visitor 0 ≡ v = ap (λ (q : ℕ × ℕ). get_or vs q.1 0) same ∙ get_or_from_slice_get vs m v 0 name in
      record {
        claim = claim_of ns vs pair;
        key_is = ap (slice_get items) of-key ∙ item ∙ ap Some (sym (same-key key known same-k));
        visitor_is = ap (slice_get people) of-visitor ∙ person ∙ ap Some (sym (same-visitor visitor seen same-v));
        there = contains-map (claim_of ns vs) r.pairs.items pair there;
      }

  pub claims-have : (worker : ℕ) (parts : List (List Outcome)) (ts : List TallySeen) (rows : List TableRows) → AreTalliesOf parts ts → AllZip AreRowsOf ts rows → HaveNumbers keys_in items numbers worker ts
      → HaveNumbers visitors_in people names worker ts → (key : Key) (visitor : Visitor) → has_visit key visitor (together parts) ≡ true → HasClaim key visitor (lists_from (claims_of numbers names) worker rows)
  claims-have worker [] [] [] are mine hk hv key visitor e = absurd (cc e)
  claims-have worker [] [] (r ∷ rows) are mine hk hv key visitor e = absurd mine
  claims-have worker [] (t ∷ ts) rows are mine hk hv key visitor e = absurd are
  claims-have worker (p ∷ parts) [] rows are mine hk hv key visitor e = absurd are
  claims-have worker (p ∷ parts) (t ∷ ts) [] are mine hk hv key visitor e = absurd mine
  claims-have worker (p ∷ parts) (t ∷ ts) (r ∷ rows) are mine hk hv key visitor e =
      let a = claims_of numbers names worker r in
      let b = lists_from (claims_of numbers names) (worker + 1) rows in
      ⊎_elim
      (λ first.
      let one = one-visit (numbers_at numbers worker) (numbers_at names worker) p t r are.0 mine.0 hk.0 hv.0 key visitor first in
      let made : HasClaim key visitor (a ++ b) = record { claim = one.claim; key_is = one.key_is; visitor_is = one.visitor_is; there = Contains-append_left a b one.claim one.there } in
      made)
      (λ later.
      let one = claims-have (worker + 1) parts ts rows are.1 mine.1 hk.1 hv.1 key visitor later in
      let made : HasClaim key visitor (a ++ b) = record { claim = one.claim; key_is = one.key_is; visitor_is = one.visitor_is; there = Contains-append_right a b one.claim one.there } in
      made)
      (visit-cases key visitor p parts e)

-- each visitor that has a number is one of a key
pub visitor-used : (parts : List (List Outcome)) (ts : List TallySeen) → AreTalliesOf parts ts → (d l : ℕ) (visitor : Visitor) → item_of (map (λ (t : TallySeen). t.visitors) ts) d l ≡ Some visitor
    → (key : Key) × (has_visit key visitor (together parts) ≡ true)
visitor-used [] [] are d l visitor e = absurd (cc e)
visitor-used [] (t ∷ ts) are d l visitor e = absurd are
visitor-used (p ∷ parts) [] are d l visitor e = absurd are
visitor-used (p ∷ parts) (t ∷ ts) are zero l visitor e =
    let (k, has) = are.0.used l (slice_get_within t.visitors l visitor e) in
    let (key, seen, at-key, at-visitor, visits) = are.0.pairs k l has in
    let same : seen ≡ visitor = some-inj seen visitor (sym at-visitor ∙ e) in
    (key, visit-first key visitor p parts (subst (λ (v : Visitor). has_visit key v p ≡ true) same visits))
visitor-used (p ∷ parts) (t ∷ ts) are (suc d) l visitor e =
    let (key, visits) = visitor-used parts ts are.1 d l visitor e in
    (key, visit-later key visitor p parts visits)

-- a key was counted where one of the tallies has it
pub key-counted : (parts : List (List Outcome)) (ts : List TallySeen) → AreTalliesOf parts ts → (d l : ℕ) (key : Key) → item_of (map (λ (t : TallySeen). t.keys) ts) d l ≡ Some key
    → nat_lt 0 (sums_of key (together parts)).hits ≡ true
key-counted [] [] are d l key e = absurd (cc e)
key-counted [] (t ∷ ts) are d l key e = absurd are
key-counted (p ∷ parts) [] are d l key e = absurd are
key-counted (p ∷ parts) (t ∷ ts) are zero l key e =
    let there : Contains t.keys key = (l, slice_get_within t.keys l key e, get_or_from_slice_get t.keys l key key e) in
    hits-first _ _ _ (hits-cons key p parts) (sym (are.0.counted key) ∙ list_any-from_Contains key-laws key t.keys there)
key-counted (p ∷ parts) (t ∷ ts) are (suc d) l key e = hits-later _ _ _ (hits-cons key p parts) (key-counted parts ts are.1 d l key e)

-- and nowhere else
pub key-found : (parts : List (List Outcome)) (ts : List TallySeen) → AreTalliesOf parts ts → (key : Key) → nat_lt 0 (sums_of key (together parts)).hits ≡ true
    → (d : ℕ) × (l : ℕ) × (item_of (map (λ (t : TallySeen). t.keys) ts) d l ≡ Some key)
key-found [] [] are key e = absurd (cc e)
key-found [] (t ∷ ts) are key e = absurd are
key-found (p ∷ parts) [] are key e = absurd are
key-found (p ∷ parts) (t ∷ ts) are key e =
    ⊎_elim
    (λ first.
    let (l, within, here) = Contains-from_any same-key key t.keys (are.0.counted key ∙ first) in
    let made : (d : ℕ) × (l : ℕ) × (item_of (map (λ (t : TallySeen). t.keys) (t ∷ ts)) d l ≡ Some key) = (0, l, slice_get-get_or t.keys l key within ∙ ap Some here) in
    made)
    (λ later.
    let (d, l, at) = key-found parts ts are.1 key later in
    let made : (d : ℕ) × (l : ℕ) × (item_of (map (λ (t : TallySeen). t.keys) (t ∷ ts)) d l ≡ Some key) = (suc d, l, at) in
    made)
    (some-hits _ _ _ (hits-cons key p parts) e)
