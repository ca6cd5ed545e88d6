-- The names under the number of a key are those of its visitors, each once.
use Rattle.std.proofs.Common.{◌≡◌, ◌≢◌, ℕ, zero, suc, ◌+◌, ◌*◌, ◌%◌, ◌<◌, ◌≤◌, Bool, true, false, cond, not, ◌&&◌, eqb, List, [], ◌∷◌, length, get_or, Option, Some, None, refl, sym, ap, ◌∙◌, subst, arith, eq-eqb}
use Rattle.std.specs.Prelude.{slice_get}
use Rattle.std.specs.List.{Contains, IsDistinct, cons_option, filter_map}
use Rattle.std.specs.Option.{option_map}
use Rattle.std.proofs.lemmas.Bool.{eqb-true}
use Rattle.std.proofs.lemmas.Bool.Decides.{nat_tests}
use Rattle.std.proofs.lemmas.List.Sums.{sum_by-cons}
use Rattle.std.proofs.lemmas.List.Elements.{Contains-get_or, recursion_from_All}
use Rattle.std.proofs.lemmas.Map.Keys.{IsDistinct-cons}
use Rattle.std.proofs.lemmas.Option.{slice_get_within}
use Rattle.ga_base.specs.declared.key.Key.{Key}
use Rattle.ga_base.specs.declared.key.Visitor.{Visitor}
use Rattle.ga_base.specs.declared.name.Name.{Name}
use Rattle.ga_base.specs.Orders.{is_same_key, is_same_name, is_same_visitor, name_of}
use Rattle.ga_base.proofs.OrderLemmas.{name_cmp_exact}
use Rattle.ga_pool.specs.Steps.CountedRows.{key_in, name_under, names_under, visitor_in}
use Rattle.ga_pairs.specs.Pairs.{times}
use Rattle.ga_pool.specs.Stands.{IsVisit, StandsFor, said_by}
use Rattle.ga_pool.specs.declared.counted.Counted.{Counted}
use Rattle.ga_pool.proofs.Numbered.{one-place, some-inj}
use Rattle.ga_workers.proofs.DrawnPieces.{contains-times}
use Rattle.ga_summary.specs.SummaryRows.{SummaryValue, has_pair}
use Rattle.ga_summary.proofs.OneLine.{both_true}
use Rattle.ga_summary.proofs.Put.{equal_from_is_eq}
use Rattle.ga_numbers.proofs.Same.{key-itself, same-key, same-visitor, visitor-itself}

distinct-none : {X : Type 0} (e : X → X → Bool) → IsDistinct e []
unfolding IsDistinct
distinct-none e = tt

-- the numbers in a word
pub word-parts : (word k v : ℕ) → word ≡ 4294967296 * k + v + 1 → v + 1 < 4294967296 → (key_in word ≡ k) × (visitor_in word ≡ v) × (1 ≤ word % 4294967296)
word-parts word k v is small = (omega arith, omega arith, omega arith)

-- what a name under a number says of the word
pub record Under (people : List Visitor) (k word : ℕ) (name : Name) : Type 0 where
  pub some : word ≢ 0
  pub key : key_in word ≡ k
  pub visitor : Visitor
  pub at : slice_get people (visitor_in word) ≡ Some visitor
  pub is : name_of visitor ≡ name

zero-test : (w : ℕ) → not (eqb w 0) ≡ true → w ≢ 0
zero-test w e = λ z. grind (arith, nat_tests)

under : (people : List Visitor) (k word : ℕ) (name : Name) → name_under people k word ≡ Some name → Under people k word name
under people k word name e = tests (not (eqb word 0)) (eqb (key_in word) k) (slice_get people (visitor_in word)) refl refl refl e
  where
    tests : (a b : Bool) (o : Option Visitor) → not (eqb word 0) ≡ a → eqb (key_in word) k ≡ b → slice_get people (visitor_in word) ≡ o → cond (a && b) (option_map name_of o) None ≡ Some name → Under people k word name
    tests true true (Some visitor) p q r s = record { some = zero-test word p; key = eqb-true (key_in word) k q; visitor = visitor; at = r; is = some-inj (name_of visitor) name s }
    tests true true None p q r s = absurd (cc s)
    tests true false o p q r s = absurd (cc s)
    tests false b o p q r s = absurd (cc s)

-- a word under a number has its visitor's name
named : (people : List Visitor) (k word : ℕ) (visitor : Visitor) → word ≢ 0 → key_in word ≡ k → slice_get people (visitor_in word) ≡ Some visitor → name_under people k word ≡ Some (name_of visitor)
named people k word visitor some key at =
    let a : not (eqb word 0) ≡ true = grind (arith, nat_tests) in
    let b : eqb (key_in word) k ≡ true = eq-eqb (key_in word) k key in
    λ i. cond (a i && b i) (option_map name_of (at i)) None

contains-more : {X : Type 0} (x : X) (xs : List X) (y : X) → Contains xs y → Contains (x ∷ xs) y
contains-more x xs y (i, within, at) = (suc i, omega arith, at)

contains-first : {X : Type 0} (x : X) (xs : List X) → Contains (x ∷ xs) x
contains-first x xs = (zero, omega arith, refl)

-- an item that a filter kept, and what it keeps
kept-more : {X Y : Type 0} (f : X → Option Y) (x : X) (xs : List X) (y : Y) (o : Option Y) → f x ≡ o → (Contains (filter_map f xs) y → (z : X) × Contains xs z × (f z ≡ Some y))
    → Contains (cons_option o (filter_map f xs)) y → (z : X) × Contains (x ∷ xs) z × (f z ≡ Some y)
kept-more f x xs y None e rest has = let (z, there, is) = rest has in (z, contains-more x xs z there, is)
kept-more f x xs y (Some y') e rest (zero, within, at) = (x, contains-first x xs, e ∙ ap Some at)
kept-more f x xs y (Some y') e rest (suc i, within, at) = let (z, there, is) = rest (i, omega arith, at) in (z, contains-more x xs z there, is)

kept-back : {X Y : Type 0} (f : X → Option Y) (xs : List X) (y : Y) → Contains (filter_map f xs) y → (z : X) × Contains xs z × (f z ≡ Some y)
kept-back f [] y (i, within, at) = absurd (omega arith)
kept-back f (x ∷ xs) y has = kept-more f x xs y (f x) refl (kept-back f xs y) has

keeps-more : {X Y : Type 0} (f : X → Option Y) (x : X) (xs : List X) (y : Y) (o : Option Y) → Contains (filter_map f xs) y → Contains (cons_option o (filter_map f xs)) y
keeps-more f x xs y None has = has
keeps-more f x xs y (Some y') has = contains-more y' (filter_map f xs) y has

keeps : {X Y : Type 0} (f : X → Option Y) (xs : List X) (x : X) (y : Y) → f x ≡ Some y → (i : ℕ) → i < length xs → get_or xs i x ≡ x → Contains (filter_map f xs) y
keeps f [] x y is i within at = absurd (omega arith)
keeps f (z ∷ xs) x y is zero within at = subst (λ (o : Option _). Contains (cons_option o (filter_map f xs)) y) (sym (ap f at ∙ is)) (contains-first y (filter_map f xs))
keeps f (z ∷ xs) x y is (suc i) within at = keeps-more f z xs y (f z) (keeps f xs x y is i (omega arith) at)

module _ (c : Counted) (s : SummaryValue) (stands : StandsFor c s) (few : length c.visitors.items < 4294967296) where
  visit-at : (word : ℕ) → word ≢ 0 → Contains c.pairs word → IsVisit c (said_by s) word
  visit-at word some has = (stands.pairs word some).0 has

  pub words-within : (word : ℕ) → word ≢ 0 → Contains c.pairs word → (key_in word < length c.keys.items) × (1 ≤ word % 4294967296) × (visitor_in word < length c.visitors.items)
  words-within word some has =
      let visit = visit-at word some has in
      let v = slice_get_within c.visitors.items visit.v visit.visitor visit.visitor_is in
      let k = slice_get_within c.keys.items visit.k visit.key visit.key_is in
      let parts = word-parts word visit.k visit.v visit.word_is (omega (arith, v, few)) in
      (omega (arith, parts.0, k), parts.2, omega (arith, parts.1, v))

  module _ (k : ℕ) (key : Key) (at : slice_get c.keys.items k ≡ Some key) where
    -- a name under the number is that of a visitor of the key
    pub name-of-visitor : (word : ℕ) (name : Name) → Contains c.pairs word → name_under c.visitors.items k word ≡ Some name
        → (visitor : Visitor) × (slice_get c.visitors.items (visitor_in word) ≡ Some visitor) × (name_of visitor ≡ name) × (has_pair s.rows key visitor ≡ true)
    name-of-visitor word name has e =
        let u = under c.visitors.items k word name e in
        let visit = visit-at word u.some has in
        let parts = word-parts word visit.k visit.v visit.word_is (omega (arith, slice_get_within c.visitors.items visit.v visit.visitor visit.visitor_is, few)) in
        let same-k : visit.k ≡ k = sym parts.0 ∙ u.key in
        let same-key' : visit.key ≡ key = some-inj visit.key key (sym visit.key_is ∙ ap (slice_get c.keys.items) same-k ∙ at) in
        let same-visitor' : visit.visitor ≡ u.visitor = some-inj visit.visitor u.visitor (sym visit.visitor_is ∙ ap (slice_get c.visitors.items) (sym parts.1) ∙ u.at) in
        (u.visitor, u.at, u.is, (λ i. has_pair s.rows (sym same-key' i) (sym same-visitor' i)) ∙ visit.visits)

    pub sound : (name : Name) → Contains (names_under c.visitors.items k c.pairs) name → (visitor : Visitor) × (name_of visitor ≡ name) × (has_pair s.rows key visitor ≡ true)
    sound name has =
        let (word, there, e) = kept-back (name_under c.visitors.items k) c.pairs name has in
        let (visitor, at', is, pair) = name-of-visitor word name there e in
        (visitor, is, pair)

    -- each visitor of the key has its name there
    pub complete : (visitor : Visitor) → has_pair s.rows key visitor ≡ true → Contains (names_under c.visitors.items k c.pairs) (name_of visitor)
    complete visitor pair =
        let (k', v, key-is, visitor-is) = stands.visits key visitor pair in
        let same : k' ≡ k = one-place is_same_key key-itself same-key c.keys.items stands.different_keys k' k key key-is at in
        let small : v + 1 < 4294967296 = omega (arith, slice_get_within c.visitors.items v visitor visitor-is, few) in
        let word : ℕ = 4294967296 * k' + v + 1 in
        let parts = word-parts (4294967296 * k' + v + 1) k' v refl small in
        let some : 4294967296 * k' + v + 1 ≢ 0 = λ z. absurd (omega (arith, z)) in
        let (i, within, here) = (stands.pairs (4294967296 * k' + v + 1) some).1 record { k = k'; v = v; key = key; visitor = visitor; word_is = refl; key_is = key-is; visitor_is = visitor-is; visits = pair } in
        keeps (name_under c.visitors.items k) c.pairs (4294967296 * k' + v + 1) (name_of visitor)
        (named c.visitors.items k (4294967296 * k' + v + 1) visitor some (parts.0 ∙ same) (ap (slice_get c.visitors.items) parts.1 ∙ visitor-is)) i within here

    -- the words of one name are one
    one-word : (a b : ℕ) (name : Name) → Contains c.pairs a → Contains c.pairs b → name_under c.visitors.items k a ≡ Some name → name_under c.visitors.items k b ≡ Some name → a ≡ b
    one-word a b name in-a in-b of-a of-b =
        let (va, at-a, is-a, pair-a) = name-of-visitor a name in-a of-a in
        let (vb, at-b, is-b, pair-b) = name-of-visitor b name in-b of-b in
        let date : va.date ≡ vb.date = eqb-true va.date key.date (both_true _ _ pair-a).0 ∙ sym (eqb-true vb.date key.date (both_true _ _ pair-b).0) in
        let same-name : name_of va ≡ name_of vb = is-a ∙ sym is-b in
        let same : va ≡ vb = λ i. record { host = (same-name i).host; date = date i; agent = (same-name i).agent } in
        let v : visitor_in a ≡ visitor_in b = one-place is_same_visitor visitor-itself same-visitor c.visitors.items stands.different_visitors (visitor_in a) (visitor_in b) vb (at-a ∙ ap Some same) at-b in
        let ua = under c.visitors.items k a name of-a in
        let ub = under c.visitors.items k b name of-b in
        let one-a = (words-within a ua.some in-a).1 in
        let one-b = (words-within b ub.some in-b).1 in
        omega (arith, v, ua.key, ub.key, one-a, one-b)

    distinct-of : (ws : List ℕ) → ((w : ℕ) → Contains ws w → Contains c.pairs w) → ((w : ℕ) → w ≢ 0 → times w ws ≤ 1) → IsDistinct is_same_name (names_under c.visitors.items k ws)
    distinct-of [] inside once = distinct-none is_same_name
    distinct-of (w ∷ ws) inside once =
        by-name (name_under c.visitors.items k w) refl
        (distinct-of ws (λ x has. inside x (contains-more w ws x has)) (λ x some. let e = sum_by-cons (λ (n : ℕ). cond (eqb n x) 1 0) w ws in omega (arith, once x some, e)))
      where
        here-once : (x y : ℕ) → x ≡ y → ◌≡◌ {A = ℕ} (cond (eqb x y) 1 0) 1
        here-once x y e = grind (arith, nat_tests)

        apart : (name : Name) → name_under c.visitors.items k w ≡ Some name → (y : Name) → Contains (names_under c.visitors.items k ws) y → (b : Bool) → is_same_name name y ≡ b → b ≡ false
        apart name e y has false t = refl
        apart name e y has true t =
            let same : name ≡ y = name_cmp_exact name y (equal_from_is_eq _ t) in
            let (z, (i, within, at-z), is) = kept-back (name_under c.visitors.items k) ws y has in
            let u = under c.visitors.items k w name e in
            let one : w ≡ z = one-word w z name (inside w (contains-first w ws)) (inside z (contains-more w ws z (i, within, at-z))) e (is ∙ ap Some (sym same)) in
            let many = contains-times z ws i within at-z in
            let twice = sum_by-cons (λ (n : ℕ). cond (eqb n z) 1 0) w ws in
            absurd (omega (arith, subst (λ (x : ℕ). times x (w ∷ ws) ≤ 1) one (once w u.some), twice, many, here-once w z one))

        by-name : (o : Option Name) → name_under c.visitors.items k w ≡ o → IsDistinct is_same_name (names_under c.visitors.items k ws) → IsDistinct is_same_name (cons_option o (names_under c.visitors.items k ws))
        by-name None e rest = rest
        by-name (Some name) e rest =
            IsDistinct-cons is_same_name name (names_under c.visitors.items k ws)
            (recursion_from_All (λ (y : Name). is_same_name name y ≡ false) (names_under c.visitors.items k ws)
            (λ i d lt. apart name e (get_or (names_under c.visitors.items k ws) i d) (Contains-get_or (names_under c.visitors.items k ws) i d lt) (is_same_name name (get_or (names_under c.visitors.items k ws) i d)) refl)) rest

    -- no name is there twice
    pub distinct : IsDistinct is_same_name (names_under c.visitors.items k c.pairs)
    distinct = distinct-of c.pairs (λ w has. has) stands.once
