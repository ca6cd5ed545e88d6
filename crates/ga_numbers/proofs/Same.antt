-- The tests by which items are the same: what is the same is equal.
use Rattle.std.proofs.Common.{◌≡◌, Bool, true, false, ◌&&◌, refl, sym, ap, ◌∙◌, subst, eq-eqb, rules, Less, Equal, Greater}
use Rattle.std.specs.Cmp.{IsEquivalence, both_ways}
use Rattle.std.specs.Ordering.{is_eq}
use Rattle.std.specs.declared.cmp.Ordering.{Ordering}
use Rattle.std.proofs.lemmas.Bool.{eqb-true, false≢true}
use Rattle.std.proofs.lemmas.Cmp.{tied_itself}
use Rattle.ga_base.specs.contracts.key.KeyOrd.TheImpl.Laws.{matches_eq-law as key-ties}
use Rattle.ga_base.specs.contracts.key.KeyPartialEq.TheImpl.{ghosts as keys}
use Rattle.ga_base.specs.contracts.key.VisitorOrd.TheImpl.Laws.{matches_eq-law as visitor-ties}
use Rattle.ga_base.specs.contracts.key.VisitorPartialEq.TheImpl.{ghosts as visitors}
use Rattle.ga_base.specs.declared.key.Key.{Key}
use Rattle.ga_base.specs.declared.key.Visitor.{Visitor}
use Rattle.ga_base.specs.Orders.{is_same_key, is_same_visitor, name_of, visitor_cmp}
use Rattle.ga_base.proofs.OrderLemmas.{key_cmp_is, key_cmp_total, key_cmp_exact, name_cmp_total, name_cmp_exact, visitor_cmp_is, visitor_cmp_total, visitor_cmp_exact}
use Rattle.ga_numbers.specs.Steps.KeyPrefixes.{is_same_prefix}
use Rattle.ga_numbers.specs.Steps.ShardRows.{is_same_row}
use Rattle.ga_numbers.specs.declared.shard_row.ShardRow.{ShardRow}

both_true : (a b : Bool) → (a && b) ≡ true → (a ≡ true) × (b ≡ true)
both_true true b e = (refl, e)
both_true false b e = absurd (false≢true e)

equal_from_is_eq : (o : Ordering) → is_eq o ≡ true → o ≡ Equal
equal_from_is_eq Less e = absurd (false≢true e)
equal_from_is_eq Equal e = refl
equal_from_is_eq Greater e = absurd (false≢true e)

-- a test that holds of equals, and of no others, is an equivalence
module _ {T : Type 0} (eq : T → T → Bool) (itself : (x : T) → eq x x ≡ true) (exact : (x y : T) → eq x y ≡ true → x ≡ y) where
  turned : (x y : T) → eq x y ≡ true → eq y x ≡ true
  turned x y e = subst (λ z. eq z x ≡ true) (exact x y e) (itself x)

  pub exact-laws : IsEquivalence eq
  exact-laws = record {
    refl = itself;
    symm = λ x y. both_ways (eq x y) (eq y x) (turned x y) (turned y x);
    congr = λ x y z e. ap (λ u. eq u z) (exact x y e);
  }

pub same-key : (a b : Key) → is_same_key a b ≡ true → a ≡ b
same-key a b e = key_cmp_exact a b (equal_from_is_eq _ e)

pub key-itself : (key : Key) → is_same_key key key ≡ true
key-itself key = ap is_eq (tied_itself key_cmp_total key)

pub key-laws : IsEquivalence is_same_key
key-laws = exact-laws is_same_key key-itself same-key

pub same-visitor : (a b : Visitor) → is_same_visitor a b ≡ true → a ≡ b
same-visitor a b e =
    let parts = both_true _ _ e in
    let date : a.date ≡ b.date = eqb-true a.date b.date parts.0 in
    let name : name_of a ≡ name_of b = name_cmp_exact (name_of a) (name_of b) (equal_from_is_eq _ parts.1) in
    λ i. record { host = (name i).host; date = date i; agent = (name i).agent }

pub visitor-itself : (visitor : Visitor) → is_same_visitor visitor visitor ≡ true
visitor-itself v = λ i. eq-eqb v.date v.date refl i && ap is_eq (tied_itself name_cmp_total (name_of v)) i

pub visitor-laws : IsEquivalence is_same_visitor
visitor-laws = exact-laws is_same_visitor visitor-itself same-visitor

pub same-row : (a b : ShardRow) → is_same_row a b ≡ true → a ≡ b
same-row a b e = search rules

pub row-itself : (a : ShardRow) → is_same_row a a ≡ true
row-itself a = search rules

pub row-laws : IsEquivalence is_same_row
row-laws = exact-laws is_same_row row-itself same-row

-- dictionaries of keys test so
pub key-test : (λ (a b : Key). keys.eq a b) ≡ is_same_key
key-test = λ i a b. (key-ties a b ∙ ap is_eq (key_cmp_is a b)) i

-- and those of visitors
pub visitor-test : (λ (a b : Visitor). visitors.eq a b) ≡ is_same_visitor
visitor-test = λ i a b. same a b i
  where
    same : (a b : Visitor) → visitors.eq a b ≡ is_same_visitor a b
    same a b =
        visitor-ties a b ∙ ap is_eq (visitor_cmp_is a b)
        ∙ both_ways (is_eq (visitor_cmp a b)) (is_same_visitor a b)
        (λ e. subst (λ x. is_same_visitor a x ≡ true) (visitor_cmp_exact a b (equal_from_is_eq _ e)) (visitor-itself a))
        (λ e. subst (λ x. is_eq (visitor_cmp a x) ≡ true) (same-visitor a b e) (ap is_eq (tied_itself visitor_cmp_total a)))

-- prefixes of keys are keys
pub same-prefix : (a b : Key) → is_same_prefix a b ≡ true → a ≡ b
same-prefix a b e = same-key a b (sym (λ i. key-test i a b) ∙ e)

pub prefix-itself : (a : Key) → is_same_prefix a a ≡ true
prefix-itself a = (λ i. key-test i a a) ∙ key-itself a

pub prefix-laws : IsEquivalence is_same_prefix
prefix-laws = exact-laws is_same_prefix prefix-itself same-prefix
