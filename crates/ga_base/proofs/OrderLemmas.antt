-- The orders of keys, visitors and names are those that their types derive; they are total, and tell all values apart.
use Rattle.std.proofs.Common.{◌≡◌, ℕ, List, refl, ap, rules, Less, Equal, Greater}
use Rattle.std.specs.Cmp.{IsTotalOrder}
use Rattle.std.specs.declared.cmp.Ordering.{Ordering}
use Rattle.std.specs.Ordering.{nat_cmp, ordering_then}
use Rattle.std.proofs.lemmas.Cmp.{then_total, on_total, nat_list_cmp_total, nat_cmp_total}
use Rattle.std.proofs.lemmas.Map.Lookups.{CmpEqualImpliesEq, exact_bytes, exact_unsigned}
use Rattle.ga_base.specs.contracts.key.KeyOrd.TheImpl.{ghosts as keys}
use Rattle.ga_base.specs.contracts.key.VisitorOrd.TheImpl.{ghosts as visitors}
use Rattle.ga_base.specs.contracts.name.NameOrd.TheImpl.{ghosts as names}
use Rattle.ga_base.specs.contracts.panel.PanelOrd.TheImpl.{ghosts as panels}
use Rattle.ga_base.specs.declared.key.Key.{Key}
use Rattle.ga_base.specs.declared.key.Visitor.{Visitor}
use Rattle.ga_base.specs.declared.name.Name.{Name}
use Rattle.ga_base.specs.declared.panel.Panel.{Panel}
use Rattle.ga_base.specs.Orders.{key_cmp, name_cmp, text_cmp, visitor_cmp}
use Rattle.ga_base.specs.Panels.{panel_number}

pub panel_cmp_is : (a b : Panel) → panels.cmp a b ≡ nat_cmp (panel_number a) (panel_number b)
panel_cmp_is a b = search rules

pub panel_number_exact : (a b : Panel) → panel_number a ≡ panel_number b → a ≡ b
panel_number_exact a b e = search rules

pub key_cmp_is : (a b : Key) → keys.cmp a b ≡ key_cmp a b
unfolding key_cmp
key_cmp_is a b =
    ap (λ (o : Ordering). ordering_then o (ordering_then (nat_cmp a.date b.date) (ordering_then (text_cmp a.parent b.parent)
    (ordering_then (text_cmp a.label b.label) (ordering_then (text_cmp a.method b.method) (text_cmp a.protocol b.protocol))))))
    (panel_cmp_is a.panel b.panel)

pub visitor_cmp_is : (a b : Visitor) → visitors.cmp a b ≡ visitor_cmp a b
unfolding visitor_cmp
visitor_cmp_is a b = refl

pub name_cmp_is : (a b : Name) → names.cmp a b ≡ name_cmp a b
unfolding name_cmp
name_cmp_is a b = refl

text_total : {A : Type 0} (f : A → List ℕ) → IsTotalOrder (λ a b. text_cmp (f a) (f b))
text_total f = on_total f nat_list_cmp_total

nat_total : {A : Type 0} (f : A → ℕ) → IsTotalOrder (λ a b. nat_cmp (f a) (f b))
nat_total f = on_total f nat_cmp_total

pub key_cmp_total : IsTotalOrder key_cmp
unfolding key_cmp
key_cmp_total =
    then_total (nat_total (λ (k : Key). panel_number k.panel)) (then_total (nat_total (λ (k : Key). k.date)) (then_total (text_total (λ (k : Key). k.parent))
    (then_total (text_total (λ (k : Key). k.label)) (then_total (text_total (λ (k : Key). k.method)) (text_total (λ (k : Key). k.protocol))))))

pub visitor_cmp_total : IsTotalOrder visitor_cmp
unfolding visitor_cmp
visitor_cmp_total = then_total (text_total (λ (v : Visitor). v.host)) (then_total (nat_total (λ (v : Visitor). v.date)) (text_total (λ (v : Visitor). v.agent)))

pub name_cmp_total : IsTotalOrder name_cmp
unfolding name_cmp
name_cmp_total = then_total (text_total (λ (n : Name). n.host)) (text_total (λ (n : Name). n.agent))

Less≢Equal : Less ≡ Equal → ⊥
Less≢Equal e = cc

Greater≢Equal : Greater ≡ Equal → ⊥
Greater≢Equal e = cc

-- where two comparisons in turn answer Equal, each does
both_equal : (o p : Ordering) → ordering_then o p ≡ Equal → (o ≡ Equal) × (p ≡ Equal)
both_equal Less p e = absurd (Less≢Equal e)
both_equal Equal p e = (refl, e)
both_equal Greater p e = absurd (Greater≢Equal e)

pub key_cmp_exact : CmpEqualImpliesEq key_cmp
unfolding key_cmp
key_cmp_exact a b e =
    let p = both_equal _ _ e in
    let d = both_equal _ _ p.1 in
    let q = both_equal _ _ d.1 in
    let l = both_equal _ _ q.1 in
    let m = both_equal _ _ l.1 in
    let panel : a.panel ≡ b.panel = panel_number_exact a.panel b.panel (exact_unsigned _ _ p.0) in
    let date : a.date ≡ b.date = exact_unsigned _ _ d.0 in
    let parent : a.parent ≡ b.parent = exact_bytes _ _ q.0 in
    let label : a.label ≡ b.label = exact_bytes _ _ l.0 in
    let method : a.method ≡ b.method = exact_bytes _ _ m.0 in
    let protocol : a.protocol ≡ b.protocol = exact_bytes _ _ m.1 in
    λ i. record { panel = panel i; date = date i; parent = parent i; label = label i; method = method i; protocol = protocol i }

pub visitor_cmp_exact : CmpEqualImpliesEq visitor_cmp
unfolding visitor_cmp
visitor_cmp_exact a b e =
    let p = both_equal _ _ e in
    let q = both_equal _ _ p.1 in
    let host : a.host ≡ b.host = exact_bytes _ _ p.0 in
    let date : a.date ≡ b.date = exact_unsigned _ _ q.0 in
    let agent : a.agent ≡ b.agent = exact_bytes _ _ q.1 in
    λ i. record { host = host i; date = date i; agent = agent i }

pub name_cmp_exact : CmpEqualImpliesEq name_cmp
unfolding name_cmp
name_cmp_exact a b e =
    let p = both_equal _ _ e in
    let host : a.host ≡ b.host = exact_bytes _ _ p.0 in
    let agent : a.agent ≡ b.agent = exact_bytes _ _ p.1 in
    λ i. record { host = host i; agent = agent i }
