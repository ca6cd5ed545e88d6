-- The lines of the tests may be counted.
use Rattle.std.proofs.Common.{◌≡◌, ℕ, ◌+◌, ◌≤◌, Bool, true, false, cond, List, [], ◌∷◌, Option, refl, sym, ◌∙◌, inl, arith}
use Rattle.std.specs.List.Sorted.{IsStrictlySortedBy}
use Rattle.std.specs.Option.{ForSome}
use Rattle.std.proofs.lemmas.List.Elements.{All-from_recursion}
use Rattle.ga_base.specs.declared.key.Key.{Key}
use Rattle.ga_base.specs.declared.key.Visitor.{Visitor}
use Rattle.ga_base.specs.declared.panel.Panel.TheVariants.{Visitors, Hosts}
use Rattle.ga_base.specs.Orders.{key_cmp}
use Rattle.ga_base.specs.Layers.{HasForm}
use Rattle.ga_summary.specs.Sound.{IsCountable}
use Rattle.ga_base.specs.Layers.{in_layer, day_key}
use Rattle.ga_storing_tests.specs.TestKeys.{TEST_DAY, host_key}
use Rattle.ga_summary.proofs.OneLine.{same_panel, both_true}

at_most_one : (a b : Bool) → (a ≡ true → b ≡ true → ⊥) → 0 + cond a 1 0 + cond b 1 0 ≤ 1
at_most_one true true apart = absurd (apart refl refl)
at_most_one true false apart = omega arith
at_most_one false true apart = omega arith
at_most_one false false apart = omega arith

Visitors≢Hosts : Visitors ≡ Hosts → ⊥
Visitors≢Hosts e = cc

rising : (label : List ℕ) → IsStrictlySortedBy key_cmp (day_key TEST_DAY ∷ host_key label ∷ [])
unfolding IsStrictlySortedBy key_cmp
rising label = ((refl, tt), (tt, tt))

pub may_count : (label : List ℕ) (by : Option Visitor) (bytes micros : ℕ) → ForSome by (λ v. v.date ≡ TEST_DAY) → bytes ≤ 1000 → micros ≤ 1000 → IsCountable TEST_DAY (record { keys = day_key TEST_DAY ∷ host_key label ∷ []; visitor = by; bytes = bytes; micros = micros })
may_count label by bytes micros dated b m = record {
  rising = rising label;
  dated = All-from_recursion (λ (key : Key). key.date ≡ TEST_DAY) (day_key TEST_DAY ∷ host_key label ∷ []) (refl, (refl, tt));
  formed = All-from_recursion HasForm (day_key TEST_DAY ∷ host_key label ∷ []) (
    record { date = (omega arith, omega arith); visit = λ _. inl (refl, refl); parent = λ other. absurd (other refl); request = λ _. (refl, refl) },
    (record { date = (omega arith, omega arith); visit = λ e. absurd (Visitors≢Hosts (sym e)); parent = λ _. (λ _. refl, λ _. refl); request = λ _. (refl, refl) }, tt),
  );
  day = (0, omega arith, refl);
  layers = λ layer. at_most_one (in_layer layer (day_key TEST_DAY)) (in_layer layer (host_key label)) (λ p q. Visitors≢Hosts (same_panel Visitors layer.panel (both_true _ _ p).0 ∙ sym (same_panel Hosts layer.panel (both_true _ _ q).0)));
  visitor = dated;
  bytes = omega arith;
  micros = omega arith;
}
