-- A run record after a gate that is taken on, and one that isn't.
use Rattle.std.proofs.Common.{◌≡◌, ℕ, ◌+◌, true, List, None, ap, ◌∙◌, subst}
use Rattle.ga_summary.specs.Limits.{passes}
use Rattle.ga_base.specs.Totals.{totals_plus}
use Rattle.ga_summary.specs.Sums.{IsMerged}
use Rattle.ga_codec.specs.Shapes.{SpellDelta}
use Rattle.ga_codec.specs.Values.{DeltaValue}
use Rattle.ga_store.specs.SideParts.{IsPartAt, is_open_at}
use Rattle.ga_store.specs.Database.{DbValue, TakesOn}
use Rattle.ga_store.specs.Steps.Recovery.{HasRecord, LacksRecord}
use Rattle.ga_store.proofs.RecoverParts.{one-part}

-- a row of bytes spells one run record
abbrev pub OneDelta : Type 0
OneDelta = (bytes : List ℕ) (a b : DeltaValue) → SpellDelta bytes a → SpellDelta bytes b → a ≡ b

pub taken-on : (side : List ℕ) (old new : DbValue) (delta : DeltaValue) (next : ℕ) → is_open_at side old.slot ≡ true → HasRecord side old.slot delta next
    → passes (totals_plus old.summary.totals delta.summary.totals) ≡ None → IsMerged old.summary delta.summary new.summary
    → new ≡ record old { summary = new.summary; entries = delta.entries; records = old.records + 1; slot = next } → TakesOn side old new
taken-on side old new delta next gate h limits merged others = record {
  gate = gate;
  body = h.body;
  delta = delta;
  part = h.part;
  spells = h.spells;
  limits = limits;
  merged = merged;
  others = others ∙ ap (λ (n : ℕ). record old { summary = new.summary; entries = delta.entries; records = old.records + 1; slot = n }) h.behind;
}

pub lacking : {side : List ℕ} {old next : DbValue} → LacksRecord side old.slot → TakesOn side old next → ⊥
lacking none t = none t.body t.delta t.part t.spells

-- one run record follows a gate
pub one-record : OneDelta → (side : List ℕ) (old next : DbValue) (delta : DeltaValue) (end : ℕ) → HasRecord side old.slot delta end → (t : TakesOn side old next) → delta ≡ t.delta
one-record law side old next delta end h t =
    let same = one-part side h.body t.body (old.slot + 1) h.part t.part in
    law t.body delta t.delta (subst (λ (b : List ℕ). SpellDelta b delta) same h.spells) t.spells

pub too-much : OneDelta → (side : List ℕ) (old next : DbValue) (delta : DeltaValue) (end : ℕ) → HasRecord side old.slot delta end
    → (passes (totals_plus old.summary.totals delta.summary.totals) ≡ None → ⊥) → TakesOn side old next → ⊥
too-much law side old next delta end h full t =
    let same = ap (λ (d : DeltaValue). passes (totals_plus old.summary.totals d.summary.totals)) (one-record law side old next delta end h t) in
    full (same ∙ t.limits)

-- no part there has a run record
pub no-part : (side : List ℕ) (slot : ℕ) → ((body : List ℕ) → IsPartAt side (slot + 1) body → ⊥) → LacksRecord side slot
no-part side slot none body delta part spells = none body part
