use Rattle.std.proofs.Common.{rules, ◌≡◌, ◌+◌, true, false, refl, sym, ap, ◌∙◌, arith}
use Rattle.ga_base.specs.declared.panel.Panel.TheVariants.{Visitors}
use Rattle.ga_base.specs.Layers.{is_day}
use Rattle.ga_base.specs.Panels.{is_same_panel}
use Rattle.ga_summary.specs.declared.entry.Entry.{Entry}
use Rattle.ga_summary.proofs.DayPlaces.{all-before, before-all, before-more}
use Rattle.ga_summary.proofs.trim.count_days.Goals.{then-is_day, else-is_day}
use Rattle.ga_summary.proofs.trim.count_days.Goals as goal

pub loop-entry-init : goal.loop-entry-init
loop-entry-init c = record { counted = refl; most = omega arith }

pub returns-then-not-same_panel : goal.returns-then-not-same_panel
returns-then-not-same_panel c =
    let other : is_same_panel c.entry-item.result.value.key.panel Visitors ≡ false =
    sym (ap (λ (e : Entry). is_same_panel e.key.panel Visitors) c.deref.ensures) ∙ sym c.same_panel.ensures ∙ c.if-not-same_panel.true in
    c.loop-entry.invariant.counted ∙ all-before c.args.entries.now c.loop-entry.entry-index c.entry-item.result c.loop-entry-test.true c.entry-item.is c.requires.keys other

pub overflow_add-days : goal.overflow_add-days
overflow_add-days c = search rules

pub loop-entry-preserved : goal.loop-entry-preserved
loop-entry-preserved c =
    let more = before-more c.args.entries.now c.loop-entry.entry-index c.entry-item.result c.loop-entry-test.true c.entry-item.is in
    let same = ap (λ (e : Entry). is_day e.key) (sym c.deref-in-loop-entry.ensures) ∙ sym c.is_day.ensures in
    let inv = c.loop-entry.invariant in
    elim c.if-is_day.branch [
      | then-is_day w ↦ record {
        counted = w.days-is ∙ ap (λ n. n + 1) inv.counted ∙ sym (more true (same ∙ w.if-is_day.true));
        most = omega (arith, w.days-is, inv.most);
      }
      | else-is_day w ↦ record {
        counted = omega (arith, w.days-is, inv.counted, more false (same ∙ w.if-is_day.false));
        most = omega (arith, w.days-is, inv.most);
      }
    ]

pub returns : goal.returns
returns c = c.loop-entry.invariant.counted ∙ before-all c.args.entries.now c.loop-entry.entry-index (omega (arith, c.loop-entry-test.false))
