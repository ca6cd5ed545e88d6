use Rattle.std.proofs.Common.{◌≡◌, true, false, sym, ap, ◌∙◌, arith}
use Rattle.std.specs.Prelude.{slice_index_or}
use Rattle.ga_base.specs.Layers.{is_day}
use Rattle.ga_summary.specs.declared.entry.Entry.{Entry}
use Rattle.ga_summary.specs.Steps.Entries.{rows_of}
use Rattle.ga_summary.specs.Steps.LastDays.{days_of}
use Rattle.ga_summary.proofs.DayPlaces.{before, before-all, before-more, day-there, none-there}
use Rattle.ga_summary.proofs.trim.day_at.Goals.{then-is_day+else-left-eq0, else-is_day}
use Rattle.ga_summary.proofs.trim.day_at.Goals as goal

pub loop-entry-init : goal.loop-entry-init
loop-entry-init c = omega arith

pub returns-then-left-eq0 : goal.returns-then-left-eq0
returns-then-left-eq0 c =
    let day = ap (λ (e : Entry). is_day e.key) (sym c.deref.ensures) ∙ sym c.is_day.ensures ∙ c.if-is_day.true in
    let place : before c.args.entries.now c.loop-entry.entry-index ≡ c.args.place = omega (arith, c.loop-entry.invariant, c.if-left-eq0.true) in
    ap (λ (e : Entry). e.key.date) c.deref-then-left-eq0.ensures
    ∙ sym (day-there c.args.entries.now c.loop-entry.entry-index c.entry-item.result c.loop-entry-test.true c.entry-item.is day)
    ∙ ap (λ n. slice_index_or (days_of (rows_of c.args.entries.now)) n 0) place

pub loop-entry-preserved : goal.loop-entry-preserved
loop-entry-preserved c =
    let more = before-more c.args.entries.now c.loop-entry.entry-index c.entry-item.result c.loop-entry-test.true c.entry-item.is in
    let same = ap (λ (e : Entry). is_day e.key) (sym c.deref.ensures) ∙ sym c.is_day.ensures in
    elim c.if-is_day.branch [
      | then-is_day+else-left-eq0 w ↦ omega (arith, w.left-is, w.if-left-eq0.false, c.loop-entry.invariant, more true (same ∙ w.if-is_day.true))
      | else-is_day w ↦ omega (arith, w.left-is, c.loop-entry.invariant, more false (same ∙ w.if-is_day.false))
    ]

pub returns : goal.returns
returns c = none-there (rows_of c.args.entries.now) c.args.place (omega (arith, c.loop-entry.invariant, before-all c.args.entries.now c.loop-entry.entry-index (omega (arith, c.loop-entry-test.false))))
