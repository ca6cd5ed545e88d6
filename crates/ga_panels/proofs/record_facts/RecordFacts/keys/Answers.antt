use Rattle.std.proofs.Common.{◌≡◌, ◌∙◌, ap, sym, subst, take, arith}
use Rattle.std.specs.Prelude.{flat_map}
use Rattle.ga_base.specs.declared.panel.TheConstants.Panel.{ALL as ALL_PANELS, COUNT}
use Rattle.ga_panels.specs.Form.{AreKeysOfDay}
use Rattle.ga_panels.specs.Known.{facts_of, record_of, setup_of}
use Rattle.ga_panels.specs.Table.{keys_in}
use Rattle.ga_panels.proofs.DayKeys.{keys_of_day}
use Rattle.ga_panels.proofs.Moments.{minute-timed}
use Rattle.ga_panels.proofs.PanelSteps.{one_panel_more}
use Rattle.ga_panels.proofs.record_facts.RecordFacts.keys.Goals as goal

pub returns-clause-exact : goal.returns-clause-exact
returns-clause-exact c =
    let known = c.args.self.now in
    let end : c.loop-panel.panel-index ≡ COUNT = omega arith in
    c.loop-panel.invariant ∙ ap (λ n. flat_map (keys_in (setup_of known) (record_of known) (facts_of known)) (take n ALL_PANELS)) end

pub returns-clause-form : goal.returns-clause-form
returns-clause-form c =
    let known = c.args.self.now in
    subst (AreKeysOfDay known.rec.date) (sym (returns-clause-exact c)) (keys_of_day (setup_of known) (record_of known) (facts_of known) known.dated (minute-timed known.rec.minute known.timed) known.named)

pub loop-panel-preserved : goal.loop-panel-preserved
loop-panel-preserved c =
    let known = c.args.self.now in
    one_panel_more (setup_of known) (record_of known) (facts_of known) ALL_PANELS c.loop-panel.panel-index _ _ _ _ (omega arith) c.key_in.ensures c.in_ok-push_with_group.ensures c.loop-panel.invariant
