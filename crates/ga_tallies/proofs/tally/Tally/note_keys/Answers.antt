use Rattle.std.proofs.Common.{◌≡◌, ◌<◌, subst, arith, length}
use Rattle.std.specs.Option.{option_map}
use Rattle.ga_base.specs.declared.panel.TheConstants.Panel.{ALL, COUNT}
use Rattle.ga_panels.specs.Known.{facts_of, record_of, setup_of}
use Rattle.ga_panels.specs.Refs.{key_of}
use Rattle.ga_panels.specs.Table.{with_group}
use Rattle.ga_tallies.specs.Steps.Notes.{NotesKeys, number_in}
use Rattle.ga_tallies.proofs.KeysOnKeys.{keys_up_to, notes-both, one-panel-more}
use Rattle.ga_tallies.proofs.tally.Tally.note_keys.Goals as goal

pub loop-panel-preserved : goal.loop-panel-preserved
loop-panel-preserved c =
    let known = c.args.facts.now in
    let i = c.loop-panel.panel-index in
    let so_far = keys_up_to (setup_of known) (record_of known) (facts_of known) ALL i in
    let inside : i < length ALL = omega arith in
    let more = one-panel-more (setup_of known) (record_of known) (facts_of known) ALL i _ (option_map key_of c.key_in.result) inside c.key_in.ensures in
    subst (λ ks. NotesKeys ks (number_in c.args.visit) c.args.line c.args.self.now c.note_entry.new.self) more
    (notes-both so_far (with_group (option_map key_of c.key_in.result)) (number_in c.args.visit) c.args.line c.args.self.now c.loop-panel.self c.note_entry.new.self c.loop-panel.invariant c.in_ok-note_entry.ensures)

pub returns : goal.returns
returns c =
    let known = c.args.facts.now in
    let end : c.loop-panel.panel-index ≡ COUNT = omega arith in
    subst (λ n. NotesKeys (keys_up_to (setup_of known) (record_of known) (facts_of known) ALL n) (number_in c.args.visit) c.args.line c.args.self.now c.loop-panel.self) end c.loop-panel.invariant
