use Rattle.std.proofs.Common.{◌∷◌, [], refl, sym, subst}
use Rattle.std.specs.Option.{option_map}
use Rattle.std.proofs.lemmas.Result.{on_ok_weaker}
use Rattle.ga_panels.specs.Refs.{key_of}
use Rattle.ga_panels.specs.Table.{group_keys, with_group}
use Rattle.ga_tallies.specs.Steps.Notes.{NotesKeys, number_in}
use Rattle.ga_tallies.proofs.KeysOnKeys.{notes-both}
use Rattle.ga_tallies.proofs.tally.Tally.note_entry.Goals as goal

pub returns : goal.returns
returns c =
    let entry = c.in-Some.entry in
    let key = key_of entry in
    on_ok_weaker c.note_key.result (λ note.
    subst (λ e. NotesKeys (with_group (option_map key_of e)) (number_in c.args.visit) c.args.line c.args.self.now c.note_key.new.self) (sym c.in-Some.is)
    (notes-both (group_keys key entry.parent.now) (key ∷ []) (number_in c.args.visit) c.args.line c.args.self.now c.note_group.new.self c.note_key.new.self c.in_ok-note_group.ensures (c.note_key.new.self, note, refl))) c.note_key.ensures
