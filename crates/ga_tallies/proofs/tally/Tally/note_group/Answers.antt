use Rattle.std.proofs.Common.{refl, sym, subst}
use Rattle.std.proofs.lemmas.Result.{on_ok_weaker}
use Rattle.ga_tallies.specs.Steps.Notes.{NotesKeys, number_in}
use Rattle.ga_tallies.proofs.tally.Tally.note_group.Goals as goal

pub returns-in-None : goal.returns-in-None
returns-in-None c = subst (λ keys. NotesKeys keys (number_in c.args.visit) c.args.line c.args.self.now c.args.self.now) (sym c.in-None.ensures) refl

pub returns-in-Some : goal.returns-in-Some
returns-in-Some c =
    on_ok_weaker c.note_key.result (λ note.
    subst (λ keys. NotesKeys keys (number_in c.args.visit) c.args.line c.args.self.now c.note_key.new.self) (sym c.in-Some.ensures) (c.note_key.new.self, note, refl)) c.note_key.ensures
