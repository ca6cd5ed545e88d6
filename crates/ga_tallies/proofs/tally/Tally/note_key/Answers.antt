use Rattle.std.proofs.Common.{None, Some, refl, sym, subst}
use Rattle.std.proofs.lemmas.Result.{on_ok_weaker}
use Rattle.ga_panels.specs.Refs.{key_of}
use Rattle.ga_tallies.specs.Steps.Notes.{NotesKey, number_in}
use Rattle.ga_tallies.specs.Tallies.{TallySeen}
use Rattle.ga_tallies.proofs.NotedSo.{key-noted}
use Rattle.ga_tallies.proofs.tally.Tally.note_key.Goals as goal

pub returns-in-None : goal.returns-in-None
returns-in-None c =
    let key = key_of c.args.key.now in
    let old = c.self.inside in
    let seen : TallySeen = record { totals = old.totals; keys = old.keys; visitors = old.visitors; sums = old.sums.items; pairs = old.pairs } in
    let new : TallySeen = record seen { keys = c.number.new.self; sums = c.add_line.new.rows.items } in
    let one = key-noted key None c.args.line c.in_ok-number.number seen c.number.new.self c.add_line.new.rows.items old.pairs c.in_ok-number.ensures.ok c.in_ok-add_line.ensures refl in
    subst (λ visit. NotesKey key (number_in visit) c.args.line c.args.self.now new) (sym c.in-None.is) (subst (λ (t : TallySeen). NotesKey key None c.args.line t new) c.self.view_is one)

pub returns-in-Some : goal.returns-in-Some
returns-in-Some c =
    let key = key_of c.args.key.now in
    let old = c.self.inside in
    let visitor = Some c.in-Some.visit.number in
    let seen : TallySeen = record { totals = old.totals; keys = old.keys; visitors = old.visitors; sums = old.sums.items; pairs = old.pairs } in
    let new : TallySeen = record seen { keys = c.number.new.self; sums = c.add_line.new.rows.items; pairs = c.add.new.self } in
    on_ok_weaker c.add.result (λ adds.
    let one = key-noted key visitor c.args.line c.in_ok-number.number seen c.number.new.self c.add_line.new.rows.items c.add.new.self c.in_ok-number.ensures.ok c.in_ok-add_line.ensures adds in
    subst (λ v. NotesKey key (number_in v) c.args.line c.args.self.now new) (sym c.in-Some.is) (subst (λ (t : TallySeen). NotesKey key visitor c.args.line t new) c.self.view_is one)) c.add.ensures
