use Rattle.std.proofs.Common.{Some, refl, sym, subst}
use Rattle.std.specs.Option.{option_map}
use Rattle.ga_numbers.specs.VisitorRefs.{visitor_of}
use Rattle.ga_tallies.specs.Steps.Notes.{NotesOne, NotesVisitor}
use Rattle.ga_tallies.specs.Tallies.{TallySeen}
use Rattle.ga_tallies.proofs.NotedSo.{visitor-noted}
use Rattle.ga_tallies.proofs.tally.Tally.note_visitor.Goals as goal

pub returns-in_ok-number-in-Some : goal.returns-in_ok-number-in-Some
returns-in_ok-number-in-Some c =
    let n = c.in_ok-number-in-Some.number in
    let visitor = visitor_of c.in-Some.visitor in
    let old = c.self.inside in
    let seen : TallySeen = record { totals = old.totals; keys = old.keys; visitors = old.visitors; sums = old.sums.items; pairs = old.pairs } in
    let new : TallySeen = record seen { visitors = c.number.new.self } in
    let one = visitor-noted visitor n seen c.number.new.self c.in_ok-number-in-Some.ensures.ok in
    subst (λ v. NotesVisitor (option_map visitor_of v) (Some n) c.args.self.now new) (sym c.in-Some.is) (n, refl, subst (λ (t : TallySeen). NotesOne visitor n t new) c.self.view_is one)
