use Rattle.std.proofs.Common.{◌≡◌, ◌∙◌, ap, sym, subst}
use Rattle.std.proofs.lemmas.Result.{err_from_is_err_and}
use Rattle.ga_panels.specs.Known.{record_of, setup_of}
use Rattle.ga_panels.specs.Visitors.{visitor_in}
use Rattle.ga_summary.specs.OneLine.{record_sums, record_totals}
use Rattle.ga_base.specs.Totals.{totals_plus, TotalsFit}
use Rattle.ga_tallies.specs.Steps.Notes.{NotesKeys, NotesVisitor, keys_told, number_in}
use Rattle.ga_tallies.proofs.FactsHit.{minute-timed, told-form}
use Rattle.ga_tallies.proofs.OneLine.{hit-added, hit-too-much}
use Rattle.ga_tallies.proofs.tally.Tally.count_facts.Goals as goal

pub returns-in_err-add_totals-clause-full : goal.returns-in_err-add_totals-clause-full
returns-in_err-add_totals-clause-full c = λ is-full.
    let known = c.args.facts.now in
    let p = err_from_is_err_and c.from_residual.result c.from_residual.ensures.1 in
    let error = rw (p.1, p.2) at is-full in
    let totals = c.totals_of.ensures ∙ ap record_totals (sym c.requires.values) in
    hit-too-much (keys_told known) (visitor_in (setup_of known) (record_of known)) (record_of known) c.args.self.now
    (subst (λ more. ¬ TotalsFit (totals_plus c.args.self.now.totals more)) totals (c.in_err-add_totals.ensures.full error))

pub returns-clause-counted : goal.returns-clause-counted
returns-clause-counted c =
    let known = c.args.facts.now in
    let rec = record_of known in
    let values = sym c.requires.values in
    let visitor = visitor_in (setup_of known) rec in
    let place = number_in c.in_ok-visit.visit in
    let form = told-form (setup_of known) rec known known.dated (minute-timed known.rec.minute known.timed) in
    let adds = subst (λ more. c.add_totals.new.self ≡ record c.args.self.now { totals = totals_plus c.args.self.now.totals more }) (c.totals_of.ensures ∙ ap record_totals values) c.in_ok-add_totals.ensures.ok in
    let sits = subst (λ v. NotesVisitor v place c.add_totals.new.self c.note_visitor.new.self) (c.visitor_in.ensures ∙ ap (visitor_in (setup_of known)) values) c.in_ok-visit.ensures in
    let notes = subst (λ line. NotesKeys (keys_told known) place line c.note_visitor.new.self c.note_keys.new.self) (c.sums_of.ensures ∙ ap record_sums values) c.in_ok-note_keys.ensures in
    hit-added (keys_told known) visitor rec place c.args.self.now c.add_totals.new.self c.note_visitor.new.self c.note_keys.new.self form adds c.in_ok-add_totals.ensures.fit sits notes
