use Rattle.std.proofs.Common.{◌≡◌, ◌-◌, get_or, set, sym, subst, None}
use Rattle.std.specs.Option.{option_copied}
use Rattle.ga_line.specs.Steps.Fitting.{noted}
use Rattle.ga_line.proofs.FieldLemmas.{text-noted}
use Rattle.ga_line.proofs.fields.Fields.note_text.Goals as goal

pub returns-then-letter-clause-texts : goal.returns-then-letter-clause-texts
returns-then-letter-clause-texts c = λ room other is.
    let texts = c.args.self.now.texts in
    subst (λ now. option_copied (get_or (set texts (c.args.letter - 64) now) (other - 64) None) ≡ noted other (option_copied (get_or texts (other - 64) None)) (c.args.letter, c.args.text.now)) (sym c.or.ensures)
    (text-noted texts c.args.letter other c.args.text room c.if-letter-ge-FIRST_LETTER.true c.if-letter.true is)
