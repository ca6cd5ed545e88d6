use Rattle.std.proofs.Common.{ap, ◌∙◌, ◌-◌, length, None}
use Rattle.std.specs.Prelude.{slice_index_or}
use Rattle.std.specs.Option.{option_copied, option_map}
use Rattle.ga_line.specs.Steps.Fitting.{part_of, first_taken}
use Rattle.ga_line.proofs.FieldLemmas.{noted-more}
use Rattle.ga_line.proofs.fields.Fields.note.Goals as goal

pub returns : goal.returns
returns c = λ before are.
    let same = c.note_taken.ensures.texts in
    noted-more before c.args.self.now c.note_taken.new.self c.args.letter c.args.text.now are (ap length same ∙ c.note_text.ensures.room)
    (λ other is. ap (λ texts. option_copied (slice_index_or texts (other - 64) None)) same ∙ c.note_text.ensures.texts are.room other is)
    (c.note_taken.ensures.taken ∙ ap (λ taken. first_taken (option_map part_of taken) (c.args.letter, c.args.text.now)) c.note_text.ensures.taken)
