use Rattle.std.proofs.Common.{◌<◌, length, ap, sym, subst, ◌∙◌, get_or}
use Rattle.ga_counts.specs.Counts.{ClosedSeen}
use Rattle.ga_counts.proofs.Closes.{maximum-reads}
use Rattle.ga_counts.proofs.count_closed.CountClosed.maximum.Goals as goal

pub returns : goal.returns
returns c =
    maximum-reads _ c.self.inside.words c.self.inside.maxima c.args.place c.word.result (subst (λ (d : ClosedSeen). c.args.place < length d.maxima) (sym c.self.view_is) c.requires) c.word.ensures
    ∙ ap (λ (d : ClosedSeen). get_or d.maxima c.args.place 0) c.self.view_is
