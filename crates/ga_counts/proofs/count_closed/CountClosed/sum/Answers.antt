use Rattle.std.proofs.Common.{◌<◌, length, ap, sym, subst, ◌∙◌, get_or}
use Rattle.ga_counts.specs.Counts.{ClosedSeen}
use Rattle.ga_counts.proofs.Closes.{sum-reads}
use Rattle.ga_counts.proofs.count_closed.CountClosed.sum.Goals as goal

pub returns : goal.returns
returns c =
    sum-reads _ c.self.inside.words c.args.word c.word.result (subst (λ (d : ClosedSeen). c.args.word < length d.sums) (sym c.self.view_is) c.requires) c.word.ensures
    ∙ ap (λ (d : ClosedSeen). get_or d.sums c.args.word 0) c.self.view_is
