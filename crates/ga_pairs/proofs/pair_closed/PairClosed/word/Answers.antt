use Rattle.std.proofs.Common.{List, ℕ, sym, ap, ◌∙◌, get_or}
use Rattle.ga_draws.proofs.Views.{seat-is}
use Rattle.ga_pairs.proofs.pair_closed.PairClosed.word.Goals as goal

pub returns : goal.returns
returns c = sym (seat-is _ c.args.at c.word.result 0 c.word.ensures) ∙ ap (λ (xs : List ℕ). get_or xs c.args.at 0) c.self.view_is
