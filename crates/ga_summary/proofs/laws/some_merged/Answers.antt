use Rattle.ga_summary.specs.Steps.Joined.{merged_value}
use Rattle.ga_summary.proofs.SomeSum.{IsMerged-value}
use Rattle.ga_summary.proofs.laws.some_merged.Goals as goal

pub returns : goal.returns
returns c = λ a b s t. (merged_value a b, IsMerged-value a b s t)
