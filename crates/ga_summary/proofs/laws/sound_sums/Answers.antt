use Rattle.ga_summary.proofs.SoundSums.{IsSound-sum}
use Rattle.ga_summary.proofs.laws.sound_sums.Goals as goal

pub returns : goal.returns
returns c = IsSound-sum
