use Rattle.ga_logs.proofs.OneCourse.{one-following}
use Rattle.ga_logs.proofs.laws.one_following.Goals as goal

pub returns : goal.returns
returns c = one-following
