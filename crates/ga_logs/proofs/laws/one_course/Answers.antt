use Rattle.ga_logs.proofs.OneCourse.{one-course}
use Rattle.ga_logs.proofs.laws.one_course.Goals as goal

pub returns : goal.returns
returns c = one-course c.one_portion.ensures c.one_following.ensures
