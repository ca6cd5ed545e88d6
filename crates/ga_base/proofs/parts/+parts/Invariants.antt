use Rattle.std.proofs.Common.{◌+◌, ◌*◌, length}
use Rattle.ga_base.proofs.parts.+parts.Given as goal

abbrev pub decreases-change_parts : goal.decreases-change_parts
decreases-change_parts g l = 4 * length l.lengths.now

abbrev pub decreases-change_both : goal.decreases-change_both
decreases-change_both g l = 4 * length l.lengths.now + 2

abbrev pub decreases-change_both-front : goal.decreases-change_both-front
decreases-change_both-front g l = 1

abbrev pub decreases-change_both-back : goal.decreases-change_both-back
decreases-change_both-back g l = 4 * length l.lengths.now + 1
