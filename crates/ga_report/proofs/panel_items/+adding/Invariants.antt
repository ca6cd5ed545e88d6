use Rattle.std.proofs.Common.{◌+◌, ◌*◌}
use Rattle.ga_report.proofs.panel_items.+adding.Given as goal

abbrev pub decreases-sum_items : goal.decreases-sum_items
decreases-sum_items g l = 4 * l.pieces

abbrev pub decreases-sum_both : goal.decreases-sum_both
decreases-sum_both g l = 4 * l.pieces + 2

abbrev pub decreases-sum_both-some : goal.decreases-sum_both-some
decreases-sum_both-some g l = 4 * l.pieces + 1

abbrev pub decreases-sum_both-others : goal.decreases-sum_both-others
decreases-sum_both-others g l = 4 * l.pieces + 1
