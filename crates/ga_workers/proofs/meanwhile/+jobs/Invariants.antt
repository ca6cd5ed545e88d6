use Rattle.std.proofs.Common.{◌+◌, ◌*◌, length}
use Rattle.ga_workers.proofs.meanwhile.+jobs.Given as goal

abbrev pub decreases-both : goal.decreases-both
decreases-both g l = 4 * length l.others.items + 2

abbrev pub decreases-both-front : goal.decreases-both-front
decreases-both-front g l = 4 * length l.rest.items + 1

abbrev pub decreases-map_meanwhile : goal.decreases-map_meanwhile
decreases-map_meanwhile g l = 4 * length l.jobs.items
