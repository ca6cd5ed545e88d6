use Rattle.std.proofs.Common.{◌-◌, ◌*◌}
use Rattle.ga_base.proofs.pieces.+pieces.Given as goal

abbrev pub decreases-map_pieces : goal.decreases-map_pieces
decreases-map_pieces g l = 2 * l.pieces

abbrev pub decreases-front : goal.decreases-front
decreases-front g l = 2 * l.pieces - 1

abbrev pub decreases-back : goal.decreases-back
decreases-back g l = 2 * l.pieces - 1
