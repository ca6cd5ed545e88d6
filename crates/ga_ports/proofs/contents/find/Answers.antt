use Rattle.std.proofs.Common.{ap, ◌∙◌}
use Rattle.std.specs.Option.{is_none}
use Rattle.ga_ports.proofs.Places.{bytes_at-place_of, is_none-place_of}
use Rattle.ga_ports.proofs.contents.find.Goals as goal

pub returns-clause-absent : goal.returns-clause-absent
returns-clause-absent c = ap is_none c.first.ensures ∙ is_none-place_of c.args.name.now c.args.contents.now

pub returns-clause-bytes : goal.returns-clause-bytes
returns-clause-bytes c = rw c.first.ensures (bytes_at-place_of c.args.name.now c.args.contents.now)
