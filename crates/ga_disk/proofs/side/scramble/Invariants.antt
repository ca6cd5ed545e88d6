use Rattle.ga_disk.proofs.Picked.{HasCome}
use Rattle.ga_disk.proofs.side.scramble.Given as goal

abbrev pub invariant-loop-at : goal.invariant-loop-at
invariant-loop-at l = HasCome l.changed l.synced l.pick l.used l.initial.bytes l.at l.next l.bytes
