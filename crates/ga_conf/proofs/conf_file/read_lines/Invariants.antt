use Rattle.std.proofs.Common.{length}
use Rattle.ga_conf.proofs.FileLemmas.{ReadTo}
use Rattle.ga_conf.proofs.conf_file.read_lines.Given as goal

abbrev pub invariant-loop-rest : goal.invariant-loop-rest
invariant-loop-rest l = ReadTo l.fn.bytes l.rest l.number l.words

abbrev pub decreases-loop-rest : goal.decreases-loop-rest
decreases-loop-rest l = length l.rest
