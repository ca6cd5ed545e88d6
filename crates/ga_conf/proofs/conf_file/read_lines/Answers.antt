use Rattle.ga_conf.proofs.FileLemmas.{read_more}
use Rattle.ga_conf.proofs.conf_file.read_lines.Goals as goal

pub loop-rest-preserved : goal.loop-rest-preserved
loop-rest-preserved c =
    let given = c.in_ok-read_line.ensures.ok in
    read_more c.args.bytes.now c.first_line.result.0.now c.loop-rest.rest.now c.first_line.result.1.now c.loop-rest.number c.loop-rest.words given.0 c.read_line.new.words
    c.loop-rest.invariant c.first_line.ensures given.1 given.2
