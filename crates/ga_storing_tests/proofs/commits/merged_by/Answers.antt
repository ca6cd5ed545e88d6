use Rattle.ga_storing_tests.proofs.Merges.{merges}
use Rattle.ga_storing_tests.proofs.commits.merged_by.Goals as goal

pub returns : goal.returns
returns c = merges c.args.mode c.args.keep c.args.stored.now c.args.run.now c.in_ok-whole.whole c.trim.new.self c.in_ok-whole.ensures c.trim.ensures
