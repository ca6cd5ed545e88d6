use Rattle.std.proofs.lemmas.Bool.{false≢true}
use Rattle.ga_summary.proofs.NameTests.{found_more, rest_more, not_among}
use Rattle.ga_summary.proofs.row_tests.all_among.Goals as goal

pub loop-name-preserved : goal.loop-name-preserved
loop-name-preserved c =
    let invariant = c.loop-name.invariant in
    let item = c.name-item in
    let behind = c.in-Some.ensures in
    record {
      rising = behind.rising;
      found = found_more c.args.names.now c.args.among.now c.requires.rising c.loop-name.name-index item.result item.is c.loop-name-test.true c.loop-name.left.now invariant.rest behind.found invariant.found;
      rest = rest_more c.args.names.now c.args.among.now c.requires.rising c.loop-name.name-index item.result item.is c.loop-name-test.true c.loop-name.left.now invariant.rest _ behind;
    }

pub returns-in-None : goal.returns-in-None
returns-in-None c = (
  λ e. absurd (false≢true e),
  not_among c.args.names.now c.args.among.now c.requires.rising c.loop-name.name-index c.name-item.result c.name-item.is c.loop-name-test.true c.loop-name.left.now c.loop-name.invariant.rest c.in-None.ensures,
)
