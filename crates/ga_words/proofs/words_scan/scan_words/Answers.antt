use Rattle.ga_words.proofs.JoinLemmas.{only-scan}
use Rattle.ga_words.proofs.words_scan.scan_words.Goals as goal

pub returns-clause-only : goal.returns-clause-only
returns-clause-only c = only-scan c.args.words.now c.scan.result c.one_scan.ensures.one c.scan.ensures.ok c.scan.ensures.fault
