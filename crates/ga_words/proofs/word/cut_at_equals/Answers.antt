use Rattle.ga_words.proofs.CutLemmas.{cut-of}
use Rattle.ga_words.proofs.word.cut_at_equals.Goals as goal

pub returns : goal.returns
returns c = cut-of c.args.word.now c.split_once.result c.split_once.ensures.cases
