use Rattle.ga_line.proofs.ReadLemmas.{IsLineOf-unique}
use Rattle.ga_line.proofs.laws.one_meaning.Goals as goal

pub returns : goal.returns
returns c = IsLineOf-unique c.one_split.ensures c.one_date.ensures c.one_time.ensures c.one_date_and_time.ensures
