use Rattle.ga_words.proofs.TableLemmas.{option_map-lookup}
use Rattle.ga_words.proofs.options.option_named.Goals as goal

pub returns : goal.returns
returns c = rw c.lookup.ensures (search option_map-lookup)
