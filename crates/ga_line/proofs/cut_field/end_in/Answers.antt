use Rattle.ga_line.proofs.PlaceLemmas.{stop-first, stop-none}
use Rattle.ga_line.proofs.cut_field.end_in.Goals as goal

pub returns-else-stop-eq-QUOTE-clause-first : goal.returns-else-stop-eq-QUOTE-clause-first
returns-else-stop-eq-QUOTE-clause-first c = stop-first c.args.stop c.args.rest.now c.if-stop-eq-QUOTE.false c.find_byte.result c.find_byte.ensures

pub returns-else-stop-eq-QUOTE-clause-none : goal.returns-else-stop-eq-QUOTE-clause-none
returns-else-stop-eq-QUOTE-clause-none c = stop-none c.args.stop c.args.rest.now c.if-stop-eq-QUOTE.false c.find_byte.result c.find_byte.ensures
