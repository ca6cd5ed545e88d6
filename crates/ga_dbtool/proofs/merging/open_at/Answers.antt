use Rattle.ga_dbtool.proofs.merging.open_at.Goals as goal

pub returns-in-Err-clause-misses : goal.returns-in-Err-clause-misses
returns-in-Err-clause-misses g c = (c.in-Err.fault, c.of_store.ensures, c.in-Err.ensures.misses)
