use Rattle.ga_pool.proofs.putting.claim.Given as goal

abbrev pub ghosts-claim_by : goal.ghosts-claim_by
ghosts-claim_by a = record { name = a.blank.name; parts = a.blank.parts }
