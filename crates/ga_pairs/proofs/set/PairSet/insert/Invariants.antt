use Rattle.ga_pairs.proofs.set.PairSet.insert.Given as goal

abbrev pub ghosts-claim : goal.ghosts-claim
ghosts-claim g a = record { pair = a.pair; cells = a.self.now.opening.cells }
