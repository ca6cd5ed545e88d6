use Rattle.ga_pairs.proofs.set.PairSet.split.Given as goal

abbrev pub ghosts-split_by : goal.ghosts-split_by
ghosts-split_by a = record { share = a.share; allowance = a.allowance }
