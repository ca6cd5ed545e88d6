use Rattle.ga_counts.proofs.table.CountTable.split.Given as goal

abbrev pub ghosts-split_by : goal.ghosts-split_by
ghosts-split_by a = record { share = a.share; allowance = a.allowance }
