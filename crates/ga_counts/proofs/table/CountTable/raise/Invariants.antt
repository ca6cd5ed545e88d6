use Rattle.ga_counts.proofs.table.CountTable.raise.Given as goal

abbrev pub ghosts-raise_by : goal.ghosts-raise_by
ghosts-raise_by a = record { number = a.place }
