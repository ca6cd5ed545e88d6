use Rattle.ga_counting_tests.proofs.pairs.insert_one.Given as goal

abbrev pub ghosts-insert_by : goal.ghosts-insert_by
ghosts-insert_by a = record { name = a.blank.name; parts = a.blank.parts }
