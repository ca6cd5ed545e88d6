use Rattle.ga_draws.proofs.draws.Draws.join.Given as goal

abbrev pub ghosts-look_by : goal.ghosts-look_by
ghosts-look_by a = record { number = a.self.now.shares }
