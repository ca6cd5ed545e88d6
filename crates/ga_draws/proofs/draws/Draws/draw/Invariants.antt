use Rattle.ga_draws.proofs.draws.Draws.draw.Given as goal

abbrev pub ghosts-draw_by : goal.ghosts-draw_by
ghosts-draw_by a = record { number = a.self.now.shares }
