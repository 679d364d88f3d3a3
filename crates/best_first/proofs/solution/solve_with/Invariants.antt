use Rattle.best_first.proofs.solution.solve_with.Given as goal

abbrev pub ghosts-fixed_alone : goal.ghosts-fixed_alone
ghosts-fixed_alone g a = record { name = a.blank.name; parts = a.blank.parts }
