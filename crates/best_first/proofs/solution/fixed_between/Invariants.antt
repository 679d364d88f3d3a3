use Rattle.best_first.proofs.solution.fixed_between.Given as goal

abbrev pub ghosts-searched_between : goal.ghosts-searched_between
ghosts-searched_between g a = record { name = a.blank.name; parts = a.blank.parts }
