use Rattle.std.proofs.Common.{Some}
use Rattle.distance_runs.proofs.run.run_distance.Given as goal

-- the mark of the algebra
abbrev pub ghosts-run_marked : goal.ghosts-run_marked
ghosts-run_marked g a = record { algebra = Some a.algebra.now }
