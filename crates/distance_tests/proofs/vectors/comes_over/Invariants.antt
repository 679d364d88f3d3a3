use Rattle.std.proofs.Common.{Some}
use Rattle.distance_tests.proofs.vectors.comes_over.Given as goal

-- the mark of the algebra
abbrev pub ghosts-comes_to : goal.ghosts-comes_to
ghosts-comes_to g a = record { algebra = Some a.algebra.now }
