use Rattle.code_gen.proofs.algebra.CodeAlgebraAlgebra.apply.Goals as goal

pub returns-in-true-clause-bound : goal.returns-in-true-clause-bound
returns-in-true-clause-bound g c n small = rw c.in-true.is at (c.in_ok-apply_into.ensures.bound n small)
