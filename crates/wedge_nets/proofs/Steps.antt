-- How many calls a recursion over an expression may make.
use Rattle.std.proofs.Common.{◌+◌, ◌*◌, ℕ}
use Rattle.alg_model.specs.Expressions.{Expression}
use Rattle.alg_model.specs.Formation.{node_count}

-- two for each node
abbrev pub steps : Expression → ℕ
steps a = 2 * node_count a

-- those of two parts, and one
abbrev pub steps_of_parts : Expression → Expression → ℕ
steps_of_parts a b = 2 * (node_count a + node_count b) + 1
