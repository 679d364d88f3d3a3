-- The nodes of a tree.
use Rattle.std.proofs.Common.{◌<◌, arith}
use Rattle.alg_model.specs.Expressions.{Expression, lex, scoped, union, sum, plus, left, right}
use Rattle.alg_model.specs.Formation.{node_count}

-- a tree has a node
pub some_node : (a : Expression) → 0 < node_count a
some_node (lex a b) = omega arith
some_node (scoped a b) = omega arith
some_node (union a b) = omega arith
some_node (sum a b) = omega arith
some_node (plus a b) = omega arith
some_node (left a) = omega arith
some_node (right a) = omega arith
some_node _ = omega arith
