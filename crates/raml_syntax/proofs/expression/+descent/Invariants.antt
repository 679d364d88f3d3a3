use Rattle.std.proofs.Common.{ℕ, ◌+◌, ◌-◌, ◌*◌}
use Rattle.alg_model.specs.declared.alg.TheConstants.{MAX_TREE_NODES}
use Rattle.raml_syntax.proofs.expression.+descent.Given as goal

-- what the nodes that may still come allow
abbrev steps : ℕ → ℕ
steps nodes = 4 * (MAX_TREE_NODES - nodes)

abbrev pub decreases-read_expression : goal.decreases-read_expression
decreases-read_expression l = steps l.nodes.now

abbrev pub decreases-read_part : goal.decreases-read_part
decreases-read_part l = steps l.nodes.now + 1

abbrev pub decreases-read_paired : goal.decreases-read_paired
decreases-read_paired l = steps l.nodes.now + 2

abbrev pub decreases-read_single : goal.decreases-read_single
decreases-read_single l = steps l.nodes.now + 2

abbrev pub decreases-read_tail : goal.decreases-read_tail
decreases-read_tail l = steps l.nodes.now + 3
