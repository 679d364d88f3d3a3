use Rattle.std.proofs.Common.{◌≡◌, length}
use Rattle.meta_base.specs.NodePaths.{compare_nodes}
use Rattle.meta_base.specs.NodePaths.{numbers}
use Rattle.path_store.proofs.order.compare_in_turn.Given as goal

-- the lists compare as what is left of them
abbrev pub invariant-loop-p : goal.invariant-loop-p
invariant-loop-p l = compare_nodes (numbers l.p) (numbers l.q) ≡ compare_nodes (numbers l.first) (numbers l.second)

abbrev pub decreases-loop-p : goal.decreases-loop-p
decreases-loop-p l = length l.p
