use Rattle.std.proofs.Common.{◌≡◌, ℕ, length, take, true}
use Rattle.alg_model.specs.Carriers.{distinct}
use Rattle.meta_base.specs.NodePaths.{numbers}
use Rattle.net_graph.specs.Tables.{is_among}
use Rattle.path_vector.specs.Marks.{is_marked}
use Rattle.path_vector.proofs.PathMarks.{folded}
use Rattle.path_vector.proofs.paths.are_apart.Given as goal

-- the marks that the nodes so far share with others are marked, and none is among them twice
abbrev pub invariant-loop-node : goal.invariant-loop-node
invariant-loop-node l = record {
  count : length l.passed ≡ 1;
  marked : (i : ℕ) → is_marked l.passed i ≡ is_among (folded (numbers (take l.node-index l.path))) i;
  once : distinct (folded (numbers (take l.node-index l.path))) ≡ true;
}
