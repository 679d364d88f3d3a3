use Rattle.std.proofs.Common.{◌≡◌, ℕ, length, take, true}
use Rattle.alg_model.specs.Carriers.{distinct}
use Rattle.meta_base.specs.NodePaths.{numbers}
use Rattle.net_graph.specs.Tables.{is_among}
use Rattle.path_vector.specs.declared.marks.TheConstants.{MARK_WORDS}
use Rattle.path_vector.specs.Marks.{is_marked}
use Rattle.path_vector.proofs.paths.has_each_marked_once.Given as goal

-- the nodes so far are marked, and none is among them twice
abbrev pub invariant-loop-node : goal.invariant-loop-node
invariant-loop-node l = record {
  count : length l.passed ≡ MARK_WORDS;
  marked : (i : ℕ) → is_marked l.passed i ≡ is_among (numbers (take l.node-index l.path)) i;
  once : distinct (numbers (take l.node-index l.path)) ≡ true;
}
