use Rattle.std.proofs.Common.{◌≡◌, ◌<◌, length}
use Rattle.meta_base.specs.NodePaths.{numbers, compare_nodes}
use Rattle.path_store.specs.PathOf.{path_of}
use Rattle.path_store.proofs.trails.Trails.compare_in_turn.Given as goal

-- the paths compare as what is left of them
abbrev pub invariant-loop-p : goal.invariant-loop-p
invariant-loop-p l = record {
  first : l.p.0 < length l.self;
  second : l.q.0 < length l.self;
  count : length (path_of l.self l.p) ≡ length (path_of l.self l.q);
  order : compare_nodes (numbers (path_of l.self l.p)) (numbers (path_of l.self l.q))
      ≡ compare_nodes (numbers (path_of l.self l.fn.first)) (numbers (path_of l.self l.fn.second));
}

abbrev pub decreases-loop-p : goal.decreases-loop-p
decreases-loop-p l = l.p.0
