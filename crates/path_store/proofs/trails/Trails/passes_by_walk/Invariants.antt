use Rattle.std.proofs.Common.{◌≡◌, ◌==◌, ◌<◌, IfSome, length}
use Rattle.std.specs.List.{list_any}
use Rattle.path_store.specs.PathOf.{path_of, path_by}
use Rattle.path_store.proofs.trails.Trails.passes_by_walk.Given as goal

-- whether the node is among those that are left
abbrev pub invariant-loop-left : goal.invariant-loop-left
invariant-loop-left l = record {
  within : IfSome l.left (λ id. id.0 < length l.self);
  nodes : list_any (λ n. n.0 == l.node.0) (path_by l.self l.left) ≡ list_any (λ n. n.0 == l.node.0) (path_of l.self l.fn.id);
}

abbrev pub decreases-loop-left : goal.decreases-loop-left
decreases-loop-left l = length (path_by l.self l.left)
