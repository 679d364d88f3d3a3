use Rattle.std.proofs.Common.{◌≡◌, ◌+◌, ◌≤◌, ◌++◌, length, vec_len, vec_capacity}
use Rattle.path_store.specs.Trails.{path_or_end}
use Rattle.path_store.proofs.trails.Trail.to_list.Given as goal

-- the nodes so far, and those that are left, for which there is room
abbrev pub invariant-loop-rest : goal.invariant-loop-rest
invariant-loop-rest l = record {
  nodes : l.nodes.items ++ path_or_end l.rest ≡ l.fn.self;
  room : vec_len l.nodes + length (path_or_end l.rest) ≤ vec_capacity l.nodes;
}

abbrev pub decreases-loop-rest : goal.decreases-loop-rest
decreases-loop-rest l = length (path_or_end l.rest)
