use Rattle.std.proofs.Common.{◌≡◌, ℕ, ◌++◌, map}
use Rattle.std.specs.Vec.Iter.{into_iter_items}
use Rattle.net_graph.specs.Nets.{PureNet}
use Rattle.path_vector.specs.Node.{carried}
use Rattle.path_vector.specs.Nodes.{state_of}
use Rattle.vector_runs.specs.Runs.{AreBegun}
use Rattle.vector_runs.proofs.nodes.carried_nodes.Given as goal

-- with the nodes that are left all are carried
abbrev pub invariant-loop-node : goal.invariant-loop-node
invariant-loop-node g l =
    let left = into_iter_items l.node-iterator in
    let net = l.fn.net in
    record {
      begun : (before : PureNet) × (net ≡ record before { arcs = net.arcs }) × (i : ℕ) × AreBegun before i (map state_of left);
      nodes : map state_of l.nodes.items ++ map (carried net) (map state_of left) ≡ map (carried net) (map state_of l.fn.old);
    }
