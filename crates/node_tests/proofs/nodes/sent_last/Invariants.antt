use Rattle.std.proofs.Common.{◌≡◌, ◌≤◌, true}
use Rattle.node_core.specs.declared.node.TheConstants.{MAX_CLOCK}
use Rattle.node_tests.proofs.nodes.sent_last.Given as goal

-- the node is begun, and the clock is its last one
abbrev pub invariant-loop-arc : goal.invariant-loop-arc
invariant-loop-arc g l =
    let k = g.N.NodeCore.kind in
    let s = g.N.NodeCore.state l.node in
    record {
      net : k.net s ≡ l.net;
      number : k.number s ≡ l.number.0;
      begun : k.is_begun s ≡ true;
      last : k.last s ≡ l.clock;
      high : l.clock ≤ MAX_CLOCK;
    }
