use Rattle.std.proofs.Common.{◌+◌}
use Rattle.std.specs.Prelude.{IfSome}
use Rattle.std.proofs.Math.ListN.{take}
use Rattle.distance_node.specs.Arrivals.{heard_reported}
use Rattle.distance_node.specs.Chosen.{IsBest}
use Rattle.distance_node.specs.Node.{offers}
use Rattle.distance_node.proofs.choosing.choose.Given as goal

-- the best of the offers of the own origin and of the arcs so far
abbrev pub invariant-loop-place : goal.invariant-loop-place
invariant-loop-place g l =
    let A = g.A.Algebra in
    let at = l.fn.site in
    let value = A.sig_value at.algebra.now in
    record {
      sig : IfSome l.best (λ r. A.is_sig at.algebra.now r.sig);
      best : IsBest value at.net.now at.node.0 (take (l.place + 1) (offers at.net.now l.fn.arrival.dest.0 at.node.0 (heard_reported value at.net.now at.node.0 l.fn.heard l.fn.arrival))) l.best;
    }
