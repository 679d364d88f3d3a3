use Rattle.std.proofs.Common.{◌≡◌, map}
use Rattle.std.specs.List.{range_with_len}
use Rattle.distance_node.specs.Beginning.{AreBegun}
use Rattle.distance_node.specs.Node.{all_begun}
use Rattle.distance_node.specs.Vectors.{noted}
use Rattle.distance_node.proofs.beginning.begun_rows.Given as goal

-- the rows so far are the own origins', and were sent
abbrev pub invariant-loop-place : goal.invariant-loop-place
invariant-loop-place g l =
    let A = g.A.Algebra in
    let at = l.fn.site in
    record {
      rows : AreBegun (A.is_sig at.algebra.now) (A.sig_value at.algebra.now) at.net.now at.node.0 l.place l.rows.items;
      reported : map noted l.out.items ≡ all_begun at.net.now at.node.0 (range_with_len 0 l.place);
    }
