use Rattle.std.proofs.Common.{◌≡◌, map, take, filter}
use Rattle.meta_base.specs.NodePaths.{numbers}
use Rattle.net_graph.specs.Nets.{PureArc, arcs_from}
use Rattle.net_graph.specs.Views.{rows_of}
use Rattle.report_check.specs.Hops.{is_hop}
use Rattle.report_check.proofs.hops.heads_at.Given as goal

-- the heads of the arcs so far
abbrev pub invariant-loop-hop : goal.invariant-loop-hop
invariant-loop-hop g l =
    let net = l.form.net.now in
    numbers l.heads.items ≡ map (λ (a : PureArc). a.head) (filter (is_hop net (rows_of l.form.table.now)) (take l.hop-index (arcs_from net l.fn.node.0)))
