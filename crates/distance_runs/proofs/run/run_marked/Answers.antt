use denote.Param.Send.{sendable}
use Rattle.std.proofs.Common.{◌≡◌, ◌∙◌, List, ap, map, subst, sym}
use Rattle.std.specs.List.{AllByRecursion}
use Rattle.std.proofs.Crossing.{crosses}
use Rattle.node_core.specs.Machine.{AreUnbegun}
use Rattle.weave.proofs.Sent.{net_sync}
use Rattle.distance_node.specs.Node.{distance}
use Rattle.distance_node.specs.Nodes.{PureNode, state_of}
use Rattle.distance_node.specs.Rows.{HopRows}
use Rattle.distance_node.specs.Starting.{new_unbegun}
use Rattle.distance_runs.proofs.Begun.{begun_nets, same_phase}
use Rattle.distance_runs.proofs.run.run_marked.Goals as goal

pub weave-requires-send-N : goal.weave-requires-send-N
weave-requires-send-N g c κs within =
    let sig = c.type_bounds.send-A-Sig in
    let lab = c.type_bounds.sync-A-Lab in
    let algebra = c.type_bounds.sync-A in
    let mark = c.type_bounds.send-M in
    search (net_sync, crosses, sendable) depth 60 fits 20000

pub weave-requires-clause-nodes : goal.weave-requires-clause-nodes
weave-requires-clause-nodes g c _ _ = subst (AreUnbegun distance c.args.net.now 0) (sym c.in_ok-nodes.ensures) (new_unbegun c.args.net.now)

pub hop_rows-requires : goal.hop_rows-requires
hop_rows-requires g c =
    let net = c.args.net.now in
    let ended = c.in_ok-nodes-2.field-0 in
    let is = c.in_ok-nodes-2.ensures in
    let phase = same_phase net (map state_of c.in_ok-nodes.nodes) c.args.budget.turns ended.journal (map state_of ended.nodes) ended.totals ended.quiet c.keeps_rules.ensures c.in_ok-nodes.ensures is in
    (net, subst (AllByRecursion (λ (n : PureNode). n.net ≡ net)) (sym c.as_slice.ensures) (begun_nets net 0 ended.nodes phase.begun))

pub returns : goal.returns
returns g c =
    let net = c.args.net.now in
    let ended = c.in_ok-nodes-2.field-0 in
    let is = c.in_ok-nodes-2.ensures in
    let phase = same_phase net (map state_of c.in_ok-nodes.nodes) c.args.budget.turns ended.journal (map state_of ended.nodes) ended.totals ended.quiet c.keeps_rules.ensures c.in_ok-nodes.ensures is in
    record {
      states = map state_of ended.nodes;
      phase = phase;
      hops_are = c.in_ok-hops.ensures net (subst (AllByRecursion (λ (n : PureNode). n.net ≡ net)) (sym c.as_slice.ensures) (begun_nets net 0 ended.nodes phase.begun)) ∙ ap (λ (z : List PureNode). HopRows net (map state_of z)) c.as_slice.ensures;
    }
