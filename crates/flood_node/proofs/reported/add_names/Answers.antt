use Rattle.std.proofs.Common.{ap, ◌∙◌}
use Rattle.net_graph.specs.Nets.{PureNet, number_of}
use Rattle.flood_node.proofs.Names.{name_absent, node_named_next, dest_named_next}
use Rattle.flood_node.proofs.reported.add_names.Goals as goal

pub add_node-requires-clause-absent : goal.add_node-requires-clause-absent
add_node-requires-clause-absent c =
    ap (λ (d : PureNet). number_of d.nodes c.node_name.result.now) c.loop-node.invariant
    ∙ name_absent c.args.net.now.nodes c.loop-node.node c.node_name.result.now c.node_count-node-end.ensures.net.node_apart c.node_name.ensures.name

pub loop-node-preserved : goal.loop-node-preserved
loop-node-preserved c = node_named_next c.args.net.now c.loop-node.draft c.add_node.new.self c.loop-node.node c.node_name.result.now c.loop-node.invariant c.node_name.ensures.name c.in_ok-add_node.ensures.ok

pub add_dest-requires-clause-absent : goal.add_dest-requires-clause-absent
add_dest-requires-clause-absent c =
    ap (λ (d : PureNet). number_of d.dests c.dest_name.result.now) c.loop-dest.invariant
    ∙ name_absent c.args.net.now.dests c.loop-dest.dest c.dest_name.result.now c.node_count-node-end.ensures.net.dest_apart c.dest_name.ensures.name

pub loop-dest-preserved : goal.loop-dest-preserved
loop-dest-preserved c = dest_named_next c.args.net.now c.loop-dest.draft c.add_dest.new.self c.loop-dest.dest c.dest_name.result.now c.loop-dest.invariant c.dest_name.ensures.name c.in_ok-add_dest.ensures.ok
