use Rattle.net_gen.proofs.Written.{gains_more, nodes_more}
use Rattle.net_gen.proofs.lines.push_nodes.Goals as goal

pub loop-node-preserved : goal.loop-node-preserved
loop-node-preserved c = gains_more _ _ _ _ _ _ c.in_ok-push_node.ensures c.loop-node.invariant (nodes_more c.loop-node.node)
