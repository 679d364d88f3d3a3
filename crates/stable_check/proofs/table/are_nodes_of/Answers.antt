use Rattle.stable_check.proofs.Paths.{all_nodes}
use Rattle.stable_check.proofs.table.are_nodes_of.Goals as goal

pub returns : goal.returns
returns c = rw c.are_below.ensures (all_nodes c.args.net.now c.node_count.result c.node_count.ensures.count c.args.nodes.now)
