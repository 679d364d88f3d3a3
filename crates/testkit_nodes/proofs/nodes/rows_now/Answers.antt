use Rattle.node_core.specs.MachineOf.{machine_of, net_of}
use Rattle.path_vector.specs.Nodes.{state_of}
use Rattle.path_vector.specs.Updates.{pure_update}
use Rattle.testkit_nodes.specs.Starts.{nets_are}
use Rattle.testkit_nodes.proofs.States.{rows_reported}
use Rattle.testkit_nodes.proofs.nodes.rows_now.Goals as goal

pub rows_of-requires : goal.rows_of-requires
rows_of-requires g c =
    let net = net_of c.args.config.now in
    (net, nets_are net (machine_of state_of pure_update c.args.config.now) c.nodes.result.now c.requires c.nodes.ensures)

pub returns : goal.returns
returns g c =
    let net = net_of c.args.config.now in
    let machine = machine_of state_of pure_update c.args.config.now in
    let nodes = c.nodes.result.now in
    rows_reported net machine nodes c.rows_of.result c.nodes.ensures (c.rows_of.ensures net (nets_are net machine nodes c.requires c.nodes.ensures))
