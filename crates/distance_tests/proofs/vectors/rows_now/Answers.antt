use Rattle.node_core.specs.MachineOf.{machine_of, net_of}
use Rattle.distance_node.specs.Nodes.{state_of}
use Rattle.distance_tests.proofs.Nets.{running_nets}
use Rattle.distance_tests.proofs.vectors.rows_now.Goals as goal

pub hop_rows-requires : goal.hop_rows-requires
hop_rows-requires g c =
    let config = c.args.config.now in
    (net_of config, running_nets (net_of config) (machine_of state_of (λ m. m) config) c.nodes.result.now c.requires c.nodes.ensures)
