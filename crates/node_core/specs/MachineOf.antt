-- A configuration, as a machine.
use Rattle.net_graph.specs.Nets.{PureNet}
use Rattle.node_core.specs.declared.config.Config.{Config}
use Rattle.node_core.specs.Machine.{Machine}
use Rattle.node_core.specs.Configs.{machine_over}

-- the network that the configuration runs on
abbrev pub net_of : {N M : Type 0} {g : _} → Config N M g → PureNet
net_of c = c.net.now

-- its machine, by what a node is and what a message says
abbrev pub machine_of : {N M : Type 0} {g : _} {S W : Type 0} → (N → S) → (M → W) → Config N M g → Machine S W
machine_of state note c = machine_over state note c.nodes.items c.clocks.items c.links.items
