use Rattle.std.proofs.Common.{◌≡◌, Ok}
use Rattle.meta_base.specs.declared.ids.NodeId.{NodeId}
use Rattle.topology_file.specs.NetText.{node_in}
use Rattle.topology_file.proofs.KnownNames.{found_noted}
use Rattle.topology_file.proofs.known.KnownTexts.node_of.Goals as goal

pub returns : goal.returns
returns c net k = found_noted (λ text (node : NodeId). node_in net text ≡ Ok node.0) c.args.self.now.nodes.spots.items c.args.name.now c.get.result k.nodes c.get.ensures
