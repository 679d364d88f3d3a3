use Rattle.std.proofs.Common.{◌≡◌, Ok}
use Rattle.meta_base.specs.declared.ids.NodeId.{NodeId}
use Rattle.topology_file.specs.NetText.{node_in}
use Rattle.topology_file.proofs.KnownNames.{noted_more}
use Rattle.topology_file.proofs.known.KnownTexts.note_node.Goals as goal

pub returns : goal.returns
returns c net k e = record {
  arcs = k.arcs;
  labels = k.labels;
  nodes = noted_more (λ text (node : NodeId). node_in net text ≡ Ok node.0) c.args.self.now.nodes.spots.items c.note.new.self.spots.items c.args.name c.args.node k.nodes e c.note.ensures;
}
