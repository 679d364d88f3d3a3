use Rattle.std.proofs.Common.{◌≡◌, Ok}
use Rattle.meta_base.specs.declared.ids.ArcId.{ArcId}
use Rattle.meta_base.specs.declared.ids.NodeId.{NodeId}
use Rattle.topology_file.specs.KnownTexts.{IsSpelledBy}
use Rattle.topology_file.specs.NetText.{node_in}
use Rattle.topology_file.proofs.KnownNames.{blank_noted}
use Rattle.topology_file.proofs.known.KnownTexts.make_spots.Goals as goal

pub returns : goal.returns
returns c net k = record {
  arcs = k.arcs;
  labels = blank_noted (λ text (arc : ArcId). IsSpelledBy net text arc.0) c.new.result.spots.items c.new.ensures;
  nodes = blank_noted (λ text (node : NodeId). node_in net text ≡ Ok node.0) c.new-2.result.spots.items c.new-2.ensures;
}
