use Rattle.topology_file.proofs.SpelledLabels.{noted}
use Rattle.topology_file.proofs.known.KnownTexts.note_arc.Goals as goal

pub returns : goal.returns
returns c net k s = record {
  arcs = rw c.in_ok-insert.ensures.entries (noted net c.args.self.now.arcs.entries c.args.text c.args.arc k.arcs s);
  labels = k.labels;
  nodes = k.nodes;
}
