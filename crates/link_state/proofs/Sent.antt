-- A network is seen from several threads at once, so what refers to one may go to another thread.
use denote.Param.Send.{IsSync, sendable}
use denote.Ref.{NamedLft}
use denote.RattleType.{RattleType}
use Rattle.std.proofs.Crossing.{crosses}
use Rattle.alg_model.proofs.tree.Label.TheLaws.TheKnot as label
use Rattle.alg_model.proofs.tree.Tree.TheLaws.TheKnot as tree
use Rattle.alg_model.proofs.tree.Value.TheLaws.TheKnot as value
use Rattle.net_graph.specs.contracts.net.Net.{the_row}
use Rattle.arc_labels.specs.contracts.neighbours.NeighbourLabels as labels

pub net_sync : IsSync the_row
net_sync = search (crosses, label.crosses, tree.crosses, value.crosses, sendable) depth 60 fits 20000

-- and so are the labels of its arcs, where labels are
pub labels_sync : (f : NamedLft) (L : RattleType) → IsSync L → IsSync (labels.the_row f L)
labels_sync f L l = search (crosses, sendable) depth 60 fits 20000
