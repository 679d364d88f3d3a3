-- What a network's parts stand for, and what holds of them.
use Rattle.std.specs.Prelude.{List, map}
use Rattle.alg_model.specs.Views.{pure_label}
use Rattle.alg_model.specs.declared.tree.Label.{Label}
use Rattle.net_graph.specs.Nets.{PureNet}
use Rattle.net_graph.specs.Groups.{items_at}
use Rattle.net_graph.specs.Kept.{arcs_of}
use Rattle.net_graph.specs.Parts.{IsKnown, IsFiled}
use Rattle.net_graph.specs.Drafts.{net_with}
use Rattle.net_graph.specs.declared.filed.FiledLines.{FiledLines}
use Rattle.net_graph.specs.declared.net.Net.TheInside.{Inside}
use Rattle.net_graph.specs.declared.parts.NetIndex.{NetIndex}

-- the network that is known by these names, sets and pairs, with these labels, and whose lines are filed so
abbrev pub net_in : NetIndex → List Label → FiledLines → PureNet
net_in known labels lines = net_with known (arcs_of labels (items_at lines.out.groups lines.out.spots.items)) (items_at lines.homes.groups lines.homes.spots.items)

abbrev pub net_of : Inside → PureNet
net_of n = net_with n.known (arcs_of n.labels.items (items_at n.out n.arc_spots.items)) (items_at n.homes n.origin_spots.items)

pub record IsWhole (n : Inside) : Type 0 where
  pub known : IsKnown (net_of n) n.known.joins n.known.origin_pairs
  pub filed : IsFiled (net_of n) (map pure_label n.labels.items) n.out n.arc_spots.items n.heard n.homes n.origin_spots.items
