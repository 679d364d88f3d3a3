-- What the parts of a draft stand for, and what holds of them.
use Rattle.std.specs.Prelude.{List}
use Rattle.net_graph.specs.Nets.{PureArc, PureNet}
use Rattle.net_graph.specs.Parts.{net_from, IsKnown}
use Rattle.net_graph.specs.declared.parts.NetIndex.{NetIndex}
use Rattle.net_graph.specs.declared.parts.Origin.{Origin}

-- the network that is known by these names, with these arcs and origins
abbrev pub net_with : NetIndex → List PureArc → List Origin → PureNet
net_with known arcs origins = net_from known.alg known.nodes known.dests arcs origins

-- its arcs and origins are those that are looked up
abbrev pub IsDraft : NetIndex → List PureArc → List Origin → Type 0
IsDraft known arcs origins = IsKnown (net_with known arcs origins) known.joins known.origin_pairs
