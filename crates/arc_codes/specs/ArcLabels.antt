-- The labels on a network's arcs.
use Rattle.std.specs.Prelude.{List, map}
use Rattle.alg_model.specs.Expressions.{PureLabel}
use Rattle.net_graph.specs.Nets.{PureArc, PureNet}

-- by arc, in file order
abbrev pub labels_of : PureNet → List PureLabel
labels_of net = map (λ (a : PureArc). a.label) net.arcs
