-- What a network is looked up by, copied.
use Rattle.std.specs.Prelude.{◌≡◌, List}
use Rattle.net_graph.specs.Nets.{PureArc}
use Rattle.net_graph.specs.Joins.{AreJoinedBy}
use Rattle.net_graph.specs.declared.parts.NetIndex.{NetIndex}

-- the same, with these arcs in place of those that there were
pub record IsCopyWith (old new : NetIndex) (arcs : List PureArc) : Type 0 where
  pub alg : new.alg ≡ old.alg
  pub nodes : new.nodes ≡ old.nodes
  pub dests : new.dests ≡ old.dests
  pub joins : AreJoinedBy new.joins arcs
  pub origin_pairs : new.origin_pairs ≡ old.origin_pairs
