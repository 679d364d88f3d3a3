-- The parts that a network is made of.
use Rattle.std.specs.Prelude.{◌≡◌, ℕ, List, map, length}
use Rattle.meta_base.specs.declared.ids.ArcId.{ArcId}
use Rattle.alg_model.specs.Expressions.{PureAlg}
use Rattle.net_graph.specs.Nets.{PureArc, PureOrigin, PureNet, IsNet, arcs_from, arcs_to, origins_of}
use Rattle.alg_model.specs.Expressions.{PureLabel}
use Rattle.net_graph.specs.Kept.{kept_arc, HaveLabels}
use Rattle.net_graph.specs.Views.{pure_origin}
use Rattle.net_graph.specs.Joins.{AreJoinedBy}
use Rattle.net_graph.specs.Groups.{group_at, items_at, StandAt}
use Rattle.net_graph.specs.declared.arcs.KeptArc.{KeptArc}
use Rattle.net_graph.specs.declared.parts.Origin.{Origin}
use Rattle.net_graph.specs.declared.groups.Spot.{Spot}

abbrev pub net_from : PureAlg → List (List ℕ) → List (List ℕ) → List PureArc → List Origin → PureNet
net_from a nodes dests arcs origins = record { alg = a; nodes = nodes; dests = dests; arcs = arcs; origins = map pure_origin origins }

-- the destination and the node of an origin
abbrev pub origin_pair : PureOrigin → ℕ × ℕ
origin_pair o = (o.dest, o.node)

-- a network, the sets by which its arcs are looked up, and the pairs by which its origins are
pub record IsKnown (net : PureNet) (by_arc : List (List ℕ)) (by_origin : List (ℕ × ℕ)) : Type 0 where
  pub is_net : IsNet net
  pub joins : AreJoinedBy by_arc net.arcs
  pub origin_pairs : by_origin ≡ map origin_pair net.origins

-- the arcs with labels of this list filed by their tails, the ids of arcs by the heads, and the origins by their
-- destinations
pub record IsFiled (net : PureNet) (labels : List PureLabel) (by_tail : List (List KeptArc)) (arc_at : List Spot) (by_head : List (List ArcId)) (by_dest : List (List Origin)) (origin_at : List Spot) : Type 0 where
  pub out_count : length by_tail ≡ length net.nodes
  pub out : (node : ℕ) → map (kept_arc labels) (group_at by_tail node) ≡ arcs_from net node
  pub labelled : (node : ℕ) → HaveLabels (length labels) (group_at by_tail node)
  pub arc_spots : StandAt by_tail arc_at (items_at by_tail arc_at)
  pub heard_count : length by_head ≡ length net.nodes
  pub heard : (node : ℕ) → map (λ id. id.0) (group_at by_head node) ≡ map (λ (a : PureArc). a.id) (arcs_to net node)
  pub home_count : length by_dest ≡ length net.dests
  pub homes : (dest : ℕ) → map pure_origin (group_at by_dest dest) ≡ origins_of net dest
  pub origin_spots : StandAt by_dest origin_at (items_at by_dest origin_at)
