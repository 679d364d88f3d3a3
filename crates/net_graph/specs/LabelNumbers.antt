-- The numbers that labels have on a network's arcs.
use Rattle.std.specs.Prelude.{◌≡◌, ℕ, List, Some, length, map, slice_get}
use Rattle.alg_model.specs.Expressions.{PureLabel}
use Rattle.net_graph.specs.Groups.{StandAt, items_at}
use Rattle.net_graph.specs.Kept.{HaveLabels}
use Rattle.net_graph.specs.Nets.{PureArc, PureNet}
use Rattle.net_graph.specs.declared.arcs.KeptArc.{KeptArc}
use Rattle.net_graph.specs.declared.groups.Spot.{Spot}

-- the number of each arc's label is its place in one list
pub record AreLabelNumbers (net : PureNet) (numbers : List ℕ) : Type 0 where
  pub count : length numbers ≡ length net.arcs
  pub labels : List PureLabel
  pub places : map (slice_get labels) numbers ≡ map (λ (a : PureArc). Some a.label) net.arcs

-- the numbers of the labels of arcs that stand at spots
abbrev pub numbers_at : List (List KeptArc) → List Spot → List ℕ
numbers_at out spots = map (λ (a : KeptArc). a.label.0) (items_at out spots)

-- arcs stand at all spots, and their labels have numbers below the count
pub record AreCounted (count : ℕ) (out : List (List KeptArc)) (spots : List Spot) : Type 0 where
  pub stand : StandAt out spots (items_at out spots)
  pub labelled : HaveLabels count (items_at out spots)
