-- The neighbours of nodes, and the labels of the arcs between them in an algebra's own form.
use Rattle.std.specs.Prelude.{◌≡◌, ℕ, List, Some, length, slice_get}
use Rattle.alg_model.specs.Expressions.{PureLabel}
use Rattle.net_graph.specs.Nets.{PureArc, PureNet, arcs_from, arcs_to}
use Rattle.arc_labels.specs.declared.neighbours.Neighbour.{Neighbour}

-- the two ends of an arc
abbrev pub tail_of : PureArc → ℕ
tail_of a = a.tail

abbrev pub head_of : PureArc → ℕ
head_of a = a.head

-- the arc's number, the node at that end of it, and what stands for its label
pub record IsNeighbour {L : Type 0} (stands_for : L → PureLabel → Type 0) (end_of : PureArc → ℕ) (a : PureArc) (neighbour : Neighbour L) : Type 0 where
  pub arc : neighbour.arc.0 ≡ a.id
  pub node : neighbour.node.0 ≡ end_of a
  pub label : stands_for neighbour.label.now a.label

-- there is one for each arc, in order
pub record AreNeighbours {L : Type 0} (stands_for : L → PureLabel → Type 0) (end_of : PureArc → ℕ) (arcs : List PureArc) (neighbours : List (Neighbour L)) : Type 0 where
  pub count : length neighbours ≡ length arcs
  pub each : (k : ℕ) (neighbour : Neighbour L) → slice_get neighbours k ≡ Some neighbour → (arc : PureArc) → slice_get arcs k ≡ Some arc → IsNeighbour stands_for end_of arc neighbour

-- each node has one for each of its arcs
pub record AreLabelsOf {L : Type 0} (stands_for : L → PureLabel → Type 0) (net : PureNet) (end_of : PureArc → ℕ) (arcs_of : ℕ → List PureArc) (labels : List (List (Neighbour L))) : Type 0 where
  pub count : length labels ≡ length net.nodes
  pub each : (node : ℕ) (neighbours : List (Neighbour L)) → slice_get labels node ≡ Some neighbours → AreNeighbours stands_for end_of (arcs_of node) neighbours

-- those that hear each node
abbrev pub AreListenerLabels : {L : Type 0} → (L → PureLabel → Type 0) → PureNet → List (List (Neighbour L)) → Type 0
AreListenerLabels stands_for net = AreLabelsOf stands_for net tail_of (arcs_to net)

-- those that each node may route by
abbrev pub AreSpeakerLabels : {L : Type 0} → (L → PureLabel → Type 0) → PureNet → List (List (Neighbour L)) → Type 0
AreSpeakerLabels stands_for net = AreLabelsOf stands_for net head_of (arcs_from net)
