-- The nodes of a machine, and new nodes, have its network.
use Rattle.std.proofs.Common.{◌≡◌, ℕ, suc, ◌+◌, List, [], ◌∷◌, map, slice_get, Some, refl, ap, ◌∙◌}
use Rattle.std.specs.Prelude.{option_map}
use Rattle.std.specs.List.{AllByRecursion}
use Rattle.net_graph.specs.Nets.{PureNet}
use Rattle.node_core.specs.Machine.{AreUnbegun, Machine}
use Rattle.node_core.specs.Running.{IsRunning}
use Rattle.distance_node.specs.Node.{DvState, PureVector, distance}
use Rattle.distance_node.specs.Nodes.{PureNode, state_of}

all_at : {X : Type 0} (P : X → Type 0) (xs : List X) → ((i : ℕ) (x : X) → slice_get xs i ≡ Some x → P x) → AllByRecursion P xs
all_at P [] h = tt
all_at P (x ∷ xs) h = (h 0 x refl, all_at P xs (λ i y e. h (suc i) y e))

pub running_nets : (net : PureNet) (c : Machine DvState PureVector) (nodes : List PureNode) → IsRunning distance net c → ((i : ℕ) → c.node i ≡ option_map state_of (slice_get nodes i))
    → AllByRecursion (λ (n : PureNode). n.net ≡ net) nodes
running_nets net c nodes running at = all_at (λ (n : PureNode). n.net ≡ net) nodes (λ i n e. (running.each i (state_of n) (at i ∙ ap (option_map state_of) e)).net_is)

pub unbegun_nets : (net : PureNet) (i : ℕ) (nodes : List PureNode) → AreUnbegun distance net i (map state_of nodes) → AllByRecursion (λ (n : PureNode). n.net ≡ net) nodes
unbegun_nets net i [] are = tt
unbegun_nets net i (n ∷ nodes) are = (are.0, unbegun_nets net (i + 1) nodes are.3)
