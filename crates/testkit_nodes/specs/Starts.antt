-- New nodes, and the nodes of a machine that runs.
use Rattle.std.proofs.Common.{◌≡◌, ℕ, zero, suc, ◌+◌, List, [], ◌∷◌, length, map, slice_get, Some, refl, ap, ◌∙◌, arith}
use Rattle.std.specs.Prelude.{option_map}
use Rattle.std.specs.List.{AllByRecursion, range_with_len}
use Rattle.net_graph.specs.Nets.{PureNet}
use Rattle.node_core.specs.Machine.{Machine, AreUnbegun}
use Rattle.node_core.specs.Running.{IsRunning}
use Rattle.path_vector.specs.Node.{PvState, PureUpdate, new_node, path_vector}
use Rattle.path_vector.specs.Nodes.{PureNode, state_of}

unbegun_from : (net : PureNet) (i n : ℕ) → length net.nodes ≡ i + n → AreUnbegun path_vector net i (map (new_node net) (range_with_len i n))
unbegun_from net i zero e = omega arith
unbegun_from net i (suc n) e =
    let more : length net.nodes ≡ i + 1 + n = omega arith in
    (refl, refl, refl, unbegun_from net (i + 1) n more)

pub new_are_unbegun : (net : PureNet) → AreUnbegun path_vector net 0 (map (new_node net) (range_with_len 0 (length net.nodes)))
new_are_unbegun net = unbegun_from net 0 (length net.nodes) (omega arith)

-- what holds at each place holds of all
all_at : {X : Type 0} (P : X → Type 0) (xs : List X) → ((i : ℕ) (x : X) → slice_get xs i ≡ Some x → P x) → AllByRecursion P xs
all_at P [] h = tt
all_at P (x ∷ xs) h = (h 0 x refl, all_at P xs (λ i y e. h (suc i) y e))

pub nets_are : (net : PureNet) (c : Machine PvState PureUpdate) (nodes : List PureNode) → IsRunning path_vector net c → ((i : ℕ) → c.node i ≡ option_map state_of (slice_get nodes i))
    → AllByRecursion (λ (n : PureNode). n.net ≡ net) nodes
nets_are net c nodes running at = all_at (λ (n : PureNode). n.net ≡ net) nodes (λ i n e. (running.each i (state_of n) (at i ∙ ap (option_map state_of) e)).net_is)
