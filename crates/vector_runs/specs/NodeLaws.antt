-- The nodes of a machine that runs, and nodes that are carried. Lemmas, so that proofs of other crates may cite them.
use Rattle.std.proofs.Common.{◌≡◌, ℕ, ◌+◌, List, [], ◌∷◌, length, map, refl, ap, ◌∙◌, arith}
use Rattle.std.specs.Prelude.{slice_get}
use Rattle.net_graph.specs.Nets.{PureNet}
use Rattle.node_core.specs.Machine.{Machine, AreUnbegun}
use Rattle.node_core.specs.Running.{IsRunning}
use Rattle.node_runs.specs.RunLaws as laws
use Rattle.path_vector.specs.Coherent.{AreNodesOf}
use Rattle.path_vector.specs.Laws.{nodes_in_order}
use Rattle.path_vector.specs.Node.{PvState, PureUpdate, carried, path_vector}
use Rattle.vector_runs.specs.Runs.{AreBegun}

pub states_are : (c : Machine PvState PureUpdate) (states : List PvState) → ((i : ℕ) → c.node i ≡ slice_get states i) → AreNodesOf c 0 states
states_are c states at = nodes_in_order c 0 states (λ k s e.
    let place : 0 + k ≡ k = omega arith in
    ap c.node place ∙ at k ∙ e)

pub states_begun : (net : PureNet) (c : Machine PvState PureUpdate) (states : List PvState) → IsRunning path_vector net c → ((i : ℕ) → c.node i ≡ slice_get states i) → AreBegun net 0 states
states_begun = laws.states_begun path_vector

-- nodes that are carried aren't begun
pub carried_are_unbegun : (old net : PureNet) → net ≡ record old { arcs = net.arcs } → (i : ℕ) (states : List PvState) → AreBegun old i states → AreUnbegun path_vector net i (map (carried net) states)
carried_are_unbegun old net same i [] are = ap (λ (z : PureNet). length z.nodes) same ∙ are
carried_are_unbegun old net same i (s ∷ states) are = (refl, are.1, refl, carried_are_unbegun old net same (i + 1) states are.3)
