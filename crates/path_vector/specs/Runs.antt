-- What holds of every run of path-vector nodes. Lemmas, so that proofs of other crates may cite them.
use Rattle.std.proofs.Common.{◌≡◌, ℕ, ◌<◌, List, length, map, Some}
use Rattle.meta_base.specs.declared.ids.Delivery.{Delivery}
use Rattle.net_graph.specs.Nets.{PureNet, IsNet}
use Rattle.net_graph.specs.Tables.{Stable}
use Rattle.node_core.specs.Machine.{Machine, Start, Replay, Drained}
use Rattle.path_vector.specs.Node.{PvState, PureUpdate, carried, dest_rows, path_vector}
use Rattle.path_vector.specs.Coherent.{IsCoherent, AreNodesOf, MayBegin, deliver_along}
use Rattle.path_vector.specs.Starting.{start_is_coherent}
use Rattle.path_vector.specs.Delivering.{deliveries_keep, deliveries_along_keep}
use Rattle.path_vector.specs.Quiet.{quiet_rows_are_stable}
use Rattle.path_vector.specs.Beginning.{carried_may_begin}

-- whatever deliveries are made from the start of nodes that may begin, the machine is coherent
pub runs_are_coherent : (net : PureNet) (nodes : List PvState) (journal : List Delivery) (c : Machine PvState PureUpdate) → IsNet net → MayBegin net nodes
    → Replay path_vector net nodes journal ≡ Some c → IsCoherent net c
runs_are_coherent net nodes journal c n m e = deliveries_keep net journal (Start path_vector nodes) c n (start_is_coherent net n nodes m) e

-- and once nothing is on its way, the rows of the nodes in order are stable
pub quiet_runs_are_stable : (net : PureNet) (nodes states : List PvState) (journal : List Delivery) (c : Machine PvState PureUpdate) (dest : ℕ) → IsNet net → MayBegin net nodes
    → Replay path_vector net nodes journal ≡ Some c → Drained c → AreNodesOf c 0 states → length states ≡ length net.nodes → dest < length net.dests → Stable net dest (dest_rows states dest)
quiet_runs_are_stable net nodes states journal c dest n m e drained are count within = quiet_rows_are_stable net c dest states n (runs_are_coherent net nodes journal c n m e) drained within are count

-- the same of deliveries by their arcs alone
pub deliveries_are_coherent : (net : PureNet) (nodes : List PvState) (arcs : List ℕ) (c : Machine PvState PureUpdate) → IsNet net → MayBegin net nodes
    → deliver_along net (Start path_vector nodes) arcs ≡ Some c → IsCoherent net c
deliveries_are_coherent net nodes arcs c n m e = deliveries_along_keep net arcs (Start path_vector nodes) c n (start_is_coherent net n nodes m) e

pub drained_machines_are_stable : (net : PureNet) (nodes states : List PvState) (arcs : List ℕ) (c : Machine PvState PureUpdate) (dest : ℕ) → IsNet net → MayBegin net nodes
    → deliver_along net (Start path_vector nodes) arcs ≡ Some c → Drained c → AreNodesOf c 0 states → length states ≡ length net.nodes → dest < length net.dests → Stable net dest (dest_rows states dest)
drained_machines_are_stable net nodes states arcs c dest n m e drained are count within = quiet_rows_are_stable net c dest states n (deliveries_are_coherent net nodes arcs c n m e) drained within are count

-- the nodes of a coherent machine in which nothing is on its way may begin on a network that differs in its arcs
-- alone
pub carried_nodes_may_begin : (old net : PureNet) (c : Machine PvState PureUpdate) (states : List PvState) → IsNet old → net ≡ record old { arcs = net.arcs } → IsCoherent old c → Drained c → AreNodesOf c 0 states
    → length states ≡ length old.nodes → MayBegin net (map (carried net) states)
carried_nodes_may_begin old net c states n same k drained are count = carried_may_begin old net n same c k drained states are count
