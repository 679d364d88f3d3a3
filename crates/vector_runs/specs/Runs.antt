-- Runs of path-vector nodes through the networks of a file, phase by phase: what a run comes to.
use Rattle.std.specs.Prelude.{◌≡◌, ℕ, ◌+◌, ◌-◌, ◌*◌, ◌<◌, Bool, true, IfSome, List, [], ◌∷◌, length, map}
use Rattle.std.specs.List.{AllByRecursion, range_with_len}
use Rattle.meta_base.specs.declared.ids.Delivery.{Delivery}
use Rattle.alg_model.specs.Bounds.{AtMost, greatest_number}
use Rattle.net_graph.specs.Nets.{PureNet}
use Rattle.net_graph.specs.Routes.{PureRoute}
use Rattle.net_graph.specs.RowTexts.{IsRowOf}
use Rattle.net_graph.specs.Tables.{PureRow, AreSettledRows}
use Rattle.net_graph.specs.Views.{pure_row}
use Rattle.node_core.specs.Machine.{Machine}
use Rattle.node_runs.specs.Runs as runs
use Rattle.path_vector.specs.Coherent.{AreNodesOf}
use Rattle.path_vector.specs.Node.{PvState, PureUpdate, carried, new_node, node_rows, path_vector}
use Rattle.weave.specs.Phases.{IsPhase}
use Rattle.vector_runs.specs.declared.run.Phase.{Phase}

-- the rows of a phase, by destination, then node, and its deliveries
pub record PurePhase : Type 0 where
  pub rows : List PureRow
  pub journal : List Delivery

abbrev pub pure_phase : Phase → PurePhase
pure_phase p = record { rows = map pure_row p.rows; journal = p.journal }

-- From these unbegun nodes the phase's journal leads on the network to nodes in these states, whose rows are the
-- phase's; there were no more deliveries than turns. It is quiet exactly where nothing was on its way then.
pub record IsPhaseOf (net : PureNet) (nodes : List PvState) (turns : ℕ) (p : PurePhase) (quiet : Bool) (states : List PvState) : Type 0 where
  pub end : Machine PvState PureUpdate
  pub phase : IsPhase path_vector net nodes turns p.journal end quiet
  pub states_are : AreNodesOf end 0 states
  pub count : length states ≡ length net.nodes
  pub rows_are : p.rows ≡ node_rows net states

-- The phases of a run from unbegun nodes on a network, and then on those that it changes to: each phase but the last
-- is quiet, and its nodes are carried to the next network; the last is quiet only on the last network. All phases
-- share the turns.
abbrev pub RunsFrom : List PvState → PureNet → List PureNet → ℕ → List PurePhase → PurePhase → Bool → Type 0
RunsFrom nodes net nets turns [] last quiet = (states : List PvState) × IsPhaseOf net nodes turns last quiet states × (quiet ≡ true → nets ≡ [])
RunsFrom nodes net [] turns (p ∷ past) last quiet = ⊥
RunsFrom nodes net (m ∷ nets) turns (p ∷ past) last quiet =
    (states : List PvState) × IsPhaseOf net nodes turns p true states × RunsFrom (map (carried m) states) m nets (turns - length p.journal) past last quiet

-- the new nodes of a network
abbrev pub new_nodes : PureNet → List PvState
new_nodes net = map (new_node net) (range_with_len 0 (length net.nodes))

-- a run from the new nodes of the first network
abbrev pub IsRun : PureNet → List PureNet → ℕ → List PurePhase → PurePhase → Bool → Type 0
IsRun net = RunsFrom (new_nodes net) net

-- each network differs from the one before it in its arcs alone
abbrev pub AreLater : PureNet → List PureNet → Type 0
AreLater net [] = Unit {0}
AreLater net (m ∷ nets) = (m ≡ record net { arcs = m.arcs }) × AreLater m nets

-- one node for each of the network from i on, in order, each of which is begun
abbrev pub AreBegun : PureNet → ℕ → List PvState → Type 0
AreBegun = runs.AreBegun path_vector

-- the rows of the phases that are quiet are stable tables of their networks, and no others are where all labels are
-- monotone
abbrev pub AreStable : PureNet → List PureNet → List PurePhase → PurePhase → Bool → Type 0
AreStable net nets [] last quiet = quiet ≡ true → AreSettledRows net last.rows
AreStable net [] (p ∷ past) last quiet = ⊥
AreStable net (m ∷ nets) (p ∷ past) last quiet = AreSettledRows net p.rows × AreStable m nets past last quiet

-- no number of a row's value is above what the labels along a path through all nodes may make of an origin's
abbrev pub IsSmallIn : PureNet → PureRow → Type 0
IsSmallIn net row = IfSome row.route (λ (r : PureRoute). AtMost (length net.nodes * (greatest_number net.alg.edition + 1)) r.value)

-- the rows of a phase are rows of its network with small values, one for each destination and node, and its
-- deliveries are on arcs of that
pub record IsOfNetwork (net : PureNet) (p : PurePhase) : Type 0 where
  pub rows_in : AllByRecursion (IsRowOf net) p.rows
  pub small : AllByRecursion (IsSmallIn net) p.rows
  pub count : length p.rows ≡ length net.dests * length net.nodes
  pub arcs_in : AllByRecursion (λ (e : Delivery). e.arc.0 < length net.arcs) p.journal

-- the same of all phases
abbrev pub AreOfNetworks : PureNet → List PureNet → List PurePhase → PurePhase → Type 0
AreOfNetworks net nets [] last = IsOfNetwork net last
AreOfNetworks net [] (p ∷ past) last = ⊥
AreOfNetworks net (m ∷ nets) (p ∷ past) last = IsOfNetwork net p × AreOfNetworks m nets past last
