-- The most deliveries that a path-vector machine can still make.
use Rattle.std.specs.Prelude.{◌≡◌, ℕ, List, length, map}
use Rattle.net_graph.specs.Nets.{PureNet}
use Rattle.node_core.specs.Machine.{Machine, Drained, Start}
use Rattle.rest_laws.specs.Ways.{left}
use Rattle.rest_laws.specs.Budgets.{known_budgets}
use Rattle.path_vector.specs.Coherent.{IsCoherent, AreNodesOf}
use Rattle.path_vector.specs.Node.{PvState, PureUpdate, carried, path_vector}
use Rattle.vector_rest.specs.Levels.{learn, known_on, budget_from}

-- The most deliveries that the updates that wait in machine c can lead to, by their budgets. The run came from the
-- start: levels are by the values that can occur from there on.
abbrev pub left_from : PureNet → Machine PvState PureUpdate → Machine PvState PureUpdate → ℕ
left_from net start c = left net (known_budgets path_vector net (budget_from net start) learn (known_on net) c)

-- the same where these nodes have begun and nothing was delivered
abbrev pub left_at_start : PureNet → List PvState → ℕ
left_at_start net nodes = left_from net (Start path_vector nodes) (Start path_vector nodes)

-- The nodes are those of a coherent machine in which nothing is on its way, carried to a network that differs from
-- theirs in its arcs alone.
pub record AreCarried (old net : PureNet) (before : Machine PvState PureUpdate) (nodes : List PvState) : Type 0 where
  pub arcs_alone : net ≡ record old { arcs = net.arcs }
  pub coherent : IsCoherent old before
  pub drained : Drained before
  pub states : List PvState
  pub states_are : AreNodesOf before 0 states
  pub count : length states ≡ length old.nodes
  pub nodes_are : nodes ≡ map (carried net) states
