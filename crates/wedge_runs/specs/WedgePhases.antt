-- The four phases of the wedge: its networks, and what path-vector nodes come to on each.
use Rattle.std.specs.Prelude.{◌≡◌, ℕ, List, [], ◌∷◌, Some, length, map}
use Rattle.meta_base.specs.declared.ids.Delivery.{Delivery}
use Rattle.alg_model.specs.Expressions.{PureAlg, PureLabel, PureValue}
use Rattle.net_graph.specs.Changes.{link, drop, changed}
use Rattle.net_graph.specs.Nets.{PureArc, PureNet, label_between}
use Rattle.net_graph.specs.Tables.{PureRow}
use Rattle.node_core.specs.Machine.{Machine, Drained, Replay}
use Rattle.path_vector.specs.Coherent.{AreNodesOf}
use Rattle.path_vector.specs.Node.{PvState, PureUpdate, carried, path_vector}
use Rattle.settled_laws.specs.Pair.{table_by_q, table_by_p}
use Rattle.settled_laws.specs.Wedge.{wedge_net}
use Rattle.vector_runs.specs.Runs.{PurePhase}

-- the networks after the first of the changes, after the second and after the third
abbrev pub wedge_two : PureAlg → PureLabel → PureValue → PureNet
wedge_two alg l v = changed (wedge_net alg l v) (link 1 0 l)

abbrev pub wedge_three : PureAlg → PureLabel → PureValue → PureNet
wedge_three alg l v = changed (wedge_two alg l v) (drop 0 1)

abbrev pub wedge_four : PureAlg → PureLabel → PureValue → PureNet
wedge_four alg l v = changed (wedge_three alg l v) (link 0 1 l)

abbrev pub wedge_later : PureAlg → PureLabel → PureValue → List PureNet
wedge_later alg l v = wedge_two alg l v ∷ wedge_three alg l v ∷ wedge_four alg l v ∷ []

-- the journal of one delivery, on that arc, at clock 1
abbrev pub one_on : ℕ → List Delivery
one_on a = record { clock = 1; arc = record { 0 = a } } ∷ []

-- a phase with these rows and that journal
abbrev pub one_delivery : List PureRow → ℕ → PurePhase
one_delivery rows a = record { rows = rows; journal = one_on a }

-- The first three phases: p takes q's route. Then q takes p's, which is by q, so q keeps its own. Then q takes p's
-- own one.
abbrev pub wedge_past : PureValue → PureValue → List PurePhase
wedge_past v w = one_delivery (table_by_q v w) 0 ∷ one_delivery (table_by_q v w) 1 ∷ one_delivery (table_by_p v w) 0 ∷ []

-- the last one: p takes q's route, which is by p, so p keeps its own
abbrev pub wedge_last : PureValue → PureValue → PurePhase
wedge_last v w = one_delivery (table_by_p v w) 1

-- the journals of the four phases
abbrev pub wedge_journals : List (List Delivery)
wedge_journals = one_on 0 ∷ one_on 1 ∷ one_on 0 ∷ one_on 1 ∷ []

-- the journal drains the machine of these nodes, and no other journal does
pub record DrainsAlone (net : PureNet) (nodes : List PvState) (journal : List Delivery) : Type 0 where
  pub end : Machine PvState PureUpdate
  pub replayed : Replay path_vector net nodes journal ≡ Some end
  pub drained : Drained end
  pub only : (other : List Delivery) (c : Machine PvState PureUpdate) → Replay path_vector net nodes other ≡ Some c → Drained c → other ≡ journal

-- on each network in turn its journal drains the machine, and no other does; the nodes of each but the first are
-- carried from the network before it
abbrev pub EachDrainsAlone : List PvState → PureNet → List PureNet → List (List Delivery) → Type 0
EachDrainsAlone nodes net nets [] = ⊥
EachDrainsAlone nodes net [] (journal ∷ journals) = DrainsAlone net nodes journal × (journals ≡ [])
EachDrainsAlone nodes net (m ∷ nets) (journal ∷ journals) =
    (d : DrainsAlone net nodes journal) × (states : List PvState) × AreNodesOf d.end 0 states × (length states ≡ length net.nodes)
    × EachDrainsAlone (map (carried m) states) m nets journals

-- an arc's tail and head
abbrev pub ends : PureArc → ℕ × ℕ
ends a = (a.tail, a.head)

-- the networks are the same but for the order of their arcs: they have as many, and an arc of one has its label in the
-- other
pub record HaveSameArcs (net other : PureNet) : Type 0 where
  pub elsewhere : other ≡ record net { arcs = other.arcs }
  pub count : length other.arcs ≡ length net.arcs
  pub labels : (tail head : ℕ) → label_between other tail head ≡ label_between net tail head
