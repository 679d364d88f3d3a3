-- How many deliveries the phases of a run make, and the most that they can make.
use Rattle.std.specs.Prelude.{ℕ, ◌+◌, List, [], ◌∷◌, length, map}
use Rattle.std.specs.List.{AllByRecursion, filter_map, range_with_len}
use Rattle.std.specs.Option.{option_map_or}
use Rattle.meta_base.specs.declared.ids.Delivery.{Delivery}
use Rattle.alg_model.specs.Properties.{monotone}
use Rattle.net_graph.specs.Nets.{PureNet}
use Rattle.net_graph.specs.Tables.{NetHas}
use Rattle.node_core.specs.Machine.{Machine, Replay}
use Rattle.path_vector.specs.Node.{PvState, PureUpdate, carried, path_vector}
use Rattle.vector_rest.specs.Left.{left_at_start}
use Rattle.vector_runs.specs.Runs.{PurePhase, new_nodes}

-- all labels of the networks are monotone
abbrev pub AreMonotone : PureNet → List PureNet → Type 0
AreMonotone net nets = NetHas monotone net × AllByRecursion (NetHas monotone) nets

-- the deliveries of all phases
abbrev pub deliveries_made : List PurePhase → PurePhase → ℕ
deliveries_made [] last = length last.journal
deliveries_made (p ∷ past) last = length p.journal + deliveries_made past last

-- the network's nodes as the journal leaves them, in order, from these unbegun ones
abbrev pub nodes_after : PureNet → List PvState → List Delivery → List PvState
nodes_after net nodes journal =
    option_map_or (λ (c : Machine PvState PureUpdate). filter_map c.node (range_with_len 0 (length net.nodes))) (Replay path_vector net nodes journal) []

-- What is left at the start of each phase of a run, in all, from unbegun nodes on a network, and then on those that it
-- changes to: the nodes of each phase are carried to the next one. There are as many networks as phases, or more.
abbrev pub left_in : List PvState → PureNet → List PureNet → List PurePhase → ℕ
left_in nodes net nets [] = left_at_start net nodes
left_in nodes net [] (p ∷ past) = 0
left_in nodes net (m ∷ nets) (p ∷ past) = left_at_start net nodes + left_in (map (carried m) (nodes_after net nodes p.journal)) m nets past

-- the same from the new nodes of the first network, for a run with these phases before the last
abbrev pub deliveries_left : PureNet → List PureNet → List PurePhase → ℕ
deliveries_left net = left_in (new_nodes net) net
