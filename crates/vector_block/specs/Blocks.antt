-- All path-vector nodes of a network with what is on its way between them, as contracts see them.
use Rattle.std.specs.Prelude.{◌≡◌, ℕ, ◌<◌, true, List, [], ◌∷◌, ◌++◌, length, drop, get_or, Option, None, option_map, option_and_then, slice_get}
use Rattle.std.specs.List.{AllByRecursion, filter_map, range_with_len}
use Rattle.std.specs.Coded.{Coded, code_by, coded×, coded_list, coded_option, coded_ℕ}
use Rattle.std.proofs.Common.{refl}
use Rattle.journal_merge.specs.Merging.{entries_of}
use Rattle.meta_base.specs.declared.ids.Delivery.{Delivery}
use Rattle.alg_model.specs.Expressions.{Expression, PureLabel, PureValue}
use Rattle.arc_labels.specs.declared.neighbours.Neighbour.{Neighbour}
use Rattle.arc_labels.specs.Neighbours.{AreListenerLabels, AreSpeakerLabels}
use Rattle.net_graph.specs.Codes.{coded_net}
use Rattle.net_graph.specs.Nets.{PureNet, IsNet, arcs_to}
use Rattle.net_graph.specs.Routes.{PureRoute}
use Rattle.node_core.specs.Kinds.{on_arc}
use Rattle.node_core.specs.Machine.{Machine}
use Rattle.path_vector.specs.Coherent.{IsCoherent}
use Rattle.path_vector.specs.Known.{entry_of}
use Rattle.path_vector.specs.Node.{PureUpdate, PvState, choice, reported_on}
use Rattle.path_vector.specs.Nodes.{coded_route, coded_rows}
use Rattle.vector_block.specs.declared.store.Store.{Store}
use Rattle.vector_block.specs.Hearings.{heard_at}
use Rattle.vector_block.specs.Stores.{PureStore, IsStored, pure_store}

-- All reports in order, each with its speaker; by destination, then arc, what was heard last; by destination, then node, the
-- rows; by node its last clock; and the deliveries in the order in which they were made, each with the node that took it. The
-- report at the place `front` is being heard: so many of its speaker's listeners have passed.
pub record PureBlock : Type 0 where
  pub net : PureNet
  pub reports : List (ℕ × PureUpdate)
  pub heard : List (List (Option PureRoute))
  pub rows : List (List (Option PureRoute))
  pub clocks : List ℕ
  pub log : List (ℕ × Delivery)
  pub front : ℕ
  pub passed : ℕ

-- what stands at a place of a destination
abbrev pub at_place : List (List (Option PureRoute)) → ℕ → ℕ → Option PureRoute
at_place columns k dest = option_and_then (λ c. entry_of c k) (slice_get columns dest)

abbrev pub store_of : PureBlock → PureStore
store_of b = record { reports = b.reports; heard = at_place b.heard; rows = at_place b.rows }

-- ---- the machine

-- what a node is, by what it heard and has for rows
abbrev pub state_in : PureNet → PureStore → ℕ → ℕ → PvState
state_in net s i clock = record {
  net = net;
  before = None;
  number = i;
  is_begun = true;
  heard = heard_at net s i;
  rows = s.rows i;
  last = clock;
}

-- each report for all who listen to its speaker
abbrev pub for_all : PureNet → List (ℕ × PureUpdate) → List (ℕ × PureUpdate)
for_all net [] = []
for_all net (p ∷ ps) = reported_on (arcs_to net p.0) p.1 ++ for_all net ps

-- the same, but so many listeners of the first have passed
abbrev pub waiting : PureNet → ℕ → List (ℕ × PureUpdate) → List (ℕ × PureUpdate)
waiting net passed [] = []
waiting net passed (p ∷ ps) = reported_on (drop passed (arcs_to net p.0)) p.1 ++ for_all net ps

abbrev pub block_machine : PureNet → PureStore → List ℕ → ℕ → ℕ → Machine PvState PureUpdate
block_machine net s clocks front passed = record {
  node = λ i. option_map (state_in net s i) (slice_get clocks i);
  clock = λ i. get_or clocks i 0;
  link = λ a. on_arc a (waiting net passed (drop front s.reports));
}

abbrev pub machine_of : PureBlock → Machine PvState PureUpdate
machine_of b = block_machine b.net (store_of b) b.clocks b.front b.passed

-- the nodes, in the order of the network
abbrev pub states_of : PureBlock → List PvState
states_of b = filter_map (λ i. (machine_of b).node i) (range_with_len 0 (length b.net.nodes))

-- the deliveries that a node took
abbrev pub log_of : PureBlock → ℕ → List Delivery
log_of b i = entries_of i b.log

-- ---- what the block keeps

module _ {L S : Type 0} (stands_for : L → PureLabel → Type 0) (is_sig : S → Type 0) (value : S → PureValue) (expression : Expression) (net : PureNet) where
  -- the block of a network that keeps its rules, over the network's algebra
  pub record IsBlock (listeners speakers : List (List (Neighbour L))) (s : Store S) (clocks : List ℕ) (log : List (ℕ × Delivery)) (front passed : ℕ) : Type 0 where
    pub algebra : expression ≡ net.alg.expression
    pub is_net : IsNet net
    pub listeners_are : AreListenerLabels stands_for net listeners
    pub speakers_are : AreSpeakerLabels stands_for net speakers
    pub stored : IsStored is_sig net s
    pub clock_count : length clocks ≡ length net.nodes
    pub logged : AllByRecursion (λ (t : ℕ × Delivery). t.0 < length net.nodes) log
    pub chosen : (i dest : ℕ) → i < length net.nodes → (pure_store value s).rows i dest ≡ choice net dest i (heard_at net (pure_store value s) i)
    pub coherent : IsCoherent net (block_machine net (pure_store value s) clocks front passed)

-- ---- codes

abbrev pub coded_update : Coded PureUpdate
coded_update =
    code_by (ℕ × (Option PureRoute × ℕ)) (coded× coded_ℕ (coded× (coded_option coded_route) coded_ℕ))
    (λ u. (u.dest, (u.route, u.stamp))) (λ p. record { dest = p.0; route = p.1.0; stamp = p.1.1 }) (λ _. refl)

abbrev pub coded_delivery : Coded Delivery
coded_delivery =
    code_by (ℕ × ℕ) (coded× coded_ℕ coded_ℕ)
    (λ d. (d.clock, d.arc.0)) (λ p. record { clock = p.0; arc = record { 0 = p.1 } }) (λ _. refl)

abbrev pub coded_block : Coded PureBlock
coded_block =
    code_by (PureNet × (List (ℕ × PureUpdate) × (List (List (Option PureRoute)) × (List (List (Option PureRoute)) × (List ℕ × (List (ℕ × Delivery) × (ℕ × ℕ)))))))
    (coded× coded_net (coded× (coded_list (coded× coded_ℕ coded_update)) (coded× (coded_list coded_rows) (coded× (coded_list coded_rows) (coded× (coded_list coded_ℕ) (coded× (coded_list (coded× coded_ℕ coded_delivery)) (coded× coded_ℕ coded_ℕ)))))))
    (λ b. (b.net, (b.reports, (b.heard, (b.rows, (b.clocks, (b.log, (b.front, b.passed))))))))
    (λ p. record { net = p.0; reports = p.1.0; heard = p.1.1.0; rows = p.1.1.1.0; clocks = p.1.1.1.1.0; log = p.1.1.1.1.1.0; front = p.1.1.1.1.1.1.0; passed = p.1.1.1.1.1.1.1 }) (λ _. refl)
