-- What holds of every run of flooding nodes. Lemmas, so that proofs of other crates may cite them.
use Rattle.std.proofs.Common.{◌≡◌, ℕ, ◌+◌, ◌≤◌, List, length, true, Some, slice_get}
use Rattle.std.specs.List.{AllByRecursion}
use Rattle.meta_base.specs.declared.ids.Delivery.{Delivery}
use Rattle.net_graph.specs.Nets.{PureNet, IsNet}
use Rattle.net_graph.specs.Tables.{PureRow, BestFirst, AreRowsOfTables}
use Rattle.node_core.specs.Machine.{Machine, AreUnbegun, Start, Replay, Drained}
use Rattle.node_core.specs.MachineLaws.{start_runs}
use Rattle.rest_laws.specs.Ways.{left}
use Rattle.flood_node.specs.Cards.{PureFlooded}
use Rattle.flood_node.specs.Node.{FloodState, holds, flooding}
use Rattle.flood_node.specs.Reach.{Reach}
use Rattle.flood_node.specs.Knowing.{IsReachedCard}
use Rattle.flood_node.specs.Missing.{card_budgets}
use Rattle.flood_node.specs.Lawful.{flooding_is_lawful}
use Rattle.flood_node.specs.Reported.{AreFloodRows}
use Rattle.flood_node.specs.Truth.{replays_flood, drained_holds}
use Rattle.flood_node.specs.Totals.{held_reached}
use Rattle.flood_node.specs.Budgets.{floods_end}
use Rattle.flood_node.specs.QuietRows.{IsUnique, quiet_rows}

module _ (net : PureNet) (nodes : List FloodState) (journal : List Delivery) (c : Machine FloodState PureFlooded) (n : IsNet net) (u : AreUnbegun flooding net 0 nodes) (e : Replay flooding net nodes journal ≡ Some c) where
  pub cards_are_true : (i : ℕ) (s : FloodState) → c.node i ≡ Some s → AllByRecursion (IsReachedCard net i) s.cards
  cards_are_true i s there = (replays_flood net n nodes journal c u e).held i s there

  pub holds_reached : (i j : ℕ) (s : FloodState) → c.node i ≡ Some s → holds s j ≡ true → Reach net i j
  holds_reached i j s there h = (held_reached net i s.cards (cards_are_true i s there) j h).1

  pub reached_is_held : Drained c → (i j : ℕ) (s : FloodState) → c.node i ≡ Some s → Reach net i j → holds s j ≡ true
  reached_is_held drained i j s there r = drained_holds net n c (replays_flood net n nodes journal c u e) drained r.0 i j s there r.1

  pub runs_end : length journal + left net (card_budgets net c) ≤ left net (card_budgets net (Start flooding nodes))
  runs_end = floods_end net n (Start flooding nodes) (start_runs flooding flooding_is_lawful net n nodes u) journal c e

  pub quiet_rows_are : IsUnique → Drained c → (states : List FloodState) → ((k : ℕ) → c.node k ≡ slice_get states k) → length states ≡ length net.nodes → (rows routed : List PureRow) → AreFloodRows net states rows → AreRowsOfTables net (BestFirst net) routed → rows ≡ routed
  quiet_rows_are unique drained states are count = quiet_rows net n c (replays_flood net n nodes journal c u e) drained unique states are count
