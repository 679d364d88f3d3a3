-- What holds of every flood. Lemmas, so that proofs of other crates may cite them.
use Rattle.std.proofs.Common.{◌≡◌, ◌↔◌, ℕ, ◌+◌, ◌<◌, ◌≤◌, Bool, true, false, Option, Some, None, List, [], ◌∷◌, length, refl, subst, sym, arith}
use Rattle.std.specs.Prelude.{IfSome}
use Rattle.std.specs.List.{AllByRecursion}
use Rattle.meta_base.specs.declared.ids.Delivery.{Delivery}
use Rattle.net_graph.specs.ArcLaws.{all_at}
use Rattle.net_graph.specs.Nets.{PureNet, IsNet}
use Rattle.net_graph.specs.Routes.{PureRoute}
use Rattle.net_graph.specs.RowTexts.{IsRouteIn, IsRowOf}
use Rattle.net_graph.specs.Tables.{PureRow, BestFirst, OnTablesFrom, joined_rows}
use Rattle.node_core.specs.Machine.{Drained}
use Rattle.node_core.specs.MachineLaws.{all_join}
use Rattle.flood_node.specs.Node.{FloodState, holds}
use Rattle.flood_node.specs.Reported.{AreReportedRows, IsReportedRow, Reported}
use Rattle.flood_node.specs.ReportedLaws.{reported_is_net}
use Rattle.flood_runs.specs.Floods.{IsFloodRun}

-- ---- the rows of nodes are the network's

module _ (net : PureNet) (is_net : IsNet net) (best_rows : (m : PureNet) (dest : ℕ) (t : List PureRow) → IsNet m → dest < length m.dests → BestFirst m dest t → AllByRecursion (IsRowOf m) t) where
  route_in : (known : ℕ → Bool) (o : Option PureRoute) → IfSome o (IsRouteIn (Reported net known)) → IfSome o (IsRouteIn net)
  route_in known None r = tt
  route_in known (Some o) r = record { value_in = r.value_in; path_in = r.path_in }

  reported_row : (dest : ℕ) → dest < length net.dests → (s : FloodState) (row : PureRow) → IsReportedRow net dest s row → IsRowOf net row
  reported_row dest l s row reported =
      let at = all_at (IsRowOf (Reported net (holds s))) reported.table s.number row (best_rows (Reported net (holds s)) dest reported.table (reported_is_net net (holds s) is_net) l reported.best_first) reported.is_row in
      record { node_in = at.node_in; dest_in = at.dest_in; route_in = route_in (holds s) row.route at.route_in }

  reported_rows : (dest : ℕ) → dest < length net.dests → (states : List FloodState) (rows : List PureRow) → AreReportedRows net states dest rows → AllByRecursion (IsRowOf net) rows
  reported_rows dest l [] [] reported = tt
  reported_rows dest l [] (row ∷ rows) reported = absurd reported
  reported_rows dest l (s ∷ states) [] reported = absurd reported
  reported_rows dest l (s ∷ states) (row ∷ rows) reported = (reported_row dest l s row reported.0, reported_rows dest l states rows reported.1)

  tables_in : (states : List FloodState) (dest : ℕ) (tables : List (List PureRow)) → OnTablesFrom (AreReportedRows net states) dest tables → dest + length tables ≤ length net.dests → AllByRecursion (IsRowOf net) (joined_rows tables)
  tables_in states dest [] are l = tt
  tables_in states dest (table ∷ tables) are l =
      all_join (IsRowOf net) table (joined_rows tables)
      (reported_rows dest (omega (arith, l)) states table are.0) (tables_in states (dest + 1) tables are.1 (omega (arith, l)))

  pub rows_are_the_networks : (turns : ℕ) (rows : List PureRow) (journal : List Delivery) (quiet : Bool) → IsFloodRun net turns rows journal quiet → AllByRecursion (IsRowOf net) rows
  rows_are_the_networks turns rows journal quiet is =
      let count = is.rows_are.count in
      subst (AllByRecursion (IsRowOf net)) (sym is.rows_are.joined) (tables_in is.states 0 is.rows_are.tables is.rows_are.hold (omega (arith, count)))

-- ---- a flood is spent exactly where it has fewer turns than there are deliveries in all

module _ (net : PureNet) (all : ℕ) where
  pub spent_exactly : (turns : ℕ) (rows : List PureRow) (journal : List Delivery) (quiet : Bool) → (is : IsFloodRun net turns rows journal quiet) → (Drained is.phase.end → length journal ≡ all) → (¬ Drained is.phase.end → length journal < all)
      → (quiet ≡ false) ↔ (turns < all)
  spent_exactly turns rows journal true is drained fewer =
      let made = drained (is.phase.phase.drained refl) in
      let few = is.phase.phase.few in
      (λ e. absurd (cc), λ l. absurd (omega (arith, made, few, l)))
  spent_exactly turns rows journal false is drained fewer =
      let spent = is.phase.phase.spent refl in
      let used = spent.1 in
      let made = fewer spent.0 in
      (λ e. omega (arith, used, made), λ l. refl)
