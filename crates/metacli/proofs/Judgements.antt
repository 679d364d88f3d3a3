-- What is found of the tables of a report names nodes, destinations, arcs and values of the network alone, so it can be
-- printed.
use Rattle.std.proofs.Common.{◌≡◌, ℕ, ◌<◌, ◌≤◌, List, [], ◌∷◌, length, Option, Some, None, IfSome, ⊎_elim, refl, sym, subst, arith}
use Rattle.std.proofs.lemmas.Bool.{cases_order}
use Rattle.alg_model.specs.Carriers.{In, IsPreferred}
use Rattle.alg_model.specs.Expressions.{PureCarrier, PureLabel, PureValue}
use Rattle.alg_model.specs.Properties.{isotone}
use Rattle.net_graph.specs.ArcLaws.{IsArc, IsOrigin, along_in, arcs_are, of_some, origins_are}
use Rattle.net_graph.specs.Nets.{PureNet, IsNet, label_between, origin_value}
use Rattle.net_graph.specs.RouteLaws.{no_route_past, table_route_in}
use Rattle.net_graph.specs.Routes.{PureRoute}
use Rattle.net_graph.specs.RowTexts.{AreNodesOf, IsRouteIn}
use Rattle.net_graph.specs.Tables.{PureRow, Offers, OnTablesFrom, TableOf, carrier, route_at, value_at}
use Rattle.net_graph.specs.Walks.{along}
use Rattle.report_check.specs.Judged.{Judged, PureJudgement, PureOptimal, unbeaten, no_walk, beaten, unsettled, PureStable, stable, not_offered, better}
use Rattle.report_check.specs.Judged.{HasNoWalk, IsBeatenBy, JudgedOptimal, JudgedStable, table_at}
use Rattle.report_check.specs.ReportText.{ReportText}
use Rattle.stable_check.specs.Checks.{IsWalkOf}
use Rattle.report_text.specs.JudgedTexts.{CanPrintJudgement, CanPrintOptimal, CanPrintStable}
use Rattle.metacli.proofs.Missing.{can_miss}
use Rattle.metacli.proofs.ReportRows.{path_there, reported_nodes, table_there}

within : (i n : ℕ) → ¬ (n ≤ i) → i < n
within i n denied = ⊎_elim (λ same. absurd (denied (omega (arith, same)))) (λ apart. ⊎_elim (λ less. less) (λ more. absurd (denied (omega (arith, more)))) apart) (cases_order i n)

-- what is preferred to something is a value
preferred : (c : PureCarrier) (x y : Option PureValue) → IsPreferred c x y → (v : PureValue) × (x ≡ Some v)
preferred c None None h = absurd (cc)
preferred c None (Some w) h = absurd (cc)
preferred c (Some v) y h = (v, refl)

-- a node that an origin or an arc gives a value is one of the network's
origin_node : (net : PureNet) → IsNet net → (dest i : ℕ) (v : PureValue) → origin_value net dest i ≡ Some v → IsOrigin net dest i v
origin_node net n dest i v e = of_some (IsOrigin net dest i) (origin_value net dest i) v (origins_are net n dest i) e

arc_node : (net : PureNet) → IsNet net → (i j : ℕ) (x : Option PureValue) (v : PureValue) → along net i j x ≡ Some v → i < length net.nodes
arc_node net n i j x v e = by (label_between net i j) (arcs_are net n i j) refl
  where
    by : (o : Option PureLabel) → IfSome o (IsArc net i j) → label_between net i j ≡ o → i < length net.nodes
    by (Some l) is f = is.tail_in
    by None is f = let none : None ≡ Some v = rw f at e in absurd (cc)

-- the tables, each of its destination, with paths of nodes of the network
record AreSound (net : PureNet) (tables : List (List PureRow)) : Type 0 where
  is_net : IsNet net
  tables_of : (dest : ℕ) → dest < length net.dests → TableOf net dest (table_at tables dest)
  nodes : (dest k : ℕ) (r : PureRoute) → route_at (table_at tables dest) k ≡ Some r → AreNodesOf net r.path

routed_node : (net : PureNet) (dest : ℕ) (t : List PureRow) (i : ℕ) → TableOf net dest t → HasNoWalk net dest t i → i < length net.nodes
routed_node net dest t i of denied =
    within i (length net.nodes) (λ past. denied (subst (λ o. IfSome o (IsWalkOf net dest i)) (sym (no_route_past net dest t of i past)) tt))

-- Walks.

walk_printed : (net : PureNet) (tables : List (List PureRow)) (i dest : ℕ) (walk : List ℕ) → AreSound net tables → IsBeatenBy net dest (table_at tables dest) i walk
    → (i < length net.nodes) × AreNodesOf net walk
walk_printed net tables i dest walk s b = ⊎_elim
    (λ own.
    let v = preferred (carrier net) (origin_value net dest i) (value_at (table_at tables dest) i) own.1 in
    let i_in = (origin_node net s.is_net dest i v.0 v.1).node_in in
    (i_in, subst (AreNodesOf net) (sym own.0) (i_in, tt)))
    (λ arc.
    let j = arc.0 in
    let v = preferred (carrier net) (along net i j (value_at (table_at tables dest) j)) (value_at (table_at tables dest) i) arc.4 in
    let i_in = arc_node net s.is_net i j (value_at (table_at tables dest) j) v.0 v.1 in
    (i_in, subst (AreNodesOf net) (sym arc.3) (i_in, s.nodes dest j arc.1 arc.2)))
    b

optimal_printed : (net : PureNet) (tables : List (List PureRow)) (x : PureOptimal) → AreSound net tables → JudgedOptimal net tables x → CanPrintOptimal net x
optimal_printed net tables unbeaten s h = tt
optimal_printed net tables (no_walk i dest) s h =
    let dest_in = h.0.holds.0 in
    record { node_in = routed_node net dest (table_at tables dest) i (s.tables_of dest dest_in) h.1.holds; dest_in = dest_in }
optimal_printed net tables (beaten i dest walk) s h =
    let printed = walk_printed net tables i dest walk s h.3 in
    (record { node_in = printed.0; dest_in = h.0.holds.0 }, printed.1)
optimal_printed net tables (unsettled arc x) s h = can_miss (isotone ∷ []) net arc x h.1

-- Offers.

offer_printed : (net : PureNet) (tables : List (List PureRow)) (i dest : ℕ) (r : PureRoute) → AreSound net tables → dest < length net.dests
    → Offers net dest (route_at (table_at tables dest)) i r → IsRouteIn net r
offer_printed net tables i dest r s dest_in offers = ⊎_elim
    (λ own.
    let origin = origin_node net s.is_net dest i r.value own.0 in
    record { value_in = origin.value_in; path_in = subst (AreNodesOf net) (sym own.1) (origin.node_in, tt) })
    (λ by.
    let j = by.0 in
    let next = by.1.next in
    let next_in = (table_route_in net dest (table_at tables dest) (s.tables_of dest dest_in) j next by.1.is_reported).value_in in
    record {
      value_in = of_some (In (carrier net)) (along net i j (Some next.value)) r.value (along_in net s.is_net i j (Some next.value) next_in) by.1.weighs;
      path_in = subst (AreNodesOf net) (sym by.1.path) (arc_node net s.is_net i j (Some next.value) r.value by.1.weighs, s.nodes dest j next by.1.is_reported);
    })
    offers

stable_printed : (net : PureNet) (tables : List (List PureRow)) (x : PureStable) → AreSound net tables → JudgedStable net tables x → CanPrintStable net x
stable_printed net tables stable s h = tt
stable_printed net tables (not_offered i dest) s h = record { node_in = h.1.holds.0; dest_in = h.0.holds.0 }
stable_printed net tables (better i dest r) s h =
    (record { node_in = h.1.holds.0; dest_in = h.0.holds.0 }, offer_printed net tables i dest r s h.0.holds.0 h.3.offers)

pub judgement_printed : (net : PureNet) (text : List ℕ) (tables : List (List PureRow)) (x : PureJudgement) → IsNet net → ReportText net text tables → OnTablesFrom (TableOf net) 0 tables
    → length tables ≡ length net.dests → Judged net tables x → CanPrintJudgement net x
judgement_printed net text tables x n means of count judged =
    let s : AreSound net tables = record {
      is_net = n;
      tables_of = λ dest l. table_there (TableOf net) tables dest of (omega (arith, l, count));
      nodes = λ dest k r e. path_there net tables dest k r (reported_nodes net text tables means) e;
    } in
    record { optimal = optimal_printed net tables x.optimal s judged.optimal; stable = stable_printed net tables x.stable s judged.stable }
