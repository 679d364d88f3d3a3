use Rattle.std.proofs.Common.{sym, lit≤}
use Rattle.alg_model.specs.Views.{pure_label}
use Rattle.alg_model.specs.declared.alg.TheConstants.{MAX_VALUE_NUMBER}
use Rattle.alg_model.specs.Laws.{at_most_more}
use Rattle.net_graph.specs.declared.route.TheConstants.{MAX_ROW_NUMBER}
use Rattle.net_graph.specs.Nets.{label_between}
use Rattle.net_graph.specs.Views.{pure_route, rows_of}
use Rattle.net_graph.specs.ArcLaws.{of_some, IsArc, arcs_are}
use Rattle.net_graph.specs.RouteLaws.{table_route_in}
use Rattle.stable_check.proofs.offers.arc_value.Goals as goal

pub apply-requires-clause-label : goal.apply-requires-clause-label
apply-requires-clause-label c =
    let a = c.args.arc.now in
    let is = of_some (IsArc c.args.net.now a.tail.0 a.head.0) (label_between c.args.net.now a.tail.0 a.head.0) (pure_label a.label.now) (arcs_are c.args.net.now c.requires.net a.tail.0 a.head.0) c.requires.arc in
    rw c.alg.ensures.alg is.label_in

pub apply-requires-clause-small_label : goal.apply-requires-clause-small_label
apply-requires-clause-small_label c =
    let a = c.args.arc.now in
    (of_some (IsArc c.args.net.now a.tail.0 a.head.0) (label_between c.args.net.now a.tail.0 a.head.0) (pure_label a.label.now) (arcs_are c.args.net.now c.requires.net a.tail.0 a.head.0) c.requires.arc).small

pub apply-requires-clause-value : goal.apply-requires-clause-value
apply-requires-clause-value c =
    let r = table_route_in c.args.net.now c.args.table.now.dest.0 (rows_of c.args.table.now) c.requires.table c.args.arc.now.head.0 (pure_route c.in-Some.next.now) (sym c.in-Some.ensures) in
    rw c.alg.ensures.alg r.value_in

pub apply-requires-clause-small_value : goal.apply-requires-clause-small_value
apply-requires-clause-small_value c =
    let r = table_route_in c.args.net.now c.args.table.now.dest.0 (rows_of c.args.table.now) c.requires.table c.args.arc.now.head.0 (pure_route c.in-Some.next.now) (sym c.in-Some.ensures) in
    at_most_more MAX_ROW_NUMBER MAX_VALUE_NUMBER (pure_route c.in-Some.next.now).value (lit≤ tt) r.bound
