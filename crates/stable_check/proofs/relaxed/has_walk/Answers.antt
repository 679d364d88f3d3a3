use Rattle.std.proofs.Common.{◌≡◌, true, option_map, sym, ◌∙◌, ap, arith}
use Rattle.std.proofs.lemmas.List.{length-map}
use Rattle.meta_base.specs.NodePaths.{numbers}
use Rattle.alg_model.specs.Views.{pure_value}
use Rattle.net_graph.specs.Tables.{route_at}
use Rattle.net_graph.specs.Views.{pure_route, rows_of}
use Rattle.net_graph.specs.RouteLaws.{table_route_in}
use Rattle.stable_check.specs.Checks.{begins_with, carried}
use Rattle.stable_check.specs.WalkWeights.{origin_small, weight_at_last, lent}
use Rattle.stable_check.specs.WalkRows.{not_nodes, walk_by_weight, some_node}
use Rattle.stable_check.proofs.relaxed.has_walk.Goals as goal

pub returns-then-not-are_nodes_of : goal.returns-then-not-are_nodes_of
returns-then-not-are_nodes_of c =
    let net = c.args.net.now in
    let dest = c.args.table.now.dest.0 in
    let rows = rows_of c.args.table.now in
    let route = pure_route c.in-Some.route.now in
    let decides = rw c.as_slice-path.ensures at c.are_nodes_of.ensures in
    not_nodes net c.requires.net dest c.args.node.0 (route_at rows c.args.node.0) route (sym c.in-Some.ensures) (λ h. let e = decides.1 h in let f = c.if-not-are_nodes_of.true in absurd (cc))

pub carry-requires-clause-few : goal.carry-requires-clause-few
carry-requires-clause-few c =
    let net = c.args.net.now in
    let dest = c.args.table.now.dest.0 in
    let rows = rows_of c.args.table.now in
    let route = pure_route c.in-Some.route.now in
    let is = table_route_in net dest rows c.requires.table c.args.node.0 route (sym c.in-Some.ensures) in
    rw c.as_slice-path.ensures (omega (arith, is.path, length-map c.in-Some.route.now.path (λ n. n.0)))

pub carry-requires-clause-value : goal.carry-requires-clause-value
carry-requires-clause-value c = rw (c.at.ensures c.args.net.now c.args.table.now.dest.0 c.requires.own) (origin_small c.args.net.now c.requires.net c.args.table.now.dest.0 _)

pub returns : goal.returns
returns c =
    let net = c.args.net.now in
    let dest = c.args.table.now.dest.0 in
    let rows = rows_of c.args.table.now in
    let route = pure_route c.in-Some.route.now in
    let path = c.in-Some.route.now.path in
    let begins : begins_with route.path c.args.node.0 ≡ true = sym (rw c.as_slice-path.ensures at c.begins_with.ensures) ∙ c.if-not-begins_with.false in
    let some = some_node route.path c.args.node.0 begins in
    let whole = weight_at_last net dest path (record { 0 = 0 }) (omega (arith, some, length-map path (λ n. n.0))) in
    let last = rw c.as_slice-path.ensures at (c.at.ensures net dest c.requires.own) in
    let weight = rw c.as_slice-path.ensures at c.in_ok-weight.ensures in
    let lends = lent pure_value c.as_ref.result c.in_ok-weight.weight c.as_ref.ensures.value in
    walk_by_weight net c.requires.net dest c.args.node.0 (route_at rows c.args.node.0) route c.weighs.result (option_map pure_value c.in_ok-weight.weight) (sym c.in-Some.ensures) begins
    (weight ∙ (ap (carried net (numbers path)) last ∙ whole)) (rw lends at c.weighs.ensures)
