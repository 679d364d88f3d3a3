use Rattle.std.proofs.Common.{◌≡◌, ◌∷◌, ℕ, List, Some, option_map, ap}
use Rattle.meta_base.specs.NodePaths.{numbers}
use Rattle.alg_model.specs.Views.{pure_value}
use Rattle.net_graph.specs.Routes.{PureRoute}
use Rattle.net_graph.specs.Views.{pure_route, rows_of}
use Rattle.stable_check.specs.Offering.{rows_in}
use Rattle.report_check.proofs.RowSearch.{offer_is, weighed_better}
use Rattle.report_check.proofs.arcs.offer_of_arc.Goals as goal

pub weighed-requires-clause-row : goal.weighed-requires-clause-row
weighed-requires-clause-row c = rw c.route_at.ensures (rows_in c.args.net.now c.args.table.now.dest.0 (rows_of c.args.table.now) c.requires.table c.args.arc.now.tail.0)

pub returns-clause-made : goal.returns-clause-made
returns-clause-made c = λ wanted.
    let net = c.args.net.now in
    let rows = rows_of c.args.table.now in
    let i = c.args.arc.now.tail.0 in
    let j = c.args.arc.now.head.0 in
    let next = pure_route c.args.next.now in
    let path : numbers c.in_ok-path.path ≡ i ∷ next.path = ap numbers (rw c.as_slice.ensures at c.in_ok-path.ensures) in
    let offer = offer_is net rows i j next (pure_value c.args.value) c.requires.next c.requires.value (c.may_matter.ensures.loopless c.if-not-may_matter.false) in
    rw offer (rw (path, c.route_at.ensures) at c.weighed.ensures.made)

pub returns-clause-better : goal.returns-clause-better
returns-clause-better c = λ wanted.
    let net = c.args.net.now in
    let dest = c.args.table.now.dest.0 in
    let rows = rows_of c.args.table.now in
    let i = c.args.arc.now.tail.0 in
    let j = c.args.arc.now.head.0 in
    let next = pure_route c.args.next.now in
    let path : numbers c.in_ok-path.path ≡ i ∷ next.path = ap numbers (rw c.as_slice.ensures at c.in_ok-path.ensures) in
    let offer = offer_is net rows i j next (pure_value c.args.value) c.requires.next c.requires.value (c.may_matter.ensures.loopless c.if-not-may_matter.false) in
    let made : PureRoute = record { value = pure_value c.args.value; path = i ∷ next.path } in
    weighed_better net dest i j rows made c.weighed.result.better (Some (record { value = pure_value c.args.value; path = numbers c.in_ok-path.path })) (option_map (λ r. pure_route r.now) c.route_at.result)
    (ap (λ (p : List ℕ). Some (record { value = pure_value c.args.value; path = p })) path) c.route_at.ensures offer c.weighed.ensures.better
