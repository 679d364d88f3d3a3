use Rattle.std.proofs.Common.{◌≡◌, ◌<◌, ◌∷◌, [], length, map, sym, arith}
use Rattle.std.proofs.lemmas.List.{map-append}
use Rattle.net_graph.specs.Views.{rows_of}
use Rattle.report_check.specs.Views.{pure_hops}
use Rattle.report_check.proofs.Hopping.{hops_all, hops_more, hops_same}
use Rattle.report_check.proofs.hops.best_hops.Goals as goal

pub loop-node-preserved : goal.loop-node-preserved
loop-node-preserved g c =
    let net = c.args.net.now in
    let rows = rows_of c.args.table.now in
    let within : c.loop-node.node < length rows = omega (arith, c.requires.table.count, c.loop-node-test.true, c.node_count-node-end.ensures.count) in
    let form = c.in_ok-form.form in
    let here = hops_same form.net.now net form.table.now c.args.table.now c.loop-node.node (pure_hops c.in_ok-hops_at.field-0) c.in_ok-form.ensures.net c.in_ok-form.ensures.table c.in_ok-hops_at.ensures in
    let more = hops_more net c.args.table.now.dest.0 rows rows c.loop-node.node within in
    rw (c.in_ok-push.ensures.items, map-append pure_hops c.loop-node.many.items (c.in_ok-hops_at.field-0 ∷ []), c.loop-node.invariant, here) (sym more)

pub returns : goal.returns
returns g c =
    let rows = rows_of c.args.table.now in
    let all : c.loop-node.node ≡ length rows = omega (arith, c.requires.table.count, c.loop-node-test.false, c.loop-node.auto.node-end, c.node_count-node-end.ensures.count) in
    rw c.from_vec.ensures (hops_all c.args.net.now c.args.table.now.dest.0 rows rows c.loop-node.node (map pure_hops c.loop-node.many.items) all c.loop-node.invariant)
