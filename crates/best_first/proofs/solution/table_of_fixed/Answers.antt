use Rattle.std.proofs.Common.{◌≡◌, ◌+◌, ◌<◌, length, suc, take, arith, sym}
use Rattle.std.proofs.lemmas.List.{length-take-le}
use Rattle.best_first.specs.Found.{found_at}
use Rattle.best_first.specs.Fixed.{fixed_route}
use Rattle.best_first.proofs.Places.{found_next, table-push}
use Rattle.best_first.proofs.solution.table_of_fixed.Goals as goal

pub loop-node-preserved : goal.loop-node-preserved
loop-node-preserved g c =
    let value = g.A.Algebra.sig_value c.args.algebra.now in
    let rows = c.args.fixed.rows in
    let node = c.loop-node.node in
    let dest = c.args.dest.0 in
    let within : node < length rows = omega (arith, c.loop-node-test.true, c.node_count-node-end.ensures) in
    let count : node ≡ length (take node rows) = sym (length-take-le node rows (omega arith)) in
    let row = rw (c.paths.ensures, c.route.ensures) at c.in_ok-row.ensures in
    let next : node + 1 ≡ suc node = omega arith in
    record {
      rows = rw (c.in_ok-push.ensures.items, next, found_next rows node within)
          (table-push (fixed_route value c.args.fixed.paths) dest node c.loop-node.table.items c.in_ok-row.row (take node rows) (found_at rows node) count c.loop-node.invariant.rows row);
    }
