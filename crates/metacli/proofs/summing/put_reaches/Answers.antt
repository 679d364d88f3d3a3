use Rattle.std.proofs.Common.{arith, length, map}
use Rattle.std.proofs.lemmas.Result.{err_from_is_err_and}
use Rattle.net_graph.specs.Views.{pure_row}
use Rattle.metacli.proofs.Written.{cut_within, lines_more, reaches_at}
use Rattle.metacli.proofs.summing.put_reaches.Goals as goal

pub returns-in_err-put_line : goal.returns-in_err-put_line
returns-in_err-put_line g c =
    let lines = reaches_at c.args.net.now (map pure_row c.args.rows.now) c.loop-dest.dest (length c.args.net.now.dests) (omega (arith, c.loop-dest-test.true, c.dest_count-dest-end.ensures.count)) in
    let p = err_from_is_err_and c.from_residual.result c.from_residual.ensures.1 in
    rw (p.1, p.2) (cut_within _ _ _ _ _ _ _ (rw lines at c.loop-dest.invariant) (c.in_err-put_line.ensures _ c.reach_line.ensures))

pub loop-dest-preserved : goal.loop-dest-preserved
loop-dest-preserved g c =
    let lines = reaches_at c.args.net.now (map pure_row c.args.rows.now) c.loop-dest.dest (length c.args.net.now.dests) (omega (arith, c.loop-dest-test.true, c.dest_count-dest-end.ensures.count)) in
    lines_more _ _ _ _ _ _ (rw lines at c.loop-dest.invariant) (c.in_ok-put_line.ensures _ c.reach_line.ensures)
