use Rattle.std.proofs.Common.{arith, length, map}
use Rattle.net_graph.specs.Views.{pure_row}
use Rattle.report_text.proofs.Summaries.{gains_both, reaches_at}
use Rattle.report_text.proofs.summary.+push_reaches.Goals as goal

pub returns : goal.returns
returns t c =
    let lines = reaches_at c.args.net.now (map pure_row c.args.rows.now) c.args.from (length c.args.net.now.dests) (omega arith) in
    rw lines (gains_both c.push_reaches.result c.args.out.now c.push_reach.new.out c.push_reaches.new.out _ _ c.in_ok-push_reach.ensures c.push_reaches.ensures)
