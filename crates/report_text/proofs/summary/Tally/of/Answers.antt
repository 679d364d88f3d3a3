use Rattle.std.proofs.Common.{arith}
use Rattle.net_graph.specs.Views.{pure_row}
use Rattle.report_text.specs.SummaryTexts.{is_reached}
use Rattle.report_text.proofs.Summaries.{added, one_more, reached_at, sum_at, summed_at}
use Rattle.report_text.proofs.summary.Tally.of.Goals as goal

pub add-requires-clause-row : goal.add-requires-clause-row
add-requires-clause-row c = summed_at c.args.rows.now c.loop-row.row-index c.row-item.result c.loop-row-test.true c.row-item.is c.requires.values

pub loop-row-preserved : goal.loop-row-preserved
loop-row-preserved c =
    let dest = c.args.dest.0 in
    let rows = c.args.rows.now in
    let row = c.row-item.result in
    let reaches = reached_at dest rows c.loop-row.row-index row c.loop-row-test.true c.row-item.is in
    let sums = sum_at dest rows c.loop-row.row-index row c.loop-row-test.true c.row-item.is in (
      added _ _ _ _ _ c.add.ensures.reached (rw reaches at c.loop-row.invariant.0),
      added _ _ _ _ _ c.add.ensures.sum (rw sums at c.loop-row.invariant.1),
      one_more (is_reached dest (pure_row row)) _ _ _ c.add.ensures.reached c.loop-row.invariant.2,
      omega (arith, c.add.ensures.bounded, c.loop-row.invariant.3),
    )
