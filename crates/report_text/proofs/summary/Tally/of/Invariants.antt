use Rattle.std.proofs.Common.{◌≡◌, ◌≤◌, ◌+◌, ◌*◌, map, drop}
use Rattle.net_graph.specs.Views.{pure_row}
use Rattle.report_text.specs.SummaryTexts.{reached, value_sum}
use Rattle.report_text.specs.declared.summary.TheConstants.{MAX_SUMMED}
use Rattle.report_text.proofs.summary.Tally.of.Given as goal

-- with what is left it is that of all rows, and it is as small as the rows so far make it
abbrev pub invariant-loop-row : goal.invariant-loop-row
invariant-loop-row l =
    (l.tally.reached + reached l.fn.dest.0 (map pure_row (drop l.row-index l.fn.rows)) ≡ reached l.fn.dest.0 (map pure_row l.fn.rows))
    × (l.tally.sum + value_sum l.fn.dest.0 (map pure_row (drop l.row-index l.fn.rows)) ≡ value_sum l.fn.dest.0 (map pure_row l.fn.rows))
    × (l.tally.reached ≤ l.row-index) × (l.tally.sum ≤ l.row-index * MAX_SUMMED)
