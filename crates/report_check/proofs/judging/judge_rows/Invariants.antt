use Rattle.std.proofs.Common.{◌≡◌, true}
use Rattle.net_graph.specs.Views.{rows_of}
use Rattle.report_check.specs.Findings.{OptimalUpTo, StableUpTo}
use Rattle.report_check.specs.Views.{pure_optimal, pure_stable}
use Rattle.report_check.proofs.judging.judge_rows.Given as goal

-- what the rows so far show
abbrev pub invariant-loop-node : goal.invariant-loop-node
invariant-loop-node l = record {
  optimal : l.wanted.optimal ≡ true → OptimalUpTo l.net l.table.dest.0 (rows_of l.table) l.node l.node (pure_optimal l.found.optimal);
  stable : l.wanted.stable ≡ true → StableUpTo l.net l.table.dest.0 (rows_of l.table) l.node (pure_stable l.found.stable);
}
