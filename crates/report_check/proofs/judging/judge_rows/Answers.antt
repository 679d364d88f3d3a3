use Rattle.std.proofs.Common.{◌≡◌, ℕ, length, subst, arith}
use Rattle.net_graph.specs.Views.{rows_of}
use Rattle.report_check.specs.Findings.{OptimalUpTo}
use Rattle.report_check.specs.Views.{pure_optimal}
use Rattle.report_check.proofs.judging.judge_rows.Goals as goal

pub returns-clause-optimal : goal.returns-clause-optimal
returns-clause-optimal c = λ w.
    let net = c.args.net.now in
    let all : c.loop-node.node ≡ length net.nodes = omega (arith, c.loop-node-test.false, c.loop-node.auto.node-end, c.node_count-node-end.ensures.count) in
    subst (λ (k : ℕ). OptimalUpTo net c.args.table.now.dest.0 (rows_of c.args.table.now) k k (pure_optimal c.loop-node.found.optimal)) all (c.loop-node.invariant.optimal w)
