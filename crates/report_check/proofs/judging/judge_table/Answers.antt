use Rattle.std.proofs.Common.{length, sym, ◌∙◌}
use Rattle.net_graph.specs.Views.{rows_of}
use Rattle.report_check.specs.Findings.{OptimalUpTo, StableUpTo}
use Rattle.report_check.specs.Judged.{stable, unbeaten}
use Rattle.report_check.specs.Views.{pure_optimal, pure_stable}
use Rattle.report_check.proofs.Looking.{all_cleared, only_left, stable_same}
use Rattle.report_check.proofs.judging.judge_table.Goals as goal

pub returns-then-not-left-2-clause-optimal : goal.returns-then-not-left-2-clause-optimal
returns-then-not-left-2-clause-optimal g c = λ w.
    let clear = all_cleared c.args.wanted.optimal c.in_ok-clear.clear.optimal w (sym c.without-left.ensures.optimal ∙ c.if-not-left.true) in
    rw (c.in_ok-form.ensures.net, c.in_ok-form.ensures.table) at (c.in_ok-clear.ensures.optimal clear)

pub returns-clause-optimal : goal.returns-clause-optimal
returns-clause-optimal g c = λ w.
    let net = c.args.net.now in
    let n = length net.nodes in
    rw (c.only.ensures.optimal, c.without-left.ensures.optimal)
    (only_left c.args.wanted.optimal c.in_ok-clear.clear.optimal (pure_optimal c.in_ok-judge_rows.field-0.optimal) unbeaten (OptimalUpTo net c.args.table.now.dest.0 (rows_of c.args.table.now) n n) w
    (λ e. rw (c.in_ok-form.ensures.net, c.in_ok-form.ensures.table) at (c.in_ok-clear.ensures.optimal e))
    (λ e. c.in_ok-judge_rows.ensures.optimal (c.without-left.ensures.optimal ∙ e)))

pub returns-clause-stable : goal.returns-clause-stable
returns-clause-stable g c = λ w.
    let net = c.args.net.now in
    let n = length net.nodes in
    rw (c.only.ensures.stable, c.without-left.ensures.stable)
    (only_left c.args.wanted.stable c.in_ok-clear.clear.stable (pure_stable c.in_ok-judge_rows.field-0.stable) stable (StableUpTo net c.args.table.now.dest.0 (rows_of c.args.table.now) n) w
    (λ e. stable_same c.in_ok-form.form.net.now net c.in_ok-form.form.table.now c.args.table.now c.in_ok-form.ensures.net c.in_ok-form.ensures.table (c.in_ok-clear.ensures.stable e))
    (λ e. c.in_ok-judge_rows.ensures.stable (c.without-left.ensures.stable ∙ e)))
