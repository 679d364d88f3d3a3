use Rattle.std.proofs.Common.{◌+◌, refl, ◌∙◌}
use Rattle.net_graph.specs.Views.{rows_of}
use Rattle.report_check.specs.Views.{pure_optimal, pure_stable}
use Rattle.report_check.proofs.TableFindings.{optimal_more, stable_more}
use Rattle.report_check.proofs.judging.judge_node.Goals as goal

pub returns-clause-optimal : goal.returns-clause-optimal
returns-clause-optimal c = λ w before.
    let net = c.args.net.now in
    let n = c.args.node.0 in
    rw (c.or.ensures, c.beaten_by.ensures)
    (optimal_more net c.args.table.now.dest.0 (rows_of c.args.table.now) (n + 1) n (pure_optimal c.in_ok-optimal.optimal) c.in_ok-row.row.beating c.requires.node (c.in_ok-optimal.ensures w before)
    (λ e. c.in_ok-row.ensures.beating (c.still_wanted-asked.ensures.optimal ∙ rw (w, e) refl)))

pub returns-clause-stable : goal.returns-clause-stable
returns-clause-stable c = λ w before.
    let net = c.args.net.now in
    let n = c.args.node.0 in
    rw (c.or-2.ensures, c.unstable_by.ensures)
    (stable_more net c.args.table.now.dest.0 (rows_of c.args.table.now) n (pure_stable c.args.before.stable) c.in_ok-row.row.offers.is_made c.in_ok-row.row.offers.better c.requires.node before
    (λ e. c.in_ok-row.ensures.made (c.still_wanted-asked.ensures.stable ∙ rw (w, e) refl)) (λ e. c.in_ok-row.ensures.better (c.still_wanted-asked.ensures.stable ∙ rw (w, e) refl)))
