use Rattle.std.proofs.Common.{◌∙◌}
use Rattle.net_graph.specs.Views.{rows_of}
use Rattle.report_check.specs.Views.{pure_optimal, pure_stable}
use Rattle.report_check.proofs.TableFindings.{optimal_table, stable_table}
use Rattle.report_check.proofs.judging.judge_more.Goals as goal

pub returns-clause-optimal : goal.returns-clause-optimal
returns-clause-optimal g c = λ tables at before.
    rw c.or.ensures
    (optimal_table c.args.net.now tables c.args.table.now.dest.0 (rows_of c.args.table.now) (pure_optimal c.args.before.optimal) (pure_optimal c.in_ok-found.found.optimal) c.requires.dest c.requires.table at before
    (λ e. c.in_ok-found.ensures.optimal (c.is_yes.ensures ∙ e)))

pub returns-clause-stable : goal.returns-clause-stable
returns-clause-stable g c = λ tables at before.
    rw c.or-2.ensures
    (stable_table c.args.net.now tables c.args.table.now.dest.0 (rows_of c.args.table.now) (pure_stable c.args.before.stable) (pure_stable c.in_ok-found.found.stable) c.requires.dest c.requires.table at before
    (λ e. c.in_ok-found.ensures.stable (c.is_yes-2.ensures ∙ e)))
