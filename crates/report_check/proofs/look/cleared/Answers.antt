use Rattle.std.proofs.Common.{◌≡◌, not, length, sym, ◌∙◌, below_more, arith}
use Rattle.net_graph.specs.Tables.{route_at}
use Rattle.net_graph.specs.Views.{rows_of}
use Rattle.stable_check.specs.Checks.{IsMade, IsOutdone}
use Rattle.report_check.specs.Judged.{IsBeaten}
use Rattle.report_check.proofs.Looking.{both_true, either_false, made_choices, made_walks, not_false}
use Rattle.report_check.proofs.look.cleared.Goals as goal

pub loop-node-preserved : goal.loop-node-preserved
loop-node-preserved g c =
    let form = c.args.form.now in
    let net = form.net.now in
    let dest = form.table.now.dest.0 in
    let rows = rows_of form.table.now in
    let n = c.loop-node.node in
    let old = c.loop-node.shown in
    let row = c.in_ok-row.row in
    record {
      improves = λ e.
          let f = either_false old.improves row.improves (sym c.and_of-shown.ensures.improves ∙ e) in
          below_more (λ k. ¬ IsBeaten net dest rows k) n (c.loop-node.invariant.improves f.0) (c.in_ok-row.ensures.improves f.1);
      makes = λ e.
          let f = both_true old.makes row.makes (sym c.and_of-shown.ensures.makes ∙ e) in
          below_more (λ k. IsMade net dest (route_at rows) k) n (c.loop-node.invariant.makes f.0) (c.in_ok-row.ensures.makes f.1);
      outdoes = λ e.
          let f = either_false old.outdoes row.outdoes (sym c.and_of-shown.ensures.outdoes ∙ e) in
          below_more (λ k. ¬ IsOutdone net dest (route_at rows) k) n (c.loop-node.invariant.outdoes f.0) (c.in_ok-row.ensures.outdoes f.1);
    }

pub returns-clause-optimal : goal.returns-clause-optimal
returns-clause-optimal g c = λ e.
    let form = c.args.form.now in
    let net = form.net.now in
    let rows = rows_of form.table.now in
    let shown = c.loop-node.shown in
    let all : length net.nodes ≡ c.loop-node.node = omega (arith, c.loop-node-test.false, c.loop-node.auto.node-end, c.node_count-node-end.ensures.count) in
    let f = both_true shown.makes (not shown.improves) (sym c.clears.ensures.optimal ∙ e) in (
      made_walks net c.requires.compiled.is_net form.table.now.dest.0 rows c.requires.compiled.is_table (λ k l. c.loop-node.invariant.makes f.0 k (omega (arith, l, all))),
      λ k l. c.loop-node.invariant.improves (not_false shown.improves f.1) k (omega (arith, l, all)),
    )

pub returns-clause-stable : goal.returns-clause-stable
returns-clause-stable g c = λ e.
    let form = c.args.form.now in
    let net = form.net.now in
    let shown = c.loop-node.shown in
    let all : length net.nodes ≡ c.loop-node.node = omega (arith, c.loop-node-test.false, c.loop-node.auto.node-end, c.node_count-node-end.ensures.count) in
    let f = both_true shown.makes (not shown.outdoes) (sym c.clears.ensures.stable ∙ e) in
    made_choices net form.table.now.dest.0 (rows_of form.table.now) (length net.nodes) (λ k l. c.loop-node.invariant.makes f.0 k (omega (arith, l, all))) (λ k l. c.loop-node.invariant.outdoes (not_false shown.outdoes f.1) k (omega (arith, l, all)))
