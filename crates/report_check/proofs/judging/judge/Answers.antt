use Rattle.std.proofs.Common.{◌≡◌, ◌+◌, ℕ, map, length, sym, ap, ◌∙◌, subst, arith}
use Rattle.std.proofs.lemmas.List.{length-map}
use Rattle.net_graph.specs.Tables.{TableOf}
use Rattle.net_graph.specs.Views.{rows_of}
use Rattle.report_check.specs.Findings.{OptimalBefore, StableBefore}
use Rattle.report_check.specs.Judged.{table_at}
use Rattle.report_check.specs.Views.{pure_optimal, pure_stable}
use Rattle.report_check.proofs.TableFindings.{all_relaxed_tables, dest_there, holds_there, settled_no, settled_stable, table_there}
use Rattle.report_check.proofs.judging.judge.Goals as goal

pub judge_more-requires-clause-dest : goal.judge_more-requires-clause-dest
judge_more-requires-clause-dest g c =
    let d = dest_there c.args.tables.now c.loop-table.table-index c.table-item.result c.requires.dests c.loop-table-test.true c.table-item.is in
    omega (arith, d, c.requires.count, c.loop-table-test.true)

pub judge_more-requires-clause-table : goal.judge_more-requires-clause-table
judge_more-requires-clause-table g c =
    holds_there (TableOf c.args.net.now) c.args.tables.now c.loop-table.table-index c.table-item.result c.requires.dests c.requires.tables c.loop-table-test.true c.table-item.is

pub loop-table-preserved : goal.loop-table-preserved
loop-table-preserved g c =
    let net = c.args.net.now in
    let tables = map rows_of c.args.tables.now in
    let k = c.loop-table.table-index in
    let item = c.table-item.result in
    let d : item.dest.0 ≡ k = dest_there c.args.tables.now k item c.requires.dests c.loop-table-test.true c.table-item.is in
    let at : table_at tables item.dest.0 ≡ rows_of item = ap (table_at tables) d ∙ table_there c.args.tables.now k item c.loop-table-test.true c.table-item.is in
    let optimal = subst (λ (n : ℕ). OptimalBefore net tables n (pure_optimal c.loop-table.found.optimal)) (sym d) c.loop-table.invariant.optimal in
    let stable = subst (λ (n : ℕ). StableBefore net tables n (pure_stable c.loop-table.found.stable)) (sym d) c.loop-table.invariant.stable in
    record {
      optimal = subst (λ (n : ℕ). OptimalBefore net tables (n + 1) (pure_optimal c.in_ok-found.found.optimal)) d (c.in_ok-found.ensures.optimal tables at optimal);
      stable = subst (λ (n : ℕ). StableBefore net tables (n + 1) (pure_stable c.in_ok-found.found.stable)) d (c.in_ok-found.ensures.stable tables at stable);
    }

pub returns-then-not-is_yes : goal.returns-then-not-is_yes
returns-then-not-is_yes g c =
    let net = c.args.net.now in
    let tables = map rows_of c.args.tables.now in
    let all : c.loop-table.table-index ≡ length tables = omega (arith, length-map c.args.tables.now rows_of, c.loop-table-test.false, c.loop-table.auto.table-index-end) in
    record {
      optimal = settled_no net tables c.loop-table.table-index (pure_optimal c.loop-table.found.optimal) (sym c.is_yes.ensures ∙ c.if-not-is_yes.true) c.loop-table.invariant.optimal;
      stable = settled_stable net tables (pure_stable c.loop-table.found.stable) (subst (λ (n : ℕ). StableBefore net tables n (pure_stable c.loop-table.found.stable)) all c.loop-table.invariant.stable);
    }

pub returns : goal.returns
returns g c =
    let net = c.args.net.now in
    let tables = map rows_of c.args.tables.now in
    let all : c.loop-table.table-index ≡ length tables = omega (arith, length-map c.args.tables.now rows_of, c.loop-table-test.false, c.loop-table.auto.table-index-end) in
    let before = subst (λ (n : ℕ). OptimalBefore net tables n (pure_optimal c.loop-table.found.optimal)) all c.loop-table.invariant.optimal in
    record {
      optimal = c.in_ok-settle.ensures tables (all_relaxed_tables net tables (pure_optimal c.loop-table.found.optimal) (sym c.is_yes.ensures ∙ c.if-not-is_yes.false) before);
      stable = settled_stable net tables (pure_stable c.loop-table.found.stable) (subst (λ (n : ℕ). StableBefore net tables n (pure_stable c.loop-table.found.stable)) all c.loop-table.invariant.stable);
    }
