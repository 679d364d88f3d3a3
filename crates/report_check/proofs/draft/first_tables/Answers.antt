use Rattle.std.proofs.Common.{◌≡◌, [], length, ◌∙◌, arith, eqb, true}
use Rattle.std.proofs.lemmas.Bool.Decides.{nat_tests}
use Rattle.net_graph.specs.declared.route.DestTable.{DestTable}
use Rattle.report_check.proofs.Reading.{dest_added, empty_added, empty_table, replicate_map, table_added}
use Rattle.report_check.proofs.draft.first_tables.Goals as goal

pub loop-dest-preserved : goal.loop-dest-preserved
loop-dest-preserved c =
    let net = c.args.net.now in
    let tables = c.loop-dest.tables.items in
    let table : DestTable = record { dest = record { 0 = c.loop-dest.dest }; rows = c.new.result } in
    let none : length net.nodes ≡ 0 = omega (arith, c.if-node_count-gt0.false, c.node_count.ensures.count) in
    let place : table.dest.0 ≡ length tables = omega (arith, c.loop-dest.invariant.count, c.loop-dest.tables.ok.0) in
    record {
      count = omega (arith, c.in_ok-push.ensures.len, c.loop-dest.invariant.count);
      tables = rw c.in_ok-push.ensures.items (empty_added tables table c.loop-dest.dest c.loop-dest.invariant.tables c.new.ensures);
      table_of = rw c.in_ok-push.ensures.items (table_added net tables table c.loop-dest.invariant.table_of (empty_table net (length tables) table none c.new.ensures));
      dests = rw c.in_ok-push.ensures.items (dest_added tables table c.loop-dest.invariant.dests place);
    }

pub returns-clause-tables : goal.returns-clause-tables
returns-clause-tables c =
    let net = c.args.net.now in
    let none : eqb (length net.nodes) 0 ≡ true = let n : length net.nodes ≡ 0 = omega (arith, c.if-node_count-gt0.false, c.node_count.ensures.count) in grind (arith, nat_tests) in
    let all : c.loop-dest.dest ≡ length net.dests = omega (arith, c.loop-dest-test.false, c.loop-dest.auto.dest-end, c.dest_count-dest-end.ensures.count) in
    rw none (c.loop-dest.invariant.tables ∙ rw all (replicate_map net.dests []))
