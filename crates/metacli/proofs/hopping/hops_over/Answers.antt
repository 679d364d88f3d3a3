use Rattle.std.proofs.Common.{◌≡◌, ◌++◌, ◌∙◌, ap, length, map, refl, subst, sym, arith}
use Rattle.std.proofs.lemmas.Iterator.Adapters.{YieldsList-from_vec}
use Rattle.std.proofs.lemmas.Iterator.Consumers.{YieldsList-end, YieldsList-turn}
use Rattle.std.proofs.lemmas.List.{length_push}
use Rattle.net_graph.specs.Views.{rows_of}
use Rattle.report_check.specs.Views.{pure_hops}
use Rattle.metacli.specs.Outcome.{all_hops}
use Rattle.metacli.proofs.NextHops.{dest_in, hops_after, hops_end, hops_more, table_of}
use Rattle.metacli.proofs.hopping.hops_over.Goals as goal

pub best_hops-requires-clause-dest : goal.best_hops-requires-clause-dest
best_hops-requires-clause-dest g c =
    let turn = YieldsList-turn (YieldsList-from_vec c.args.tables c.loop-table.invariant.items c.loop-table.invariant.count) c.loop-table.yielded c.loop-table.table-iterator c.loop-table.yielded_by c.next.result c.next.new.self c.in-Some.table c.in-Some.is c.next.ensures.steps in
    dest_in c.args.net.now c.args.tables (length c.loop-table.yielded) c.in-Some.table c.requires.tables turn.0 turn.1

pub best_hops-requires-clause-table : goal.best_hops-requires-clause-table
best_hops-requires-clause-table g c =
    let turn = YieldsList-turn (YieldsList-from_vec c.args.tables c.loop-table.invariant.items c.loop-table.invariant.count) c.loop-table.yielded c.loop-table.table-iterator c.loop-table.yielded_by c.next.result c.next.new.self c.in-Some.table c.in-Some.is c.next.ensures.steps in
    table_of c.args.net.now c.args.tables (length c.loop-table.yielded) c.in-Some.table c.requires.tables turn.0 turn.1

pub loop-table-init : goal.loop-table-init
loop-table-init g c = record { so_far = rw c.in_ok-many.ensures.items refl; items = cc; count = cc }

pub loop-table-preserved : goal.loop-table-preserved
loop-table-preserved g c =
    let net = c.args.net.now in
    let tables = c.args.tables in
    let done = c.loop-table.yielded in
    let turn = YieldsList-turn (YieldsList-from_vec c.args.tables c.loop-table.invariant.items c.loop-table.invariant.count) c.loop-table.yielded c.loop-table.table-iterator c.loop-table.yielded_by c.next.result c.next.new.self c.in-Some.table c.in-Some.is c.next.ensures.steps in
    record {
      so_far = subst (λ n. map pure_hops c.append.new.self.items ++ hops_after net tables n ≡ all_hops net 0 (map rows_of tables)) (sym (length_push done c.in-Some.table))
          (hops_more net tables (length done) c.in-Some.table c.loop-table.many.items c.in_ok-more.more _ _ c.requires.tables turn.0 turn.1 (c.in_ok-append.ensures.items ∙ ap (λ xs. c.loop-table.many.items ++ xs) c.into_vec.ensures) c.in_ok-more.ensures c.loop-table.invariant.so_far);
      items = c.loop-table.invariant.items;
      count = c.loop-table.invariant.count;
    }

pub returns : goal.returns
returns g c =
    let end = YieldsList-end (YieldsList-from_vec c.args.tables c.loop-table.invariant.items c.loop-table.invariant.count) c.loop-table.yielded c.loop-table.table-iterator c.loop-table.yielded_by c.next.result c.next.new.self c.in-None.is c.next.ensures.steps in
    rw c.from_vec.ensures (hops_end c.args.net.now c.args.tables (length c.loop-table.yielded) _ _ (let all = end.1 in omega (arith, all)) c.loop-table.invariant.so_far)
