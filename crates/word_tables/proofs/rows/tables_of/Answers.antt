use Rattle.std.proofs.Common.{length, arith, refl, ◌∙◌}
use Rattle.std.proofs.lemmas.Iterator.Adapters.{YieldsList-from_vec}
use Rattle.std.proofs.lemmas.Iterator.Consumers.{YieldsList-end, YieldsList-turn}
use Rattle.std.proofs.lemmas.List.{length_push}
use Rattle.code_gen.specs.Encoding.{decoded}
use Rattle.net_graph.proofs.GroupLemmas.{all_at}
use Rattle.word_tables.specs.Tables.{AreWordsOf}
use Rattle.word_tables.proofs.Joining.{all_push, tables_end, tables_more}
use Rattle.word_tables.proofs.rows.tables_of.Goals as goal

pub of-table-requires-clause-ids : goal.of-table-requires-clause-ids
of-table-requires-clause-ids g c =
    let turn = YieldsList-turn (YieldsList-from_vec c.args.found c.loop-fixed.invariant.items c.loop-fixed.invariant.many) c.loop-fixed.yielded c.loop-fixed.fixed-iterator c.loop-fixed.yielded_by c.next.result c.next.new.self c.in-Some.fixed c.in-Some.is c.next.ensures.steps in
    (all_at _ c.args.found (length c.loop-fixed.yielded) c.in-Some.fixed c.requires.found.1 turn.0 turn.1).0.ids

pub of-table-requires-clause-few : goal.of-table-requires-clause-few
of-table-requires-clause-few g c =
    let turn = YieldsList-turn (YieldsList-from_vec c.args.found c.loop-fixed.invariant.items c.loop-fixed.invariant.many) c.loop-fixed.yielded c.loop-fixed.fixed-iterator c.loop-fixed.yielded_by c.next.result c.next.new.self c.in-Some.fixed c.in-Some.is c.next.ensures.steps in
    (all_at _ c.args.found (length c.loop-fixed.yielded) c.in-Some.fixed c.requires.found.1 turn.0 turn.1).1

pub loop-fixed-init : goal.loop-fixed-init
loop-fixed-init g c = record {
  count = refl;
  so_far = λ d. rw c.in_ok-tables.ensures.items refl;
  words = λ d fixed. rw c.in_ok-tables.ensures.items tt;
  items = cc;
  many = cc;
}

pub loop-fixed-preserved : goal.loop-fixed-preserved
loop-fixed-preserved g c =
    let held = g.W.HeldRow.held in
    let done = c.loop-fixed.yielded in
    let tables = c.loop-fixed.tables.items in
    let table = c.table_of.result in
    let turn = YieldsList-turn (YieldsList-from_vec c.args.found c.loop-fixed.invariant.items c.loop-fixed.invariant.many) c.loop-fixed.yielded c.loop-fixed.fixed-iterator c.loop-fixed.yielded_by c.next.result c.next.new.self c.in-Some.fixed c.in-Some.is c.next.ensures.steps in
    record {
      count = omega (arith, length_push done c.in-Some.fixed, c.loop-fixed.invariant.count);
      so_far = λ d. rw (c.in_ok-push.ensures.items, length_push done c.in-Some.fixed)
          (tables_more (λ row. decoded d (held row)) d c.args.found tables table (length done) c.in-Some.fixed _ turn.0 turn.1 (c.table_of.ensures.rows d ∙ rw c.loop-fixed.invariant.count at (c.of-table.ensures.rows d)) (c.loop-fixed.invariant.so_far d));
      words = λ d fixed. rw c.in_ok-push.ensures.items
          (all_push (AreWordsOf d) tables table (c.loop-fixed.invariant.words d fixed) (c.table_of.ensures.words d (c.of-table.ensures.words d (all_at _ c.args.found (length done) c.in-Some.fixed fixed turn.0 turn.1).0)));
      items = c.loop-fixed.invariant.items;
      many = c.loop-fixed.invariant.many;
    }

pub returns-clause-tables : goal.returns-clause-tables
returns-clause-tables g c = λ d.
    let end = YieldsList-end (YieldsList-from_vec c.args.found c.loop-fixed.invariant.items c.loop-fixed.invariant.many) c.loop-fixed.yielded c.loop-fixed.fixed-iterator c.loop-fixed.yielded_by c.next.result c.next.new.self c.in-None.is c.next.ensures.steps in
    rw c.from_vec.ensures
    (tables_end (λ row. decoded d (g.W.HeldRow.held row)) d c.args.found c.loop-fixed.tables.items (length c.loop-fixed.yielded) _ (let all = end.1 in omega (arith, all)) (c.loop-fixed.invariant.so_far d))

pub returns-clause-words : goal.returns-clause-words
returns-clause-words g c = λ d fixed. rw c.from_vec.ensures (c.loop-fixed.invariant.words d fixed)
