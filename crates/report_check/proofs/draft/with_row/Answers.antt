use Rattle.std.proofs.Common.{◌≡◌, [], ◌∷◌, ◌++◌, List, length, ap, ◌∙◌, arith}
use Rattle.std.proofs.lemmas.List.{length-map}
use Rattle.net_graph.specs.Tables.{TableOf}
use Rattle.net_graph.specs.Views.{pure_row, rows_of}
use Rattle.net_graph.specs.declared.route.DestTable.{DestTable}
use Rattle.net_graph.specs.declared.route.RouteRow.{RouteRow}
use Rattle.report_check.specs.Said.{progress_of}
use Rattle.report_check.proofs.Reading.{dest_added, next_row, row_added, table_added}
use Rattle.report_check.proofs.draft.with_row.Goals as goal

pub returns-then-len-node_count-clause-draft : goal.returns-then-len-node_count-clause-draft
returns-then-len-node_count-clause-draft c =
    let net = c.args.net.now in
    let draft = c.args.draft in
    let row = c.args.row in
    let next = next_row net (progress_of draft) row.node.0 row.dest.0 c.requires.next in
    let items : c.push.new.self.items ≡ draft.rows.items ++ row ∷ [] = c.in_ok-push.ensures.items ∙ ap (λ (rows : List RouteRow). rows ++ row ∷ []) c.in_ok-rows.ensures in
    record {
      tables = c.requires.draft.tables;
      dests = c.requires.draft.dests;
      rows = rw items (row_added net (length draft.tables.items) draft.rows.items row c.requires.draft.rows next.0 (next.1 ∙ length-map draft.tables.items rows_of) c.requires.route);
    }

pub returns-clause-draft : goal.returns-clause-draft
returns-clause-draft c =
    let net = c.args.net.now in
    let draft = c.args.draft in
    let row = c.args.row in
    let next = next_row net (progress_of draft) row.node.0 row.dest.0 c.requires.next in
    let items : c.push.new.self.items ≡ draft.rows.items ++ row ∷ [] = c.in_ok-push.ensures.items ∙ ap (λ (rows : List RouteRow). rows ++ row ∷ []) c.in_ok-rows.ensures in
    let place = next.1 ∙ length-map draft.tables.items rows_of in
    let added = row_added net (length draft.tables.items) draft.rows.items row c.requires.draft.rows next.0 place c.requires.route in
    let count : length (draft.rows.items ++ row ∷ []) ≡ length net.nodes =
    omega (arith, ap length items, c.len.ensures, c.push.new.self.ok.0, c.if-len-node_count.false, c.node_count.ensures.count) in
    let table : DestTable = record { dest = row.dest; rows = c.from_vec.result } in
    let whole : TableOf net (length draft.tables.items) (rows_of table) =
    rw (c.from_vec.ensures, items) (record { rows = added; count = length-map (draft.rows.items ++ row ∷ []) pure_row ∙ count }) in
    record {
      tables = rw c.in_ok-push-2.ensures.items (table_added net draft.tables.items table c.requires.draft.tables whole);
      dests = rw c.in_ok-push-2.ensures.items (dest_added draft.tables.items table c.requires.draft.dests place);
      rows = rw c.new.ensures.items tt;
    }
