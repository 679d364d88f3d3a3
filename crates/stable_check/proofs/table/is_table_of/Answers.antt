use Rattle.std.proofs.Common.{◌≡◌, Some, length, slice_get, refl, subst, sym, ◌∙◌, below_more, arith}
use Rattle.std.proofs.lemmas.Option.{same_Some}
use Rattle.net_graph.specs.Tables.{PureRow}
use Rattle.net_graph.specs.Views.{pure_row, rows_of}
use Rattle.stable_check.specs.Checks.{IsRowAt}
use Rattle.stable_check.proofs.TableRows.{row_there, table_places, places_table}
use Rattle.stable_check.proofs.table.is_table_of.Goals as goal

pub returns-then-not-is_row_at : goal.returns-then-not-is_row_at
returns-then-not-is_row_at c =
    let table = c.args.table.now in
    let there = row_there table.rows c.loop-node.node c.index-rows-node.result (rw c.as_slice-rows.ensures at c.loop-node-test.true) (rw c.as_slice-rows.ensures at c.index-rows-node.is) in (
      λ e. absurd (cc),
      λ h. let at = c.is_row_at.ensures.1 (table_places c.args.net.now table.dest.0 (rows_of table) h.1 c.loop-node.node (pure_row c.index-rows-node.result) there) in absurd (let f = c.if-not-is_row_at.true in cc),
    )

pub loop-node-preserved : goal.loop-node-preserved
loop-node-preserved c =
    let table = c.args.table.now in
    let there = row_there table.rows c.loop-node.node c.index-rows-node.result (rw c.as_slice-rows.ensures at c.loop-node-test.true) (rw c.as_slice-rows.ensures at c.index-rows-node.is) in
    let is = c.is_row_at.ensures.0 (let f = c.if-not-is_row_at.false in f) in
    below_more (λ k. (row : PureRow) → slice_get (rows_of table) k ≡ Some row → IsRowAt c.args.net.now table.dest.0 k row) c.loop-node.node c.loop-node.invariant
    (λ row e. subst (λ (x : PureRow). IsRowAt c.args.net.now table.dest.0 c.loop-node.node x) (same_Some (pure_row c.index-rows-node.result) row (sym there ∙ e)) is)

pub returns : goal.returns
returns c =
    let table = c.args.table.now in
    let rows = c.as_slice-rows.ensures in
    let count : length table.rows ≡ length c.args.net.now.nodes = rw rows at (let f = c.if-rows-node_count.false in let g = c.node_count.ensures.count in f ∙ g) in
    let within = rw rows at c.loop-node-test.false in (
      λ e. (omega (arith, c.if-table-dest_count.false, c.dest_count.ensures.count), places_table c.args.net.now table.dest.0 table.rows c.loop-node.node count within c.loop-node.invariant),
      λ h. refl,
    )
