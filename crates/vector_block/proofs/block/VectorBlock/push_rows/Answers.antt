use Rattle.std.proofs.Common.{◌≡◌, ◌++◌, ◌∷◌, [], length, map, ap, ◌∙◌, subst, arith}
use Rattle.std.specs.List.{range_with_len}
use Rattle.std.proofs.lemmas.List.{map-append}
use Rattle.net_graph.specs.Views.{pure_row}
use Rattle.vector_block.specs.Blocks.{PureBlock, at_place}
use Rattle.vector_block.proofs.Rows.{row_next, rows_are}
use Rattle.vector_block.proofs.block.VectorBlock.push_rows.Goals as goal

pub loop-node-preserved : goal.loop-node-preserved
loop-node-preserved g c =
    let self = c.args.self.now in
    let dest = c.args.dest.0 in
    ap (map pure_row) c.in_ok-push.ensures.items ∙ (map-append pure_row c.loop-node.rows.items (c.in_ok-row_at.field-0 ∷ [])
    ∙ row_next (λ node. record { node = node; dest = dest; route = at_place self.rows node dest }) (map pure_row c.args.rows.now.items) (map pure_row c.loop-node.rows.items) c.loop-node.node (pure_row c.in_ok-row_at.field-0) c.loop-node.invariant c.in_ok-row_at.ensures)

pub returns : goal.returns
returns g c =
    let self = c.args.self.now in
    let dest = c.args.dest.0 in
    let same : length c.self.inside.site.net.now.nodes ≡ length self.net.nodes = ap (λ (b : PureBlock). length b.net.nodes) c.self.view_is in
    let all : c.loop-node.node ≡ length self.net.nodes = omega (arith, c.loop-node.auto.node-end, c.loop-node-test.false, c.node_count-node-end.ensures.count, same) in
    let count = subst (λ (b : PureBlock). length b.clocks ≡ length b.net.nodes) c.self.view_is c.self.invariant.clock_count in
    c.loop-node.invariant ∙ (ap (λ k. map pure_row c.args.rows.now.items ++ map (λ node. record { node = node; dest = dest; route = at_place self.rows node dest }) (range_with_len 0 k)) all
    ∙ ap (λ l. map pure_row c.args.rows.now.items ++ l) (rows_are self count dest))
