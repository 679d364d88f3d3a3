use Rattle.std.proofs.Common.{◌≡◌, length, refl, sym, ◌∙◌, arith}
use Rattle.std.proofs.lemmas.List.{length-map}
use Rattle.std.proofs.lemmas.Option.{slice_get_read}
use Rattle.net_graph.specs.Views.{rows_of}
use Rattle.flood_node.specs.FoundRows.{found_rows}
use Rattle.flood_node.proofs.Joining.{seen_rows}
use Rattle.flood_node.proofs.Solved.{none_solved, solved_next}
use Rattle.flood_node.proofs.rows.place_tables.Goals as goal

pub loop-dest-init : goal.loop-dest-init
loop-dest-init g c = none_solved c.args.reported.now c.args.leaders.now c.args.leader (found_rows c.args.found.now.items)

pub loop-dest-preserved : goal.loop-dest-preserved
loop-dest-preserved g c =
    let dest = c.loop-dest.dest in
    let found = c.loop-dest.found in
    let old = c.args.found.now in
    let rows = c.index_mut.result.now in
    let count : length found.items ≡ length old.items = sym (length-map found.items seen_rows) ∙ (c.loop-dest.invariant.count ∙ length-map old.items seen_rows) in
    let dests = c.requires.dests in
    let at = slice_get_read found.items (length found.items) dest rows refl (omega (arith, count, dests, c.loop-dest-test.true)) c.index_mut.ensures.value in
    solved_next c.args.reported.now c.args.leaders.now c.args.leader dest (rows_of c.in_ok-table.table) old.items found.items rows c.place_rows.new.found at c.in_ok-table.ensures.rows c.place_rows.ensures.count c.place_rows.ensures.placed c.loop-dest.invariant
