use Rattle.std.proofs.Common.{length, refl, arith}
use Rattle.std.proofs.lemmas.Option.{slice_get_read}
use Rattle.flood_node.specs.FoundRows.{found_rows}
use Rattle.flood_node.proofs.Finding.{all_found_past}
use Rattle.flood_node.proofs.rows.flood_rows.Goals as goal
use Rattle.flood_node.proofs.rows.flood_rows.Goals.{then-index-leader+in_ok-find_rows, else-index-leader}

pub loop-leader-preserved : goal.loop-leader-preserved
loop-leader-preserved g c =
    let nodes = c.args.nodes.now in
    let leaders = c.in_ok-leaders.leaders.items in
    let leader = c.loop-leader.leader in
    let other = c.index.result.now in
    let count = c.in_ok-leaders.ensures.count in
    let at = slice_get_read leaders (length leaders) leader other refl (omega (arith, c.loop-leader-test.true, count)) c.index.ensures in
    elim c.if-index-leader.branch [
      | then-index-leader+in_ok-find_rows w ↦ rw w.found-is (rw w.deref.ensures.value at w.in_ok-find_rows.ensures)
      | else-index-leader w ↦ rw w.found-is (all_found_past c.args.net.now nodes leaders c.in_ok-leaders.ensures leader other (found_rows c.loop-leader.found.items) at w.if-index-leader.false c.loop-leader.invariant)
    ]
