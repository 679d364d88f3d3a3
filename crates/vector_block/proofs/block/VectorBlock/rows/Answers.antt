use Rattle.std.proofs.Common.{◌++◌, sym, ap, ◌∙◌}
use Rattle.path_vector.specs.Node.{dest_rows}
use Rattle.path_vector.proofs.NodeRows.{rows_next}
use Rattle.vector_block.specs.Blocks.{states_of}
use Rattle.vector_block.proofs.block.VectorBlock.rows.Goals as goal

pub loop-dest-preserved : goal.loop-dest-preserved
loop-dest-preserved g c =
    let states = states_of c.args.self.now in
    c.in_ok-push_rows.ensures ∙ (ap (λ l. l ++ dest_rows states c.loop-dest.dest) c.loop-dest.invariant ∙ sym (rows_next states c.loop-dest.dest))
