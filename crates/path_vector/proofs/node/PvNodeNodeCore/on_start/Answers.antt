use Rattle.path_vector.proofs.Nodes.{chosen_in_lists, either_second}
use Rattle.path_vector.proofs.node.PvNodeNodeCore.on_start.Goals as goal

pub begin_settled-requires-clause-chosen : goal.begin_settled-requires-clause-chosen
begin_settled-requires-clause-chosen g c =
    let inside = c.self.inside in
    let value = g.A.Algebra.sig_value inside.algebra.now in
    rw (← c.self.view_is) (chosen_in_lists value inside.net.now inside.number.0 inside.neighbours inside.rows.items (c.self.invariant.chosen (either_second inside.is_begun inside.is_settled c.if-self.true)))
