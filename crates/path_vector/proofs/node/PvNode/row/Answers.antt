use Rattle.std.proofs.Common.{◌<◌, length, sym, subst, ◌∙◌}
use Rattle.path_vector.proofs.Choices.{entry_is}
use Rattle.path_vector.proofs.Nodes.{no_route, row_is, some_route}
use Rattle.path_vector.proofs.node.PvNode.row.Goals as goal
use Rattle.path_vector.proofs.node.PvNode.row.Goals.{in-Some+in_ok-route_of-in-Some, in-None}

pub route_of-requires : goal.route_of-requires
route_of-requires g c =
    let kept = c.self.invariant.kept in
    let rows = c.self.inside.rows.items in
    let dest = c.args.dest.0 in
    let within : dest < length rows = subst (λ z. dest < z) (sym kept.row_count) (rw (← c.self.view_is) at c.requires) in
    kept.row_sigs dest c.in-Some.known (entry_is rows dest c.index.result.now within c.index.ensures ∙ c.in-Some.is)

pub returns : goal.returns
returns g c =
    let kept = c.self.invariant.kept in
    let value = g.A.Algebra.sig_value c.self.inside.algebra.now in
    let rows = c.self.inside.rows.items in
    let dest = c.args.dest.0 in
    let within : dest < length rows = subst (λ z. dest < z) (sym kept.row_count) (rw (← c.self.view_is) at c.requires) in
    let entry = entry_is rows dest c.index.result.now within c.index.ensures in
    rw (← c.self.view_is) (elim c.match-index.branch [
      | in-Some+in_ok-route_of-in-Some w ↦ row_is value c.self.inside.number.0 dest rows c.index.result.now c.match-index.route entry (some_route value c.match-index.route c.index.result.now w.in_ok-route_of-in-Some.field-0 w.in-Some.known w.route-is w.in-Some.is w.in_ok-route_of-in-Some.ensures)
      | in-None w ↦ row_is value c.self.inside.number.0 dest rows c.index.result.now c.match-index.route entry (no_route value c.match-index.route c.index.result.now w.route-is w.in-None.is)
    ])
