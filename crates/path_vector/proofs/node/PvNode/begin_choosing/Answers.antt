use Rattle.std.proofs.Common.{ap, refl, sym, ◌∙◌}
use Rattle.std.specs.Prelude.{option_map}
use Rattle.path_vector.specs.Known.{heard_by}
use Rattle.path_vector.specs.Node.{Begin}
use Rattle.path_vector.specs.State.{row_routes}
use Rattle.path_vector.proofs.Nodes.{begun_is, state_is, state_with}
use Rattle.path_vector.proofs.node.PvNode.begin_choosing.Goals as goal

pub invariant_of-self : goal.invariant_of-self
invariant_of-self g c = record {
  algebra = c.self.invariant.algebra;
  is_net = c.self.invariant.is_net;
  kept = rw c.deref.ensures.value at c.in_ok-rows.ensures.kept;
  chosen = λ begun dest. ap (λ f. f dest) c.in_ok-rows.ensures.rows;
}

pub returns-clause-node : goal.returns-clause-node
returns-clause-node g c =
    let inside = c.self.inside in
    let value = g.A.Algebra.sig_value inside.algebra.now in
    rw (← c.self.view_is) (begun_is value inside.net.now (option_map (λ m. m.now) inside.before) inside.number.0 inside.is_begun inside.neighbours inside.rows.items c.in_ok-rows.rows.items inside.last c.in_ok-rows.ensures.rows)

pub returns-clause-out : goal.returns-clause-out
returns-clause-out g c =
    let inside = c.self.inside in
    let value = g.A.Algebra.sig_value inside.algebra.now in
    let before = option_map (λ m. m.now) inside.before in
    let state = state_with inside.net.now before inside.number.0 inside.is_begun (heard_by value inside.neighbours) (row_routes value inside.rows.items) inside.last in
    rw (← c.self.view_is) ((rw c.deref-2.ensures.value at c.in_ok-rows.ensures.reported) state refl refl refl refl refl
    ∙ ap (λ s. (Begin s).1) (sym (state_is value inside.net.now before inside.number.0 inside.is_begun inside.neighbours inside.rows.items inside.last)))
