use Rattle.std.proofs.Common.{length, sym, ap, ◌∙◌}
use Rattle.std.specs.Prelude.{option_map}
use Rattle.std.specs.List.{range_with_len}
use Rattle.std.proofs.Math.Path.{fun_ext}
use Rattle.path_vector.specs.Keeping.{all_kept_news}
use Rattle.path_vector.specs.Known.{heard_by}
use Rattle.path_vector.specs.Node.{Begin}
use Rattle.path_vector.specs.State.{row_routes}
use Rattle.path_vector.proofs.Keepings.{kept_is_begun}
use Rattle.path_vector.proofs.Nodes.{begun_is, chosen_as_routes, state_is, state_with}
use Rattle.path_vector.proofs.node.PvNode.begin_settled.Goals as goal

pub invariant_of-self : goal.invariant_of-self
invariant_of-self g c =
    let inside = c.self.inside in
    record {
      algebra = c.self.invariant.algebra;
      is_net = c.self.invariant.is_net;
      kept = c.self.invariant.kept;
      chosen = λ begun. chosen_as_routes (g.A.Algebra.sig_value inside.algebra.now) inside.net.now inside.number.0 inside.neighbours inside.rows.items (rw (← c.self.view_is) at c.requires.chosen);
    }

pub returns-clause-node : goal.returns-clause-node
returns-clause-node g c =
    let inside = c.self.inside in
    let value = g.A.Algebra.sig_value inside.algebra.now in
    let chosen = chosen_as_routes value inside.net.now inside.number.0 inside.neighbours inside.rows.items (rw (← c.self.view_is) at c.requires.chosen) in
    rw (← c.self.view_is) (begun_is value inside.net.now (option_map (λ m. m.now) inside.before) inside.number.0 inside.is_begun inside.neighbours inside.rows.items inside.rows.items inside.last (fun_ext chosen))

pub returns-clause-out : goal.returns-clause-out
returns-clause-out g c =
    let inside = c.self.inside in
    let value = g.A.Algebra.sig_value inside.algebra.now in
    let net = inside.net.now in
    let before = option_map (λ m. m.now) inside.before in
    let rows = row_routes value inside.rows.items in
    let chosen = chosen_as_routes value net inside.number.0 inside.neighbours inside.rows.items (rw (← c.self.view_is) at c.requires.chosen) in
    let state = state_with net before inside.number.0 inside.is_begun (heard_by value inside.neighbours) rows inside.last in
    rw (← c.self.view_is) ((rw c.deref.ensures.value at c.in_ok-out.ensures)
    ∙ (ap (λ n. all_kept_news net before inside.number.0 rows (range_with_len 0 n)) c.self.invariant.kept.row_count
    ∙ (kept_is_begun state (range_with_len 0 (length net.dests)) chosen
    ∙ ap (λ s. (Begin s).1) (sym (state_is value net before inside.number.0 inside.is_begun inside.neighbours inside.rows.items inside.last)))))
