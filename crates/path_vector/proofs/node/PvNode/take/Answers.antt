use Rattle.std.proofs.Common.{◌≡◌, ◌<◌, [], length, map, subst, sym, ap, ◌∙◌}
use Rattle.std.specs.Prelude.{option_map}
use Rattle.net_graph.specs.Nets.{arcs_to}
use Rattle.path_vector.specs.Known.{heard_by, known_route}
use Rattle.path_vector.specs.Node.{PureUpdate, choice, reported_on}
use Rattle.path_vector.specs.State.{row_routes}
use Rattle.path_vector.specs.Updates.{noted, pure_update}
use Rattle.path_vector.specs.Words.{fits_parts}
use Rattle.path_vector.proofs.Nodes.{all_reported, chosen_after, kept_is, kept_with_row, nothing_reported, on_refusal, rows_set, same_heard, still_chosen, taken_is, reported_is}
use Rattle.path_vector.proofs.node.PvNode.take.Goals as goal

pub invariant_of-self : goal.invariant_of-self
invariant_of-self g c =
    let inside = c.self.inside in
    record {
      algebra = c.self.invariant.algebra;
      is_net = c.self.invariant.is_net;
      kept = rw (c.deref.ensures.value, c.deref-2.ensures.value) at c.in_err-change.ensures.kept;
      chosen = λ begun dest. c.self.invariant.chosen begun dest ∙ ap (choice inside.net.now dest inside.number.0) (sym c.in_err-change.ensures.err);
    }

pub returns-in_err-change-clause-err : goal.returns-in_err-change-clause-err
returns-in_err-change-clause-err g c =
    let inside = c.self.inside in
    let value = g.A.Algebra.sig_value inside.algebra.now in
    on_refusal _ c.from_residual.result (
      rw (← c.self.view_is) (same_heard value inside.net.now (option_map (λ m. m.now) inside.before) inside.number.0 inside.is_begun inside.neighbours c.hear.new.neighbours inside.rows.items inside.last c.in_err-change.ensures.err),
      c.requires.out,
    )

pub invariant_of-self-in_default : goal.invariant_of-self-in_default
invariant_of-self-in_default g c =
    let inside = c.self.inside in
    let value = g.A.Algebra.sig_value inside.algebra.now in
    let net = inside.net.now in
    let number = inside.number.0 in
    let update = pure_update c.args.update.now in
    let rows = row_routes value inside.rows.items in
    let new = heard_by value c.hear.new.neighbours in
    let stays : choice net update.dest number new ≡ rows update.dest = rw (c.deref-2.ensures.value, c.in_default.is) at c.in_ok-change.ensures.change in
    record {
      algebra = c.self.invariant.algebra;
      is_net = c.self.invariant.is_net;
      kept = rw (c.deref.ensures.value, c.deref-2.ensures.value) at c.in_ok-change.ensures.kept;
      chosen = λ begun dest. still_chosen net number c.args.arc.0 update (heard_by value inside.neighbours) new rows c.in_ok-change.ensures.heard (c.self.invariant.chosen begun) stays dest;
    }

pub returns-in_default-clause-node : goal.returns-in_default-clause-node
returns-in_default-clause-node g c =
    let inside = c.self.inside in
    let value = g.A.Algebra.sig_value inside.algebra.now in
    let update = pure_update c.args.update.now in
    let stays = rw (c.deref-2.ensures.value, c.in_default.is) at c.in_ok-change.ensures.change in
    rw (← c.self.view_is) (kept_is value inside.net.now (option_map (λ m. m.now) inside.before) inside.number.0 inside.is_begun inside.neighbours c.hear.new.neighbours inside.rows.items inside.last
    c.args.arc.0 update c.args.clock c.in_ok-change.ensures.heard stays)

pub returns-in_default-clause-out : goal.returns-in_default-clause-out
returns-in_default-clause-out g c =
    let inside = c.self.inside in
    let value = g.A.Algebra.sig_value inside.algebra.now in
    let net = inside.net.now in
    let number = inside.number.0 in
    let update = pure_update c.args.update.now in
    let row = choice net update.dest number (heard_by value c.hear.new.neighbours) in
    let stays = rw (c.deref-2.ensures.value, c.in_default.is) at c.in_ok-change.ensures.change in
    let reported : PureUpdate = record { dest = update.dest; route = row; stamp = c.args.clock } in
    rw (← c.self.view_is) (ap (map noted) c.requires.out ∙ reported_is value net (option_map (λ m. m.now) inside.before) number inside.is_begun inside.neighbours c.hear.new.neighbours inside.rows.items inside.last
    c.args.arc.0 update c.args.clock c.in_ok-change.ensures.heard (map noted []) (nothing_reported row (row_routes value inside.rows.items update.dest) (reported_on (arcs_to net number) reported) stays))

pub invariant_of-self-2 : goal.invariant_of-self-2
invariant_of-self-2 g c =
    let A = g.A.Algebra in
    let inside = c.self.inside in
    let s = inside.algebra.now in
    let value = A.sig_value s in
    let net = inside.net.now in
    let number = inside.number.0 in
    let update = pure_update c.args.update.now in
    let row = c.in-Some.change.row in
    let rows = row_routes value inside.rows.items in
    let new = heard_by value c.hear.new.neighbours in
    let fit = rw (← c.self.view_is) at c.requires.fits in
    let kept = rw (c.deref.ensures.value, c.deref-2.ensures.value) at c.in_ok-change.ensures.kept in
    let within : update.dest < length inside.rows.items = subst (λ z. update.dest < z) (sym kept.row_count) (fits_parts net fit.0 update fit.3).0 in
    let change = rw (c.deref-2.ensures.value, c.in-Some.is) at c.in_ok-change.ensures.change in
    let sig = rw c.in-Some.is at c.in_ok-change.ensures.sig in
    record {
      algebra = c.self.invariant.algebra;
      is_net = c.self.invariant.is_net;
      kept = rw c.put_row.ensures (kept_with_row value (A.stands_for s) (A.is_sig s) net number inside.own.items c.hear.new.neighbours inside.rows.items update.dest row kept within sig);
      chosen = λ begun dest. ap (λ z. row_routes value z dest) c.put_row.ensures ∙ ap (λ f. f dest) (rows_set value inside.rows.items update.dest row within)
          ∙ chosen_after net number c.args.arc.0 update (heard_by value inside.neighbours) new rows (option_map (known_route value) row) c.in_ok-change.ensures.heard (c.self.invariant.chosen begun) change.0 dest;
    }

pub returns-clause-node : goal.returns-clause-node
returns-clause-node g c =
    let inside = c.self.inside in
    let value = g.A.Algebra.sig_value inside.algebra.now in
    let update = pure_update c.args.update.now in
    let fit = rw (← c.self.view_is) at c.requires.fits in
    let kept = rw (c.deref.ensures.value, c.deref-2.ensures.value) at c.in_ok-change.ensures.kept in
    let within : update.dest < length inside.rows.items = subst (λ z. update.dest < z) (sym kept.row_count) (fits_parts inside.net.now fit.0 update fit.3).0 in
    let change = rw (c.deref-2.ensures.value, c.in-Some.is) at c.in_ok-change.ensures.change in
    rw (← c.self.view_is, c.put_row.ensures) (taken_is value inside.net.now (option_map (λ m. m.now) inside.before) inside.number.0 inside.is_begun inside.neighbours c.hear.new.neighbours inside.rows.items inside.last
    c.args.arc.0 update c.args.clock c.in_ok-change.ensures.heard c.in-Some.change.row within change.0)

pub returns-clause-out : goal.returns-clause-out
returns-clause-out g c =
    let inside = c.self.inside in
    let value = g.A.Algebra.sig_value inside.algebra.now in
    let net = inside.net.now in
    let number = inside.number.0 in
    let update = pure_update c.args.update.now in
    let row = choice net update.dest number (heard_by value c.hear.new.neighbours) in
    let reported : PureUpdate = record { dest = update.dest; route = row; stamp = c.args.clock } in
    let change = rw (c.deref-2.ensures.value, c.in-Some.is) at c.in_ok-change.ensures.change in
    rw (← c.self.view_is) (reported_is value net (option_map (λ m. m.now) inside.before) number inside.is_begun inside.neighbours c.hear.new.neighbours inside.rows.items inside.last
    c.args.arc.0 update c.args.clock c.in_ok-change.ensures.heard (map noted c.in-Some.change.reported) (all_reported row (row_routes value inside.rows.items update.dest) (map noted c.in-Some.change.reported) (reported_on (arcs_to net number) reported) change.1 change.2))
