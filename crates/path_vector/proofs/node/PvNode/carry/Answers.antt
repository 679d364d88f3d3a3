use Rattle.std.proofs.Common.{ap, option_map, sym, ◌∙◌}
use Rattle.net_graph.specs.Nets.{PureNet}
use Rattle.path_vector.specs.Known.{heard_by}
use Rattle.path_vector.specs.Node.{choice}
use Rattle.path_vector.proofs.Alike.{choice_stays}
use Rattle.path_vector.proofs.Nodes.{carried_is, either_first, kept_on}
use Rattle.path_vector.proofs.node.PvNode.carry.Goals as goal

pub invariant_of-result : goal.invariant_of-result
invariant_of-result g c =
    let A = g.A.Algebra in
    let old = c.old.inside in
    let s = old.algebra.now in
    let net = c.args.net.now in
    let same = rw (← c.old.view_is) at c.requires.net in
    record {
      algebra = c.old.invariant.algebra ∙ ap (λ (z : PureNet). z.alg.expression) (sym same);
      is_net = c.in_ok-neighbours.ensures.net;
      chosen = λ settled dest.
          let alike = c.has_arcs_alike-is_settled.ensures.0 settled in
          c.old.invariant.chosen (either_first old.is_begun old.is_settled (rw (← c.old.view_is) at c.requires.begun)) dest
          ∙ sym (choice_stays old.net.now net c.old.invariant.is_net c.in_ok-neighbours.ensures.net same old.number.0 alike dest (heard_by (A.sig_value s) old.neighbours))
          ∙ ap (choice net dest old.number.0) (sym c.in_ok-neighbours.ensures.heard);
      kept = kept_on (A.stands_for s) (A.is_sig s) (A.sig_value s) old.net.now net same old.number.0 old.own.items old.neighbours c.in_ok-neighbours.neighbours old.rows.items c.old.invariant.kept c.in_ok-neighbours.ensures.neighbours;
    }

pub returns : goal.returns
returns g c =
    let old = c.old.inside in
    rw (← c.old.view_is) (carried_is (g.A.Algebra.sig_value old.algebra.now) old.net.now c.args.net.now (option_map (λ m. m.now) old.before) old.number.0 old.is_begun old.neighbours c.in_ok-neighbours.neighbours old.rows.items old.last c.in_ok-neighbours.ensures.heard)
