use Rattle.std.proofs.Common.{◌+◌, option_map, sym, ap, subst, ◌∙◌}
use Rattle.distance_node.specs.Arrivals.{heard_reported}
use Rattle.distance_node.specs.Chosen.{IsBest, chosen_at}
use Rattle.distance_node.specs.Node.{offers}
use Rattle.distance_node.proofs.Arrived.{row_small}
use Rattle.distance_node.proofs.Bests.{made_is_there}
use Rattle.distance_node.proofs.Near.{signs_in}
use Rattle.distance_node.proofs.answering.reply_to.Goals as goal

pub move_row-requires-clause-small : goal.move_row-requires-clause-small
move_row-requires-clause-small g c =
    let A = g.A.Algebra in
    let at = c.args.site.now in
    let s = at.algebra.now in
    let net = at.net.now in
    let i = at.node.0 in
    let t = c.args.arrival.now in
    let value = A.sig_value s in
    let sig_in = signs_in (A.is_sig s) value net c.requires.algebra (g.met.A.Algebra.sig_in s) in
    let best = subst (IsBest value net i (offers net t.dest.0 i (heard_reported value net i c.args.heard.now t)))
    (sym (c.taken-next.ensures ∙ ap (option_map (chosen_at (t.place + 1))) (made_is_there c.settle_by.new.spare))) (c.in_ok-settle_by.ensures.moves c.in-Moves.is) in
    row_small (A.is_sig s) value net c.requires.placed.is_net i sig_in c.args.heard.now c.requires.heard.0 c.requires.heard.2 t c.requires.arrival c.requires.heard.1 c.taken-next.result best

pub move_row-requires-in-Lost-clause-small : goal.move_row-requires-in-Lost-clause-small
move_row-requires-in-Lost-clause-small g c =
    let A = g.A.Algebra in
    let at = c.args.site.now in
    let s = at.algebra.now in
    let net = at.net.now in
    let value = A.sig_value s in
    let sig_in = signs_in (A.is_sig s) value net c.requires.algebra (g.met.A.Algebra.sig_in s) in
    row_small (A.is_sig s) value net c.requires.placed.is_net at.node.0 sig_in c.args.heard.now c.requires.heard.0 c.requires.heard.2 c.args.arrival.now c.requires.arrival c.requires.heard.1 c.in_ok-next-in-Lost.next c.in_ok-next-in-Lost.ensures.best
