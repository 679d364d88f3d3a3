use Rattle.std.proofs.Common.{◌≡◌, ◌+◌, true, option_map, refl, sym, ap, subst, ◌∙◌}
use Rattle.std.specs.Prelude.{option_and_then}
use Rattle.alg_model.specs.Application.{App}
use Rattle.alg_model.specs.Carriers.{carrier_of}
use Rattle.alg_model.specs.Expressions.{Expression}
use Rattle.arc_labels.specs.Images.{made_in}
use Rattle.net_graph.specs.Tables.{carrier}
use Rattle.distance_node.specs.Arrivals.{heard_reported}
use Rattle.distance_node.specs.Chosen.{IsBest, chosen_at}
use Rattle.distance_node.specs.Node.{offers}
use Rattle.distance_node.specs.Settling.{settled}
use Rattle.distance_node.proofs.Arrived.{known_may, row_moves, row_stays}
use Rattle.distance_node.proofs.Bests.{moved_is_made}
use Rattle.distance_node.proofs.Near.{near_is, signs_in}
use Rattle.distance_node.proofs.settling.settle_by.Goals as goal

pub offer_into-requires-clause-label : goal.offer_into-requires-clause-label
offer_into-requires-clause-label g c =
    let A = g.A.Algebra in
    let at = c.args.site.now in
    let arrival = c.requires.arrival in
    let near = near_is (A.stands_for at.algebra.now) at.net.now at.node.0 at.speakers.now c.requires.placed.near c.args.arrival.now.place c.index-site-arrival.result arrival.from arrival.there in
    (arrival.from.label, near.label)

pub offer_into-requires-clause-heard : goal.offer_into-requires-clause-heard
offer_into-requires-clause-heard g c =
    let A = g.A.Algebra in
    let at = c.args.site.now in
    let s = at.algebra.now in
    let sig_in = signs_in (A.is_sig s) (A.sig_value s) at.net.now c.requires.algebra (g.met.A.Algebra.sig_in s) in
    known_may (A.is_sig s) (A.sig_value s) at.net.now c.requires.placed.is_net at.node.0 sig_in c.args._heard.now c.requires.heard.0 c.requires.heard.2 c.args.arrival.now c.requires.arrival c.requires.heard.1 true 0 c.args.arrival.now.value.now refl

pub returns-clause-stays : goal.returns-clause-stays
returns-clause-stays g c stays =
    let A = g.A.Algebra in
    let at = c.args.site.now in
    let s = at.algebra.now in
    let t = c.args.arrival.now in
    let arrival = c.requires.arrival in
    let sig_in = signs_in (A.is_sig s) (A.sig_value s) at.net.now c.requires.algebra (g.met.A.Algebra.sig_in s) in
    let near = near_is (A.stands_for s) at.net.now at.node.0 at.speakers.now c.requires.placed.near t.place c.index-site-arrival.result arrival.from arrival.there in
    let made = made_in c.in_ok-made.made c.offer_into.new.place in
    let image = subst (λ (e : Expression). option_map (A.sig_value s) made ≡ option_and_then (App e arrival.from.label) (option_map (A.sig_value s) t.value.now)) c.requires.algebra (c.in_ok-made.ensures.value arrival.from.label near.label) in
    let is = ap (λ (e : Expression). settled (A.sig_value s) (carrier_of e) c.args.before.now (t.place + 1) made) (sym c.requires.algebra) ∙ (sym c.settle.ensures ∙ stays) in
    row_stays (A.is_sig s) (A.sig_value s) at.net.now c.requires.placed.is_net at.node.0 sig_in c.args._heard.now c.requires.heard.0 c.requires.heard.2 t arrival c.requires.heard.1 (t.place + 1) refl made image c.args.before.now c.requires.best is

pub returns-clause-moves : goal.returns-clause-moves
returns-clause-moves g c moves =
    let A = g.A.Algebra in
    let at = c.args.site.now in
    let s = at.algebra.now in
    let t = c.args.arrival.now in
    let arrival = c.requires.arrival in
    let value = A.sig_value s in
    let place = c.offer_into.new.place in
    let sig_in = signs_in (A.is_sig s) value at.net.now c.requires.algebra (g.met.A.Algebra.sig_in s) in
    let near = near_is (A.stands_for s) at.net.now at.node.0 at.speakers.now c.requires.placed.near t.place c.index-site-arrival.result arrival.from arrival.there in
    let made = made_in c.in_ok-made.made place in
    let image = subst (λ (e : Expression). option_map value made ≡ option_and_then (App e arrival.from.label) (option_map value t.value.now)) c.requires.algebra (c.in_ok-made.ensures.value arrival.from.label near.label) in
    let is = ap (λ (e : Expression). settled value (carrier_of e) c.args.before.now (t.place + 1) made) (sym c.requires.algebra) ∙ (sym c.settle.ensures ∙ moves) in
    subst (λ o. IsBest value at.net.now at.node.0 (offers at.net.now t.dest.0 at.node.0 (heard_reported value at.net.now at.node.0 c.args._heard.now t)) (option_map (chosen_at (t.place + 1)) o))
    (moved_is_made value (carrier at.net.now) c.args.before.now (t.place + 1) c.in_ok-made.made place is)
    (row_moves (A.is_sig s) value at.net.now c.requires.placed.is_net at.node.0 sig_in c.args._heard.now c.requires.heard.0 c.requires.heard.2 t arrival c.requires.heard.1 (t.place + 1) refl made image c.args.before.now c.requires.best is)
