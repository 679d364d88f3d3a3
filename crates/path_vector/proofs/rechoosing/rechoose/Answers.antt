use Rattle.std.proofs.Common.{◌≡◌, false, Option, Some, subst, refl, sym, ap, ◌∙◌}
use Rattle.std.specs.Prelude.{IfOk, option_map, option_and_then}
use Rattle.std.proofs.lemmas.Option.{slice_get_within}
use Rattle.net_graph.specs.Nets.{PureArc}
use Rattle.net_graph.specs.Views.{pure_arc}
use Rattle.net_graph.specs.Routes.{PureRoute}
use Rattle.path_vector.specs.Changes.{IsChange}
use Rattle.path_vector.specs.Known.{known_route, offered_route, placed, heard_by}
use Rattle.path_vector.specs.Node.{offer_by}
use Rattle.path_vector.specs.Settling.{goes_by}
use Rattle.path_vector.proofs.Choices.{may_offer}
use Rattle.path_vector.proofs.Hearings.{heard_there, neighbour_is, neighbour_there}
use Rattle.path_vector.proofs.Rechoosings.{none_chosen, offer_chosen, row_chosen}
use Rattle.path_vector.proofs.rechoosing.rechoose.Goals as goal

pub arc-requires : goal.arc-requires
arc-requires g c = slice_get_within c.args.site.now.net.now.arcs c.args.arrival.now.arc.0 c.requires.settles.0 c.requires.settles.1

pub neighbour-requires : goal.neighbour-requires
neighbour-requires g c =
    let A = g.A.Algebra in
    let s = c.args.site.now.algebra.now in
    let ns = c.args.neighbours.now in
    let there = neighbour_there (A.stands_for s) (A.is_sig s) (A.sig_value s) c.args.site.now.net.now c.args.site.now.node.0 c.requires.net ns c.requires.neighbours c.args.arrival.now.arc.0 c.place_of-place.result c.args.arrival.now.update.now.dest.0
    c.requires.settles.0 c.requires.settles.1 c.requires.settles.2 c.place_of-place.ensures c.requires.dest in
    slice_get_within ns c.place_of-place.result there.0 there.1

pub route-known-requires : goal.route-known-requires
route-known-requires g c =
    let A = g.A.Algebra in
    let s = c.args.site.now.algebra.now in
    let ns = c.args.neighbours.now in
    let there = neighbour_there (A.stands_for s) (A.is_sig s) (A.sig_value s) c.args.site.now.net.now c.args.site.now.node.0 c.requires.net ns c.requires.neighbours c.args.arrival.now.arc.0 c.place_of-place.result c.args.arrival.now.update.now.dest.0
    c.requires.settles.0 c.requires.settles.1 c.requires.settles.2 c.place_of-place.ensures c.requires.dest in
    there

pub offer_into-requires-clause-said : goal.offer_into-requires-clause-said
offer_into-requires-clause-said g c =
    let A = g.A.Algebra in
    let s = c.args.site.now.algebra.now in
    let ns = c.args.neighbours.now in
    let there = neighbour_there (A.stands_for s) (A.is_sig s) (A.sig_value s) c.args.site.now.net.now c.args.site.now.node.0 c.requires.net ns c.requires.neighbours c.args.arrival.now.arc.0 c.place_of-place.result c.args.arrival.now.update.now.dest.0
    c.requires.settles.0 c.requires.settles.1 c.requires.settles.2 c.place_of-place.ensures c.requires.dest in
    let m = there.0 in
    let is_it = neighbour_is (A.stands_for s) (A.is_sig s) (A.sig_value s) c.args.site.now.net.now c.args.site.now.node.0 c.requires.net ns c.requires.neighbours c.args.arrival.now.arc.0 c.place_of-place.result c.args.arrival.now.update.now.dest.0
    c.requires.settles.0 c.requires.settles.1 c.requires.settles.2 c.place_of-place.ensures c.requires.dest m there.1 in
    (c.requires.settles.0, may_offer (A.stands_for s) (A.is_sig s) (A.sig_value s) c.args.site.now.net.now c.requires.settles.0 m c.args.arrival.now.update.now.dest.0 _ _ is_it (c.neighbour.ensures m there.1).1 (c.route-known.ensures m there.1))

pub returns-then-not-goes_by-clause-change : goal.returns-then-not-goes_by-clause-change
returns-then-not-goes_by-clause-change g c =
    let A = g.A.Algebra in
    let s = c.args.site.now.algebra.now in
    let ns = c.args.neighbours.now in
    let there = neighbour_there (A.stands_for s) (A.is_sig s) (A.sig_value s) c.args.site.now.net.now c.args.site.now.node.0 c.requires.net ns c.requires.neighbours c.args.arrival.now.arc.0 c.place_of-place.result c.args.arrival.now.update.now.dest.0
    c.requires.settles.0 c.requires.settles.1 c.requires.settles.2 c.place_of-place.ensures c.requires.dest in
    let m = there.0 in
    let a = c.requires.settles.0 in
    let value = A.sig_value s in
    let net = c.args.site.now.net.now in
    let i = c.args.site.now.node.0 in
    let dest = c.args.arrival.now.update.now.dest.0 in
    let heard = heard_by value ns in
    let row : Option PureRoute = option_map (known_route value) c.args.before.now in
    let offer : Option PureRoute = option_map (offered_route value i) (placed c.in_ok-after_offer.after_offer c.offer_into.new.place) in
    let is_it = neighbour_is (A.stands_for s) (A.is_sig s) (A.sig_value s) c.args.site.now.net.now c.args.site.now.node.0 c.requires.net ns c.requires.neighbours c.args.arrival.now.arc.0 c.place_of-place.result c.args.arrival.now.update.now.dest.0
    c.requires.settles.0 c.requires.settles.1 c.requires.settles.2 c.place_of-place.ensures c.requires.dest m there.1 in
    let may = may_offer (A.stands_for s) (A.is_sig s) (A.sig_value s) c.args.site.now.net.now c.requires.settles.0 m c.args.arrival.now.update.now.dest.0 _ _ is_it (c.neighbour.ensures m there.1).1 (c.route-known.ensures m there.1) in
    let offered : offer ≡ option_and_then (offer_by net a) (heard a.id dest) = c.in_ok-after_offer.ensures.offer a c.requires.settles.2 may
    ∙ ap (option_and_then (offer_by net a)) (ap (option_map (known_route value)) (sym (c.route-known.ensures m there.1)) ∙ sym (heard_there (A.stands_for s) (A.is_sig s) (A.sig_value s) c.args.site.now.net.now c.args.site.now.node.0 c.requires.net ns c.requires.neighbours c.args.arrival.now.arc.0 c.place_of-place.result c.args.arrival.now.update.now.dest.0
    c.requires.settles.0 c.requires.settles.1 c.requires.settles.2 c.place_of-place.ensures c.requires.dest m there.1)) in
    let worse = rw c.requires.algebra at (sym c.is_worse.ensures ∙ c.if-is_worse.true) in
    let head : c.arc.result.head.0 ≡ a.head = (let e = sym c.arc.ensures.arc ∙ c.requires.settles.1 in ap (λ (z : PureArc). z.head) (let f : pure_arc c.arc.result ≡ a = cc in f)) in
    let other : goes_by a.head row ≡ false = ap (λ z. goes_by z row) (sym head) ∙ (sym c.goes_by.ensures ∙ c.if-not-goes_by.true) in
    row_chosen net dest i heard a row offer c.requires.settles.3 offered worse other

pub returns-in_default-clause-change : goal.returns-in_default-clause-change
returns-in_default-clause-change g c =
    let A = g.A.Algebra in
    let s = c.args.site.now.algebra.now in
    let ns = c.args.neighbours.now in
    let there = neighbour_there (A.stands_for s) (A.is_sig s) (A.sig_value s) c.args.site.now.net.now c.args.site.now.node.0 c.requires.net ns c.requires.neighbours c.args.arrival.now.arc.0 c.place_of-place.result c.args.arrival.now.update.now.dest.0
    c.requires.settles.0 c.requires.settles.1 c.requires.settles.2 c.place_of-place.ensures c.requires.dest in
    let m = there.0 in
    let a = c.requires.settles.0 in
    let value = A.sig_value s in
    let net = c.args.site.now.net.now in
    let i = c.args.site.now.node.0 in
    let dest = c.args.arrival.now.update.now.dest.0 in
    let heard = heard_by value ns in
    let row : Option PureRoute = option_map (known_route value) c.args.before.now in
    let offer : Option PureRoute = option_map (offered_route value i) (placed c.in_ok-after_offer.after_offer c.offer_into.new.place) in
    let is_it = neighbour_is (A.stands_for s) (A.is_sig s) (A.sig_value s) c.args.site.now.net.now c.args.site.now.node.0 c.requires.net ns c.requires.neighbours c.args.arrival.now.arc.0 c.place_of-place.result c.args.arrival.now.update.now.dest.0
    c.requires.settles.0 c.requires.settles.1 c.requires.settles.2 c.place_of-place.ensures c.requires.dest m there.1 in
    let may = may_offer (A.stands_for s) (A.is_sig s) (A.sig_value s) c.args.site.now.net.now c.requires.settles.0 m c.args.arrival.now.update.now.dest.0 _ _ is_it (c.neighbour.ensures m there.1).1 (c.route-known.ensures m there.1) in
    let offered : offer ≡ option_and_then (offer_by net a) (heard a.id dest) = c.in_ok-after_offer.ensures.offer a c.requires.settles.2 may
    ∙ ap (option_and_then (offer_by net a)) (ap (option_map (known_route value)) (sym (c.route-known.ensures m there.1)) ∙ sym (heard_there (A.stands_for s) (A.is_sig s) (A.sig_value s) c.args.site.now.net.now c.args.site.now.node.0 c.requires.net ns c.requires.neighbours c.args.arrival.now.arc.0 c.place_of-place.result c.args.arrival.now.update.now.dest.0
    c.requires.settles.0 c.requires.settles.1 c.requires.settles.2 c.place_of-place.ensures c.requires.dest m there.1)) in
    let worse = rw c.requires.algebra at (sym c.is_worse.ensures ∙ c.if-is_worse.false) in
    none_chosen net dest i heard a row offer c.requires.settles.3 offered (ap (option_map (offered_route value i)) (sym c.take_offer.ensures ∙ c.in_default.is)) worse

pub returns-clause-change : goal.returns-clause-change
returns-clause-change g c =
    let A = g.A.Algebra in
    let s = c.args.site.now.algebra.now in
    let ns = c.args.neighbours.now in
    let there = neighbour_there (A.stands_for s) (A.is_sig s) (A.sig_value s) c.args.site.now.net.now c.args.site.now.node.0 c.requires.net ns c.requires.neighbours c.args.arrival.now.arc.0 c.place_of-place.result c.args.arrival.now.update.now.dest.0
    c.requires.settles.0 c.requires.settles.1 c.requires.settles.2 c.place_of-place.ensures c.requires.dest in
    let m = there.0 in
    let a = c.requires.settles.0 in
    let value = A.sig_value s in
    let net = c.args.site.now.net.now in
    let i = c.args.site.now.node.0 in
    let dest = c.args.arrival.now.update.now.dest.0 in
    let heard = heard_by value ns in
    let row : Option PureRoute = option_map (known_route value) c.args.before.now in
    let offer : Option PureRoute = option_map (offered_route value i) (placed c.in_ok-after_offer.after_offer c.offer_into.new.place) in
    let is_it = neighbour_is (A.stands_for s) (A.is_sig s) (A.sig_value s) c.args.site.now.net.now c.args.site.now.node.0 c.requires.net ns c.requires.neighbours c.args.arrival.now.arc.0 c.place_of-place.result c.args.arrival.now.update.now.dest.0
    c.requires.settles.0 c.requires.settles.1 c.requires.settles.2 c.place_of-place.ensures c.requires.dest m there.1 in
    let may = may_offer (A.stands_for s) (A.is_sig s) (A.sig_value s) c.args.site.now.net.now c.requires.settles.0 m c.args.arrival.now.update.now.dest.0 _ _ is_it (c.neighbour.ensures m there.1).1 (c.route-known.ensures m there.1) in
    let offered : offer ≡ option_and_then (offer_by net a) (heard a.id dest) = c.in_ok-after_offer.ensures.offer a c.requires.settles.2 may
    ∙ ap (option_and_then (offer_by net a)) (ap (option_map (known_route value)) (sym (c.route-known.ensures m there.1)) ∙ sym (heard_there (A.stands_for s) (A.is_sig s) (A.sig_value s) c.args.site.now.net.now c.args.site.now.node.0 c.requires.net ns c.requires.neighbours c.args.arrival.now.arc.0 c.place_of-place.result c.args.arrival.now.update.now.dest.0
    c.requires.settles.0 c.requires.settles.1 c.requires.settles.2 c.place_of-place.ensures c.requires.dest m there.1)) in
    let worse = rw c.requires.algebra at (sym c.is_worse.ensures ∙ c.if-is_worse.false) in
    let taken : option_map (known_route value) (Some c.in_ok-taken_by.field-0) ≡ offer = rw (c.in_ok-taken_by.ensures.sig, c.in_ok-taken_by.ensures.path, sym c.take_offer.ensures ∙ c.in-Some.is) refl in
    subst (λ z. IfOk c.change_of-2.result (IsChange value net i dest c.args.arrival.now.clock row z)) (taken ∙ sym (offer_chosen net dest i heard a row offer c.requires.settles.3 offered worse)) c.change_of-2.ensures.change
