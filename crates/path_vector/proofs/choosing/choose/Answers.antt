use Rattle.std.proofs.Common.{◌≡◌, ◌+◌, ◌<◌, ◌≤◌, suc, subst, length, Some, sym, ap, refl, ◌∙◌, arith}
use Rattle.path_vector.specs.Items.{item_there}
use Rattle.path_vector.specs.Known.{known_route, offered_route, placed, better_of}
use Rattle.std.specs.Prelude.{option_and_then, option_map}
use Rattle.alg_model.specs.Carriers.{carrier_of}
use Rattle.net_graph.specs.Routes.{PureRoute}
use Rattle.net_graph.specs.Tables.{carrier}
use Rattle.path_vector.specs.Node.{best_of, offer_by}
use Rattle.path_vector.proofs.Choices.{firsts, own_best, chosen_at_end, best_next, may_offer, neighbour_at, tail_is}
use Rattle.path_vector.proofs.choosing.choose.Goals as goal

pub loop-place-init : goal.loop-place-init
loop-place-init g c =
    let A = g.A.Algebra in
    let s = c.args.site.now.algebra.now in
    record {
      sig = c.in_ok-best.ensures.sig;
      best = c.in_ok-best.ensures.offer c.args.site.now.node.0
          ∙ own_best (A.stands_for s) (A.is_sig s) (A.sig_value s) c.args.site.now.net.now c.requires.net c.args.site.now.node.0 c.args.dest.0 c.args.neighbours.now c.requires.neighbours c.args.own.now c.requires.origin;
    }

pub route-known-requires : goal.route-known-requires
route-known-requires g c =
    let A = g.A.Algebra in
    let s = c.args.site.now.algebra.now in
    let net = c.args.site.now.net.now in
    let ns = c.args.neighbours.now in
    let k = c.loop-place.place in
    let m = item_there ns k (rw c.count-place-end.ensures at c.loop-place-test.true) in
    let there = neighbour_at (A.stands_for s) (A.is_sig s) (A.sig_value s) net _ ns k m.0 c.requires.neighbours m.1 in
    (m.0, m.1, subst (λ z. c.args.dest.0 < z) (sym there.2.count) c.requires.dest)

pub offer_into-requires-clause-said : goal.offer_into-requires-clause-said
offer_into-requires-clause-said g c =
    let A = g.A.Algebra in
    let s = c.args.site.now.algebra.now in
    let net = c.args.site.now.net.now in
    let ns = c.args.neighbours.now in
    let k = c.loop-place.place in
    let m = item_there ns k (rw c.count-place-end.ensures at c.loop-place-test.true) in
    let there = neighbour_at (A.stands_for s) (A.is_sig s) (A.sig_value s) net _ ns k m.0 c.requires.neighbours m.1 in
    (there.0, may_offer (A.stands_for s) (A.is_sig s) (A.sig_value s) net there.0 m.0 c.args.dest.0 _ _ there.2 (c.neighbour.ensures m.0 m.1).1 (c.route-known.ensures m.0 m.1))

pub loop-place-preserved : goal.loop-place-preserved
loop-place-preserved g c =
    let A = g.A.Algebra in
    let s = c.args.site.now.algebra.now in
    let net = c.args.site.now.net.now in
    let ns = c.args.neighbours.now in
    let k = c.loop-place.place in
    let m = item_there ns k (rw c.count-place-end.ensures at c.loop-place-test.true) in
    let there = neighbour_at (A.stands_for s) (A.is_sig s) (A.sig_value s) net _ ns k m.0 c.requires.neighbours m.1 in
    let i = c.args.site.now.node.0 in
    let may = may_offer (A.stands_for s) (A.is_sig s) (A.sig_value s) net there.0 m.0 c.args.dest.0 _ _ there.2 (c.neighbour.ensures m.0 m.1).1 (c.route-known.ensures m.0 m.1) in
    let offered = placed c.in_ok-after.after c.offer_into.new.place in
    let offer = c.in_ok-after.ensures.offer there.0 (tail_is net i k there.0 there.1) may
    ∙ ap (λ z. option_and_then (offer_by net there.0) (option_map (known_route (A.sig_value s)) z)) (sym (c.route-known.ensures m.0 m.1)) in
    let next : suc k ≡ k + 1 = omega arith in
    let routed = option_map {U = PureRoute} (offered_route (A.sig_value s) i) in
    record {
      sig = c.keep_better.ensures.sig;
      best = c.keep_better.ensures.better i
          ∙ ap (λ z. better_of (carrier_of z) (routed c.loop-place.best) (routed offered)) c.requires.algebra
          ∙ ap (λ z. better_of (carrier net) z (routed offered)) c.loop-place.invariant.best
          ∙ ap (λ z. better_of (carrier net) (best_of (carrier net) (firsts (A.sig_value s) net i c.args.dest.0 ns k)) z) offer
          ∙ sym (best_next (A.stands_for s) (A.is_sig s) (A.sig_value s) net c.requires.net i c.args.dest.0 ns c.requires.neighbours k there.0 m.0 there.1 m.1)
          ∙ ap (λ z. best_of (carrier net) (firsts (A.sig_value s) net i c.args.dest.0 ns z)) next;
    }

pub returns-in_ok-taken_by-in-Some-clause-choice : goal.returns-in_ok-taken_by-in-Some-clause-choice
returns-in_ok-taken_by-in-Some-clause-choice g c =
    let A = g.A.Algebra in
    let s = c.args.site.now.algebra.now in
    let ns = c.args.neighbours.now in
    let k = c.loop-place.place in
    let past : length ns ≤ k = rw c.count-place-end.ensures at c.loop-place-test.false in
    let taken : known_route (A.sig_value s) c.in_ok-taken_by-in-Some.field-0 ≡ offered_route (A.sig_value s) c.args.site.now.node.0 c.in-Some.offer =
    rw (c.in_ok-taken_by-in-Some.ensures.sig, c.in_ok-taken_by-in-Some.ensures.path) refl in
    ap (λ z. Some z) taken ∙ rw c.in-Some.is at c.loop-place.invariant.best
    ∙ chosen_at_end (A.stands_for s) (A.is_sig s) (A.sig_value s) c.args.site.now.net.now c.requires.net c.args.site.now.node.0 c.args.dest.0 ns c.requires.neighbours k past

pub returns-in-None-clause-choice : goal.returns-in-None-clause-choice
returns-in-None-clause-choice g c =
    let A = g.A.Algebra in
    let s = c.args.site.now.algebra.now in
    let ns = c.args.neighbours.now in
    let k = c.loop-place.place in
    let past : length ns ≤ k = rw c.count-place-end.ensures at c.loop-place-test.false in
    rw c.in-None.is at c.loop-place.invariant.best
    ∙ chosen_at_end (A.stands_for s) (A.is_sig s) (A.sig_value s) c.args.site.now.net.now c.requires.net c.args.site.now.node.0 c.args.dest.0 ns c.requires.neighbours k past
