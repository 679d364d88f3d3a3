use Rattle.std.proofs.Common.{◌≡◌, Some, None, subst, sym, ap, ◌∙◌}
use Rattle.std.specs.Prelude.{option_and_then, option_map}
use Rattle.alg_model.specs.Carriers.{carrier_of}
use Rattle.net_graph.specs.Routes.{PureRoute}
use Rattle.path_vector.specs.Known.{better_of}
use Rattle.path_vector.specs.Node.{offer_by}
use Rattle.vector_block.specs.Stores.{chosen_route, pure_store, route_of}
use Rattle.vector_block.proofs.Offers.{not_placed}
use Rattle.vector_block.proofs.Chooses.{all_made, better_next, own_best, same_next, speaker_read}
use Rattle.vector_block.proofs.choose.choose.Goals as goal
use Rattle.vector_block.proofs.choose.choose.Goals.{in-Some+in_ok-offer_into+then-branch, in-Some+in_ok-offer_into+else-branch, in_default}

pub loop-place-init : goal.loop-place-init
loop-place-init g c =
    let A = g.A.Algebra in
    let value = A.sig_value c.args.site.now.algebra.now in
    record {
      may = c.in_ok-best.ensures.may;
      best = c.in_ok-best.ensures.own ∙ own_best c.args.site.now.net.now c.requires.net (pure_store value c.args.store.now) c.args.node.0 c.args.dest.0 c.requires.known;
    }

pub heard-requires-clause-arc : goal.heard-requires-clause-arc
heard-requires-clause-arc g c =
    let there = speaker_read (g.A.Algebra.stands_for c.args.site.now.algebra.now) c.args.site.now.net.now c.requires.net c.args.node.0 c.loop-place.place c.args.speakers.now c.index-speakers-place.result c.requires.speakers c.loop-place-test.true c.index-speakers-place.is in
    rw there.2.arc there.1.inside

pub offer_into-requires-clause-arc : goal.offer_into-requires-clause-arc
offer_into-requires-clause-arc g c =
    let A = g.A.Algebra in
    let net = c.args.site.now.net.now in
    let value = A.sig_value c.args.site.now.algebra.now in
    let there = speaker_read (A.stands_for c.args.site.now.algebra.now) net c.requires.net c.args.node.0 c.loop-place.place c.args.speakers.now c.index-speakers-place.result c.requires.speakers c.loop-place-test.true c.index-speakers-place.is in
    let heard = (pure_store value c.args.store.now).heard in
    let r = route_of value c.args.store.now.paths c.in-Some.route.now in
    (there.0, there.2.label, c.requires.known there.0 r there.1.stands there.1.tail (subst (λ z. heard z c.args.dest.0 ≡ Some r) there.2.arc (sym c.in-Some.ensures.route)))

pub loop-place-preserved : goal.loop-place-preserved
loop-place-preserved g c =
    let A = g.A.Algebra in
    let net = c.args.site.now.net.now in
    let st = c.args.store.now in
    let i = c.args.node.0 in
    let k = c.loop-place.place in
    let value = A.sig_value c.args.site.now.algebra.now in
    let there = speaker_read (A.stands_for c.args.site.now.algebra.now) net c.requires.net i k c.args.speakers.now c.index-speakers-place.result c.requires.speakers c.loop-place-test.true c.index-speakers-place.is in
    let routed = option_map {U = PureRoute} (chosen_route value st.paths i) in
    let same = same_next net c.requires.net (pure_store value st) i c.args.dest.0 c.requires.known k there.0 there.1 c.index-speakers-place.result.arc.0 there.2.arc (routed c.loop-place.best) c.loop-place.invariant.best in
    let arc = c.index-speakers-place.result.arc.0 in
    let better = better_next net c.requires.net (pure_store value st) i c.args.dest.0 c.requires.known k there.0 there.1 arc there.2.arc (routed c.loop-place.best) c.loop-place.invariant.best in
    elim c.match-heard.branch [
      | in-Some+in_ok-offer_into+then-branch w ↦
          let r = route_of value st.paths w.in-Some.route.now in
          let place = w.offer_into.new.place in
          let by_path = option_map {U = PureRoute} (λ sig. chosen_route value st.paths i (record { sig = sig; rest = Some w.in-Some.route.now.path })) in
          let offer : by_path place ≡ offer_by net there.0 r = ap by_path (sym (all_made w.in_ok-offer_into.field-0 place w.if-branch.true)) ∙ w.in_ok-offer_into.ensures.offer there.0 there.1.tail there.2.label in
          record {
            may = rw w.best-is w.keep_better.ensures.may;
            best = ap routed w.best-is ∙ w.keep_better.ensures.better i
                ∙ ap (λ z. better_of (carrier_of z) (routed c.loop-place.best) (by_path place)) c.requires.algebra
                ∙ better r (by_path place) w.in-Some.ensures.route offer;
          }
      | in-Some+in_ok-offer_into+else-branch w ↦
          let r = route_of value st.paths w.in-Some.route.now in
          let place = w.offer_into.new.place in
          let by_path = option_map {U = PureRoute} (λ sig. chosen_route value st.paths i (record { sig = sig; rest = Some w.in-Some.route.now.path })) in
          let nothing : offer_by net there.0 r ≡ None = sym (w.in_ok-offer_into.ensures.offer there.0 there.1.tail there.2.label) ∙ ap by_path (not_placed w.in_ok-offer_into.field-0 place w.if-branch.false) in
          record {
            may = rw w.best-is c.loop-place.invariant.may;
            best = ap routed w.best-is ∙ same (ap (option_and_then (offer_by net there.0)) (sym w.in-Some.ensures.route) ∙ nothing);
          }
      | in_default w ↦ record {
        may = rw w.best-is c.loop-place.invariant.may;
        best = ap routed w.best-is ∙ same (ap (option_and_then (offer_by net there.0)) (sym c.heard.ensures.route ∙ ap (option_map (λ r. route_of value st.paths r.now)) w.in_default.is));
      }
    ]
