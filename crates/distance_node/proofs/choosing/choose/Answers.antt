use Rattle.std.proofs.Common.{◌≡◌, ◌+◌, ◌≤◌, length, option_map, sym, ap, subst, ◌∙◌, arith}
use Rattle.std.specs.Prelude.{option_and_then}
use Rattle.alg_model.specs.Application.{App}
use Rattle.alg_model.specs.Carriers.{carrier_of}
use Rattle.alg_model.specs.Expressions.{Expression}
use Rattle.arc_labels.specs.Images.{made_in}
use Rattle.distance_node.specs.Chosen.{IsBest, better_of, chosen_at}
use Rattle.distance_node.proofs.Arrived.{all_reported_in, best_more, best_of_all, known_may, own_is_best}
use Rattle.distance_node.proofs.Near.{near_at, signs_in}
use Rattle.distance_node.proofs.Pushing.{entry_or}
use Rattle.distance_node.proofs.Taking.{some_holds}
use Rattle.distance_node.proofs.choosing.choose.Goals as goal

pub loop-place-init : goal.loop-place-init
loop-place-init g c =
    let A = g.A.Algebra in
    let at = c.args.site.now in
    let s = at.algebra.now in
    let net = at.net.now in
    let i = at.node.0 in
    let n = c.requires.placed.is_net in
    let sig_in = signs_in (A.is_sig s) (A.sig_value s) at.net.now c.requires.algebra (g.met.A.Algebra.sig_in s) in
    let entry = entry_or at.own.now c.args.arrival.now.dest.0 c.index-site-dest.result (let count = c.requires.placed.own_count in let below = c.requires.arrival.dest_in in omega (arith, count, below)) in
    record {
      sig = c.in_ok-best.ensures.sig;
      best = own_is_best (A.sig_value s) net c.args.arrival.now.dest.0 i _ c.in_ok-best.best
          (all_reported_in (A.is_sig s) (A.sig_value s) net n i sig_in c.args.heard.now c.requires.heard.0 c.requires.heard.2 c.args.arrival.now c.requires.arrival c.requires.heard.1)
          (c.in_ok-best.ensures.value ∙ (ap (option_map (A.sig_value s)) (sym entry) ∙ c.requires.placed.own_values c.args.arrival.now.dest.0)) c.in_ok-best.ensures.place;
    }

pub own_offer-requires : goal.own_offer-requires
own_offer-requires g c =
    let at = c.args.site.now in
    let dest = c.args.arrival.now.dest.0 in
    let entry = entry_or at.own.now dest c.index-site-dest.result (let count = c.requires.placed.own_count in let below = c.requires.arrival.dest_in in omega (arith, count, below)) in
    some_holds _ _ (λ s e. c.requires.placed.own_sigs dest s (entry ∙ e))

pub offer_into-requires-clause-label : goal.offer_into-requires-clause-label
offer_into-requires-clause-label g c =
    let A = g.A.Algebra in
    let at = c.args.site.now in
    let near = near_at (A.stands_for at.algebra.now) at.net.now at.node.0 at.speakers.now c.requires.placed.near c.loop-place.place c.index-site-place.result c.loop-place-test.true in
    (near.0.label, near.2.label)

pub offer_into-requires-clause-heard : goal.offer_into-requires-clause-heard
offer_into-requires-clause-heard g c =
    let A = g.A.Algebra in
    let at = c.args.site.now in
    let s = at.algebra.now in
    let sig_in = signs_in (A.is_sig s) (A.sig_value s) at.net.now c.requires.algebra (g.met.A.Algebra.sig_in s) in
    known_may (A.is_sig s) (A.sig_value s) at.net.now c.requires.placed.is_net at.node.0 sig_in c.args.heard.now c.requires.heard.0 c.requires.heard.2 c.args.arrival.now c.requires.arrival c.requires.heard.1 _ _ c.known_at-known.result.now c.known_at-known.ensures

pub loop-place-preserved : goal.loop-place-preserved
loop-place-preserved g c =
    let A = g.A.Algebra in
    let at = c.args.site.now in
    let s = at.algebra.now in
    let net = at.net.now in
    let i = at.node.0 in
    let n = c.requires.placed.is_net in
    let k = c.loop-place.place in
    let sig_in = signs_in (A.is_sig s) (A.sig_value s) at.net.now c.requires.algebra (g.met.A.Algebra.sig_in s) in
    let near = near_at (A.stands_for s) net i at.speakers.now c.requires.placed.near k c.index-site-place.result c.loop-place-test.true in
    let made = made_in c.in_ok-made.made c.offer_into.new.place in
    let image = subst (λ (e : Expression). option_map (A.sig_value s) made ≡ option_and_then (App e near.0.label) (option_map (A.sig_value s) c.known_at-known.result.now)) c.requires.algebra (c.in_ok-made.ensures.value near.0.label near.2.label) in
    record {
      sig = c.keep_better.ensures.sig;
      best = subst (IsBest (A.sig_value s) net i _) (sym (c.keep_better.ensures.better ∙ ap (λ (e : Expression). better_of (A.sig_value s) (carrier_of e) c.loop-place.best (option_map (chosen_at (k + 1)) made)) c.requires.algebra))
          (best_more (A.is_sig s) (A.sig_value s) net n i sig_in c.args.heard.now c.requires.heard.0 c.requires.heard.2 c.args.arrival.now c.requires.arrival c.requires.heard.1
          k (length at.speakers.now) near.0 near.1 c.requires.placed.near.count c.known_at-known.result.now c.known_at-known.ensures made image c.loop-place.best c.loop-place.invariant.best);
    }

pub returns-clause-best : goal.returns-clause-best
returns-clause-best g c =
    let A = g.A.Algebra in
    let at = c.args.site.now in
    let s = at.algebra.now in
    let past : length at.speakers.now ≤ c.loop-place.place = (let l = c.loop-place-test.false in omega (arith, l)) in
    let sig_in = signs_in (A.is_sig s) (A.sig_value s) at.net.now c.requires.algebra (g.met.A.Algebra.sig_in s) in
    best_of_all (A.is_sig s) (A.sig_value s) at.net.now c.requires.placed.is_net at.node.0 sig_in c.args.heard.now c.requires.heard.0 c.requires.heard.2 c.args.arrival.now c.requires.arrival c.requires.heard.1
    c.loop-place.place (length at.speakers.now) c.requires.placed.near.count past c.loop-place.best c.loop-place.invariant.best
