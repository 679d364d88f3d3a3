use Rattle.std.proofs.Common.{◌≡◌, length, option_map, ◌∙◌, ap, arith}
use Rattle.std.proofs.lemmas.List.{length-map}
use Rattle.net_graph.specs.Nets.{origins_of}
use Rattle.net_graph.specs.Tables.{carrier}
use Rattle.net_graph.specs.Views.{pure_origin}
use Rattle.best_first.specs.Keys.{key_of, best_of}
use Rattle.best_first.specs.Queue.{no_route}
use Rattle.best_first.proofs.Offering.{ranked_of}
use Rattle.best_first.proofs.Origins.{own_all}
use Rattle.best_first.proofs.Speaking.{nothing_open, nothing_found, own_queue, own_found}
use Rattle.best_first.proofs.search.offer_own.Goals as goal

pub loop-origin-init : goal.loop-origin-init
loop-origin-init g c =
    let value = g.A.Algebra.sig_value c.args.algebra.now in
    record {
      count = omega (arith, c.requires.clear.count);
      queue = nothing_open value (g.A.Algebra.is_sig c.args.algebra.now) (carrier c.args.net.now) c.args.search.now.best.items c.args.search.now.standing c.requires.clear.none (omega (arith, c.requires.clear.count, c.requires.clear.slots))
          (λ before none. c.ties_are_judged.ensures before (λ k m h l. none k m (omega (arith, c.requires.clear.count, c.requires.clear.slots)) (omega (arith, c.requires.clear.count, c.requires.clear.slots))));
      found = nothing_found value no_route c.args.search.now.best.items c.requires.clear.none;
    }

pub offer-requires-clause-ranked : goal.offer-requires-clause-ranked
offer-requires-clause-ranked g c =
    let value = g.A.Algebra.sig_value c.args.algebra.now in
    rw c.requires.algebra (ranked_of value (g.A.Algebra.is_sig c.args.algebra.now) (carrier c.args.net.now) no_route c.loop-origin.search.best.items c.loop-origin.search.standing c.loop-origin.invariant.queue)

pub loop-origin-preserved : goal.loop-origin-preserved
loop-origin-preserved g c =
    let value = g.A.Algebra.sig_value c.args.algebra.now in
    let net = c.args.net.now in
    let best = c.loop-origin.search.best.items in
    let t = c.loop-origin.search.standing in
    let new_t = c.offer.new.self.standing in
    let xs = c.origins_of-origin-items.result.now in
    let m = c.loop-origin.origin-index in
    let o = c.origin-item.result in
    let count : length (best_of value best) ≡ length net.nodes = omega (arith, c.loop-origin.invariant.count, length-map best (option_map (key_of value))) in
    let offered = rw c.requires.algebra at c.offer.ensures.offered in
    let ranked = rw c.requires.algebra at c.offer.ensures.ranked.ranked in
    let step = own_queue net c.requires.net c.args.dest.0 m xs o (value c.in_ok-sig_of.field-0) (best_of value best) (best_of value c.offer.new.self.best.items) t new_t
    c.origins_of-origin-items.ensures.origins c.origin-item.is c.loop-origin-test.true c.origins_of-origin-items.ensures.within c.in_ok-sig_of.ensures.value count c.loop-origin.invariant.queue.queue offered ranked in
    record {
      count = c.offer.ensures.count ∙ c.loop-origin.invariant.count;
      queue = record { sigs = c.offer.ensures.ranked.sigs; queue = step };
      found = λ k. own_found net c.requires.net c.args.dest.0 m xs o (value c.in_ok-sig_of.field-0) (best_of value best) (best_of value c.offer.new.self.best.items) t new_t
          c.origins_of-origin-items.ensures.origins c.origin-item.is c.loop-origin-test.true c.origins_of-origin-items.ensures.within c.in_ok-sig_of.ensures.value count c.loop-origin.invariant.queue.queue offered ranked k (c.loop-origin.invariant.found k);
    }

pub returns-clause-offers : goal.returns-clause-offers
returns-clause-offers g c = λ k.
    let xs = c.origins_of-origin-items.result.now in
    let all : c.loop-origin.origin-index ≡ length (origins_of c.args.net.now c.args.dest.0) =
    let e = ap length c.origins_of-origin-items.ensures.origins in
    let f = length-map xs pure_origin in
    let t = c.loop-origin-test.false in
    let u = c.loop-origin.auto.origin-index-end in
    omega arith in
    c.loop-origin.invariant.found k ∙ own_all c.args.net.now c.args.dest.0 c.loop-origin.origin-index k all
