use Rattle.std.proofs.Common.{◌≡◌, ◌<◌, Some, None, length, true, is_some, option_map, refl, sym, ap, ◌∙◌, ◌+◌, arith}
use Rattle.std.proofs.lemmas.List.{length-map}
use Rattle.std.proofs.lemmas.Option.{slice_get_read}
use Rattle.net_graph.specs.Nets.{arcs_to}
use Rattle.net_graph.specs.Tables.{carrier}
use Rattle.best_first.specs.declared.route.OpenPlace.{OpenPlace}
use Rattle.best_first.specs.Found.{found-map, found_at}
use Rattle.best_first.specs.State.{CanSpeak, relaxed}
use Rattle.best_first.specs.Keys.{key_of, best_of}
use Rattle.best_first.specs.Fixed.{fixed_route, reported_by, open_routes}
use Rattle.best_first.specs.Numbered.{lent_fixed}
use Rattle.best_first.proofs.Places.{mapped_none, mapped_some}
use Rattle.best_first.proofs.Listeners.{heard_by, listener_within, heard_all, step_over}
use Rattle.best_first.proofs.Offering.{ranked_of}
use Rattle.best_first.proofs.Speaking.{spoken_queue, spoken_found}
use Rattle.best_first.proofs.search.relax.Goals as goal
use Rattle.best_first.proofs.search.relax.Goals.{then-not-is_fixed+in_ok-offer_image, else-not-is_fixed}

pub is_fixed-requires : goal.is_fixed-requires
is_fixed-requires g c =
    let listeners = c.of-listener-items.result.now in
    let listener = c.listener-item.result in
    let m = c.loop-listener.listener-index in
    let read = slice_get_read listeners (length listeners) m listener refl c.loop-listener-test.true c.listener-item.is in
    let by = heard_by (g.A.Algebra.stands_for c.args.algebra.now) c.args._net.now c.requires.net c.args.place.node.0 m listeners listener
    (c.requires.labels.each c.args.place.node.0 listeners c.of-listener-items.ensures) read in
    let within = listener_within (g.A.Algebra.stands_for c.args.algebra.now) c.args._net.now c.args.place.node.0 m listener by in
    let n = c.requires.rows in
    omega arith

pub offer_image-requires-clause-node : goal.offer_image-requires-clause-node
offer_image-requires-clause-node g c =
    let listeners = c.of-listener-items.result.now in
    let listener = c.listener-item.result in
    let m = c.loop-listener.listener-index in
    let read = slice_get_read listeners (length listeners) m listener refl c.loop-listener-test.true c.listener-item.is in
    let by = heard_by (g.A.Algebra.stands_for c.args.algebra.now) c.args._net.now c.requires.net c.args.place.node.0 m listeners listener
    (c.requires.labels.each c.args.place.node.0 listeners c.of-listener-items.ensures) read in
    let within = listener_within (g.A.Algebra.stands_for c.args.algebra.now) c.args._net.now c.args.place.node.0 m listener by in
    let n = c.loop-listener.invariant.count in
    omega arith

pub offer_image-requires-clause-lab : goal.offer_image-requires-clause-lab
offer_image-requires-clause-lab g c =
    let listeners = c.of-listener-items.result.now in
    let listener = c.listener-item.result in
    let m = c.loop-listener.listener-index in
    let read = slice_get_read listeners (length listeners) m listener refl c.loop-listener-test.true c.listener-item.is in
    let by = heard_by (g.A.Algebra.stands_for c.args.algebra.now) c.args._net.now c.requires.net c.args.place.node.0 m listeners listener
    (c.requires.labels.each c.args.place.node.0 listeners c.of-listener-items.ensures) read in
    (by.arc.label, by.is_listener.label)

pub offer_image-requires-clause-small : goal.offer_image-requires-clause-small
offer_image-requires-clause-small g c =
    let value = g.A.Algebra.sig_value c.args.algebra.now in
    let rows = c.args.fixed.now.rows in
    let paths = c.args.fixed.now.paths in
    let reported : reported_by value paths rows c.args.place.node.0 ≡ Some (fixed_route value paths (lent_fixed c.in-Some.next)) = found-map (fixed_route value paths) rows c.args.place.node.0 ∙ ap (option_map (fixed_route value paths)) (sym (rw c.in-Some.is at c.route.ensures)) in
    let can : CanSpeak c.args._net.now c.args.place.node.0 (fixed_route value paths (lent_fixed c.in-Some.next)) = rw reported at c.requires.next in
    can.small

pub offer_image-requires-clause-ranked : goal.offer_image-requires-clause-ranked
offer_image-requires-clause-ranked g c =
    let value = g.A.Algebra.sig_value c.args.algebra.now in
    rw c.requires.algebra (ranked_of value (g.A.Algebra.is_sig c.args.algebra.now) (carrier c.args._net.now) (reported_by value c.args.fixed.now.paths c.args.fixed.now.rows) c.loop-listener.search.best.items c.loop-listener.search.standing c.loop-listener.invariant.queue)

pub loop-listener-preserved : goal.loop-listener-preserved
loop-listener-preserved g c =
    let net = c.args._net.now in
    let node = c.args.place.node.0 in
    let value = g.A.Algebra.sig_value c.args.algebra.now in
    let rows = c.args.fixed.now.rows in
    let paths = c.args.fixed.now.paths in
    let best = c.loop-listener.search.best.items in
    let t = c.loop-listener.search.standing in
    let r = fixed_route value paths (lent_fixed c.in-Some.next) in
    let reported : reported_by value paths rows node ≡ Some r = found-map (fixed_route value paths) rows node ∙ ap (option_map (fixed_route value paths)) (sym (rw c.in-Some.is at c.route.ensures)) in
    let can : CanSpeak net node r = rw reported at c.requires.next in
    let listeners = c.of-listener-items.result.now in
    let listener = c.listener-item.result in
    let m = c.loop-listener.listener-index in
    let read = slice_get_read listeners (length listeners) m listener refl c.loop-listener-test.true c.listener-item.is in
    let by = heard_by (g.A.Algebra.stands_for c.args.algebra.now) net c.requires.net node m listeners listener
    (c.requires.labels.each node listeners c.of-listener-items.ensures) read in
    let arc = by.arc in
    let heard = by.heard in
    let tail = arc.tail in
    let tail_in = heard.facts.tail_in in
    let row : reported_by value paths rows tail ≡ option_map (fixed_route value paths) (found_at rows tail) = found-map (fixed_route value paths) rows tail in
    let is : c.is_fixed.result ≡ is_some (found_at rows tail) = rw by.is_listener.node at c.is_fixed.ensures in
    elim c.if-not-is_fixed.branch [
      | then-not-is_fixed+in_ok-offer_image w ↦
          let none : reported_by value paths rows tail ≡ None = row ∙ mapped_none (fixed_route value paths) (found_at rows tail) (sym is ∙ grind (arith, w.if-not-is_fixed.true)) in
          let place : OpenPlace = record { size = c.args.place.size + 1; node = listener.node; next = c.args.place.node } in
          let size : c.args.place.size + 1 ≡ length r.path + 1 = (let s : c.args.place.size ≡ length r.path = rw reported at c.requires.size in ap (λ n. n + 1) s) in
          let offered = rw c.requires.algebra at (w.in_ok-offer_image.ensures.offered arc.label by.is_listener.label) in
          let new_best = w.offer_image.new.search.best.items in
          let new_t = w.offer_image.new.search.standing in
          let ranked = rw c.requires.algebra at w.in_ok-offer_image.ensures.ranked.ranked in
          let tail_within : tail < length (best_of value best) = omega (arith, tail_in, c.loop-listener.invariant.count, length-map best (option_map (key_of value))) in
          rw w.search-is record {
            count = w.in_ok-offer_image.ensures.count ∙ c.loop-listener.invariant.count;
            queue = record {
              sigs = w.in_ok-offer_image.ensures.ranked.sigs;
              queue = spoken_queue net c.requires.net (reported_by value paths rows) node m r by.arc place (best_of value best) (best_of value new_best) t new_t
                  reported can heard tail_within none size by.is_listener.node refl c.loop-listener.invariant.queue.queue offered ranked;
            };
            found = λ k.
                let old = rw reported at (c.loop-listener.invariant.found k) in
                rw reported (spoken_found net c.requires.net (reported_by value paths rows) node m r by.arc place (best_of value best) (best_of value new_best) t new_t
                reported can heard tail_within none size by.is_listener.node refl c.loop-listener.invariant.queue.queue offered ranked (found_at (open_routes value paths rows c.args.search.now.best.items) k) k old);
          }
      | else-not-is_fixed w ↦
          let some : is_some (reported_by value paths rows tail) ≡ true = ap is_some row ∙ mapped_some (fixed_route value paths) (found_at rows tail) (sym is ∙ grind (arith, w.if-not-is_fixed.false)) in
          rw w.search-is record {
            count = c.loop-listener.invariant.count;
            queue = c.loop-listener.invariant.queue;
            found = λ k.
                let old = rw reported at (c.loop-listener.invariant.found k) in
                rw reported (old ∙ step_over net node r m k by.arc (reported_by value paths rows k) (found_at (open_routes value paths rows c.args.search.now.best.items) k) heard (λ e. rw e at some));
          }
    ]

pub returns-clause-routes : goal.returns-clause-routes
returns-clause-routes g c = λ k.
    let net = c.args._net.now in
    let node = c.args.place.node.0 in
    let value = g.A.Algebra.sig_value c.args.algebra.now in
    let rows = c.args.fixed.now.rows in
    let paths = c.args.fixed.now.paths in
    let r = fixed_route value paths (lent_fixed c.in-Some.next) in
    let reported : reported_by value paths rows node ≡ Some r = found-map (fixed_route value paths) rows node ∙ ap (option_map (fixed_route value paths)) (sym (rw c.in-Some.is at c.route.ensures)) in
    let m = c.loop-listener.listener-index in
    let are = c.requires.labels.each node c.of-listener-items.result.now c.of-listener-items.ensures in
    let all : m ≡ length (arcs_to net node) = omega (arith, are.count, c.loop-listener-test.false, c.loop-listener.auto.listener-index-end) in
    let found = rw reported at (c.loop-listener.invariant.found k) in
    rw reported (found ∙ ap (λ o. relaxed (carrier net) (reported_by value paths rows k) (found_at (open_routes value paths rows c.args.search.now.best.items) k) o) (heard_all net node r m k all))
