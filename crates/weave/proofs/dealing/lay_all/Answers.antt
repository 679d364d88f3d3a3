use Rattle.std.proofs.Common.{◌≡◌, ◌∙◌, ◌+◌, ◌<◌, ◌∷◌, [], length, length-append, vec_len, ap, subst, sym, map, slice_get, Some, arith}
use Rattle.std.specs.Vec.Iter.{into_iter_items}
use Rattle.net_graph.specs.Views.{pure_arc}
use Rattle.weave.specs.Arcs.{IsReplaced}
use Rattle.weave.specs.Lanes.{inside, lane_of, noted_lane}
use Rattle.weave.specs.Gathered.{block_of, view_at}
use Rattle.weave.proofs.Deals.{all_yielded, laid_more, one_yielded}
use Rattle.weave.proofs.Linking.{keeps_then, listens_below, stands_at}
use Rattle.weave.proofs.dealing.lay_all.Goals as goal

pub loop-queue-preserved : goal.loop-queue-preserved
loop-queue-preserved g c =
    let note = g.N.NodeCore.note in
    let views = view_at g.N.NodeCore.state note in
    let first = views c.args.blocks.now.items in
    let old = views c.loop-queue.blocks.items in
    let new = views c.replace_lane.new.blocks.items in
    let before = c.loop-queue.invariant in
    let links = c.loop-queue.yielded in
    let queue = c.in-Some.queue in
    let count = vec_len c.args.blocks.now in
    let arc = pure_arc c.arc.result in
    let number : c.loop-queue.number ≡ length links = before.number in
    let heard : c.block_at-heard.result ≡ block_of count arc.tail = stands_at c.block_at-heard.result c.len.result count arc.tail c.block_at-heard.ensures.block (c.len.ensures ∙ before.count) in
    let was = noted_lane note (lane_of c.in_ok-replace_lane.field-0) in
    let put : IsReplaced old new c.block_at-heard.result (length links) was (inside (map note queue.items)) =
    subst (λ l. IsReplaced old new c.block_at-heard.result (length links) was (inside (map note l))) c.from_queue.ensures
    (subst (λ n. IsReplaced old new c.block_at-heard.result n was (inside (map note c.from_queue.result.queue.items))) number c.in_ok-replace_lane.ensures.replaced) in
    let found : slice_get c.args.net.now.arcs (length links) ≡ Some arc = subst (λ n. slice_get c.args.net.now.arcs n ≡ Some arc) number c.arc.ensures.arc in
    let split : length (into_iter_items c.loop-queue.queue-iterator) ≡ length (queue ∷ into_iter_items c.next.new.self) = ap length c.in-Some.ensures.steps.0 in
    let left = before.left in
    record {
      count = c.replace_lane.ensures.count ∙ before.count;
      number = ap (λ n. n + 1) number ∙ sym (length-append links (queue ∷ []));
      left = omega (arith, split, left);
      whole = one_yielded links (into_iter_items c.loop-queue.queue-iterator) (into_iter_items c.next.new.self) c.args.links.items queue before.whole c.in-Some.ensures.steps.0;
      seats = keeps_then first old new before.seats c.in_ok-replace_lane.ensures.replaced.seats;
      lane_is = λ a i lt hears. laid_more note c.args.net.now count links queue old new c.block_at-heard.result arc was found heard put
          (λ b j below. before.lane_is b j (subst (λ n. b < n) (sym number) below)) a i (subst (λ n. a < n + 1) number lt) hears;
    }

pub returns-clause-laid : goal.returns-clause-laid
returns-clause-laid g c =
    let before = c.loop-queue.invariant in
    let left = into_iter_items c.loop-queue.queue-iterator in
    let none : length left ≡ 0 = let at_end = c.in-None.ensures.steps.0 in let len = c.loop-queue.queue-iterator.rest.ok.0 in omega (arith, at_end, len) in
    let whole : c.loop-queue.yielded ≡ c.args.links.items = all_yielded c.loop-queue.yielded left c.args.links.items before.whole none in
    let count : c.loop-queue.number ≡ length c.args.net.now.arcs = let all = before.left in omega (arith, all, none) in
    record {
      seats = before.seats;
      lane_is = λ a i hears. let lane = before.lane_is a i (subst (λ n. a < n) (sym count) (listens_below c.args.net.now a i hears)) hears in rw whole at lane;
    }
