use Rattle.std.proofs.Common.{◌≡◌, ◌∙◌, ◌+◌, ◌%◌, ◌∷◌, [], length, length-append, vec_len, ap, subst, sym, arith}
use Rattle.std.specs.Vec.Iter.{into_iter_items}
use Rattle.weave.specs.Dealt.{IsSeatPut}
use Rattle.weave.specs.Gathered.{view_at}
use Rattle.weave.proofs.Deals.{seat_at, seated_more}
use Rattle.weave.proofs.dealing.seat_all.Goals as goal

pub loop-node-preserved : goal.loop-node-preserved
loop-node-preserved g c =
    let state = g.N.NodeCore.state in
    let views = view_at state g.N.NodeCore.note in
    let before = c.loop-node.invariant in
    let nodes = c.loop-node.yielded in
    let node = c.in-Some.node in
    let count = vec_len c.args.blocks.now in
    let number : c.loop-node.number ≡ length nodes = before.number in
    let split : length (into_iter_items c.loop-node.node-iterator) ≡ length (node ∷ into_iter_items c.next.new.self) = ap length c.in-Some.ensures.steps.0 in
    let left = before.left in
    record {
      count = c.put_seat.ensures.count ∙ before.count;
      number = ap (λ n. n + 1) number ∙ sym (length-append nodes (node ∷ []));
      left = omega (arith, split, left);
      seated = seated_more state count nodes node (views c.loop-node.blocks.items) (views c.put_seat.new.blocks.items) before.seated
          (seat_at state count (length nodes) c.len.result c.loop-node.number (state node) (views c.loop-node.blocks.items) (views c.put_seat.new.blocks.items) number (c.len.ensures ∙ before.count) (subst (λ log. IsSeatPut (views c.loop-node.blocks.items) (views c.put_seat.new.blocks.items) (c.loop-node.number % c.len.result) c.loop-node.number (state node) 0 log) c.new.ensures c.in_ok-put_seat.ensures.put));
    }
