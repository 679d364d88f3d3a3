use Rattle.std.proofs.Common.{◌≡◌, ◌∙◌, length, vec_len, subst, arith}
use Rattle.weave.specs.Arcs.{AreDoneBelow, LosesLink}
use Rattle.weave.specs.Gathered.{view_at}
use Rattle.weave.proofs.Linking.{below_more, all_settled, still_ended}
use Rattle.weave.proofs.links.settle_blocks.Goals as goal

pub settle_arc-requires-clause-ends : goal.settle_arc-requires-clause-ends
settle_arc-requires-clause-ends g c =
    let views = view_at g.N.NodeCore.state g.N.NodeCore.note in
    rw c.loop-number.invariant.count
    (λ i j hears speaks apart. still_ended c.args.net.now (vec_len c.args.blocks.now) c.loop-number.number i j (views c.args.blocks.now.items) (views c.loop-number.blocks.items) c.requires.ended c.loop-number.invariant.done hears speaks apart)

pub loop-number-preserved : goal.loop-number-preserved
loop-number-preserved g c =
    let views = view_at g.N.NodeCore.state g.N.NodeCore.note in
    record {
      count = c.settle_arc.ensures.count ∙ c.loop-number.invariant.count;
      done = below_more LosesLink c.args.net.now (vec_len c.args.blocks.now) c.loop-number.number (views c.args.blocks.now.items) (views c.loop-number.blocks.items) (views c.settle_arc.new.blocks.items) c.loop-number.invariant.done
          (rw c.loop-number.invariant.count at c.in_ok-settle_arc.ensures.settled);
    }

pub returns-clause-settled : goal.returns-clause-settled
returns-clause-settled g c =
    let views = view_at g.N.NodeCore.state g.N.NodeCore.note in
    let old = views c.args.blocks.now.items in
    let new = views c.loop-number.blocks.items in
    let all : c.loop-number.number ≡ length c.args.net.now.arcs = omega arith in
    all_settled c.args.net.now (vec_len c.args.blocks.now) old new (subst (λ n. AreDoneBelow LosesLink c.args.net.now (vec_len c.args.blocks.now) n old new) all c.loop-number.invariant.done)
