use Rattle.std.proofs.Common.{◌≡◌, ◌∙◌, length, vec_len, subst, arith}
use Rattle.weave.specs.Arcs.{AreDoneBelow, GetsLink}
use Rattle.weave.specs.Gathered.{view_at}
use Rattle.weave.proofs.Linking.{below_none, below_more, all_linked, still_whole}
use Rattle.weave.proofs.links.link_blocks.Goals as goal

pub loop-number-init : goal.loop-number-init
loop-number-init g c =
    let views = view_at g.N.NodeCore.state g.N.NodeCore.note in
    record {
      count = c.forget_all.ensures.count;
      done = below_none GetsLink c.args.net.now (vec_len c.args.blocks.now) (views c.args.blocks.now.items) (views c.forget_all.new.blocks.items) c.forget_all.ensures.same;
    }

pub link_arc-requires-clause-whole : goal.link_arc-requires-clause-whole
link_arc-requires-clause-whole g c =
    let views = view_at g.N.NodeCore.state g.N.NodeCore.note in
    rw c.loop-number.invariant.count
    (λ i hears. still_whole c.args.net.now (vec_len c.args.blocks.now) c.loop-number.number i (views c.args.blocks.now.items) (views c.loop-number.blocks.items) c.requires.gathered c.loop-number.invariant.done hears)

pub loop-number-preserved : goal.loop-number-preserved
loop-number-preserved g c =
    let views = view_at g.N.NodeCore.state g.N.NodeCore.note in
    record {
      count = c.link_arc.ensures.count ∙ c.loop-number.invariant.count;
      done = below_more GetsLink c.args.net.now (vec_len c.args.blocks.now) c.loop-number.number (views c.args.blocks.now.items) (views c.loop-number.blocks.items) (views c.link_arc.new.blocks.items) c.loop-number.invariant.done
          (rw c.loop-number.invariant.count at c.in_ok-link_arc.ensures.linked);
    }

pub returns-clause-linked : goal.returns-clause-linked
returns-clause-linked g c =
    let views = view_at g.N.NodeCore.state g.N.NodeCore.note in
    let old = views c.args.blocks.now.items in
    let new = views c.loop-number.blocks.items in
    let all : c.loop-number.number ≡ length c.args.net.now.arcs = omega arith in
    all_linked c.args.net.now (vec_len c.args.blocks.now) old new (subst (λ n. AreDoneBelow GetsLink c.args.net.now (vec_len c.args.blocks.now) n old new) all c.loop-number.invariant.done)
