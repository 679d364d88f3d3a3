use Rattle.std.proofs.Common.{◌≡◌, subst, arith}
use Rattle.base_classes.specs.Lists.{HasBefore}
use Rattle.base_classes.proofs.Lists.{covers}
use Rattle.base_classes.proofs.list.base_class_list.Goals as goal

pub returns : goal.returns
returns c =
    let last : c.loop-place.place ≡ 4 = omega (arith, c.loop-place-test.false, c.loop-place.auto.place-end) in
    covers c.args.alg.now c.loop-place.list c.tree-tree.ensures.formed c.requires
    (subst (λ p. HasBefore c.args.alg.now p c.loop-place.list) last c.loop-place.invariant)
