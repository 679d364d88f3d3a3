use Rattle.std.proofs.Common.{arith}
use Rattle.alg_classes.specs.Growth.{Only}
use Rattle.alg_classes.specs.GrowthLaws.{grown_none, grown_more, grown_all}
use Rattle.profile_labels.specs.Growth.{Over}
use Rattle.profile_labels.specs.Outlines.{OutlinedOf, outline_label}
use Rattle.alg_classes.specs.ListLaws.{one_of_all}
use Rattle.profile_labels.specs.Steps.{joint_profile}
use Rattle.profile_labels.proofs.step.add_joined.Goals as goal

pub loop-x-init : goal.loop-x-init
loop-x-init c = λ a b d joins are_x are_y.
    grown_none (OutlinedOf d) (λ p. Over (λ q. Only (joint_profile c.args.joint p q)) c.args.ys.now) c.args.list.now

pub loop-x-preserved : goal.loop-x-preserved
loop-x-preserved c = λ a b d joins are_x are_y.
    let x = c.x-item.result in
    let is = one_of_all (OutlinedOf a) c.args.xs.now c.loop-x.x-index x are_x (omega arith) c.x-item.is in
    grown_more (OutlinedOf d) (λ p. Over (λ q. Only (joint_profile c.args.joint p q)) c.args.ys.now) c.args.xs.now c.loop-x.x-index x
    c.args.list.now c.loop-x.list c.add_steps.new.list (omega arith) c.x-item.is
    (c.loop-x.invariant a b d joins are_x are_y)
    (c.in_ok-add_steps.ensures b d (λ m q h. joins (outline_label x.outline.value) m x.profile q is h) are_y)

pub returns : goal.returns
returns c = λ a b d joins are_x are_y.
    grown_all (OutlinedOf d) (λ p. Over (λ q. Only (joint_profile c.args.joint p q)) c.args.ys.now) c.args.xs.now c.loop-x.x-index
    c.args.list.now c.loop-x.list (omega arith) (c.loop-x.invariant a b d joins are_x are_y)
