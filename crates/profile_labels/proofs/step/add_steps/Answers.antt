use Rattle.std.proofs.Common.{arith}
use Rattle.alg_classes.specs.Growth.{Only}
use Rattle.alg_classes.specs.GrowthLaws.{grown_none, grown_more, grown_all}
use Rattle.profile_labels.specs.Outlines.{OutlinedOf}
use Rattle.alg_classes.specs.ListLaws.{one_of_all}
use Rattle.profile_labels.specs.Steps.{step_profile}
use Rattle.profile_labels.proofs.step.add_steps.Goals as goal

pub loop-part-init : goal.loop-part-init
loop-part-init c = λ a d makes are. grown_none (OutlinedOf d) (λ p. Only (step_profile c.args.step.now p)) c.args.list.now

pub loop-part-preserved : goal.loop-part-preserved
loop-part-preserved c = λ a d makes are.
    let x = c.part-item.result in
    let is = one_of_all (OutlinedOf a) c.args.parts.now c.loop-part.part-index x are (omega arith) c.part-item.is in
    grown_more (OutlinedOf d) (λ p. Only (step_profile c.args.step.now p)) c.args.parts.now c.loop-part.part-index x
    c.args.list.now c.loop-part.list c.add_step.new.list (omega arith) c.part-item.is
    (c.loop-part.invariant a d makes are) (c.in_ok-add_step.ensures a d makes is)

pub returns : goal.returns
returns c = λ a d makes are.
    grown_all (OutlinedOf d) (λ p. Only (step_profile c.args.step.now p)) c.args.parts.now c.loop-part.part-index
    c.args.list.now c.loop-part.list (omega arith) (c.loop-part.invariant a d makes are)
