use Rattle.std.proofs.Common.{take}
use Rattle.std.specs.List.{AllByRecursion}
use Rattle.alg_model.specs.Expressions.{PureAlg}
use Rattle.alg_classes.specs.Growth.{Only}
use Rattle.profile_labels.specs.Growth.{Grown, Over}
use Rattle.profile_labels.specs.Outlines.{OutlinedOf}
use Rattle.profile_labels.specs.Steps.{Makes, step_profile}
use Rattle.profile_labels.proofs.step.add_steps.Given as goal

-- grown over the labels so far
abbrev pub invariant-loop-part : goal.invariant-loop-part
invariant-loop-part l = (a c : PureAlg) → Makes l.step a c → AllByRecursion (OutlinedOf a) l.parts
    → Grown (OutlinedOf c) (Over (λ p. Only (step_profile l.step p)) (take l.part-index l.parts)) l.fn.list l.list
