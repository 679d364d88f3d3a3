use Rattle.std.proofs.Common.{take}
use Rattle.std.specs.List.{AllByRecursion}
use Rattle.alg_model.specs.Expressions.{PureAlg}
use Rattle.alg_classes.specs.Growth.{Only}
use Rattle.profile_labels.specs.Growth.{Grown, Over}
use Rattle.profile_labels.specs.Outlines.{OutlinedOf}
use Rattle.profile_labels.specs.Steps.{Joins, joint_profile}
use Rattle.profile_labels.proofs.step.add_joined.Given as goal

-- grown by those that begin with the labels so far
abbrev pub invariant-loop-x : goal.invariant-loop-x
invariant-loop-x l = (a b c : PureAlg) → Joins l.joint a b c → AllByRecursion (OutlinedOf a) l.xs → AllByRecursion (OutlinedOf b) l.ys
    → Grown (OutlinedOf c) (Over (λ p. Over (λ q. Only (joint_profile l.joint p q)) l.ys) (take l.x-index l.xs)) l.fn.list l.list
