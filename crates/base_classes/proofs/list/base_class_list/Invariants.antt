use Rattle.base_classes.specs.Lists.{HasBefore}
use Rattle.base_classes.proofs.list.base_class_list.Given as goal

abbrev pub invariant-loop-place : goal.invariant-loop-place
invariant-loop-place l = HasBefore l.alg l.place l.list
