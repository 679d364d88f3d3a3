use Rattle.std.proofs.Common.{◌≡◌, take, true}
use Rattle.alg_model.specs.Carriers.{distinct}
use Rattle.meta_base.specs.NodePaths.{numbers}
use Rattle.path_vector.proofs.paths.has_none_before_itself.Given as goal

-- none of the nodes so far is among them twice
abbrev pub invariant-loop-place : goal.invariant-loop-place
invariant-loop-place l = distinct (numbers (take l.place l.path)) ≡ true
