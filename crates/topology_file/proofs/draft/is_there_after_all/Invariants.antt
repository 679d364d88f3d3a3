use Rattle.std.proofs.Common.{◌≡◌, map, length}
use Rattle.net_graph.specs.ChangeSteps.{is_there_after_all}
use Rattle.net_graph.specs.Views.{pure_change}
use Rattle.topology_file.proofs.draft.is_there_after_all.Given as goal

abbrev pub invariant-loop-rest : goal.invariant-loop-rest
invariant-loop-rest l = is_there_after_all l.tail.0 l.head.0 (map pure_change l.changes) l.fn.is_there ≡ is_there_after_all l.tail.0 l.head.0 (map pure_change l.rest) l.is_there

abbrev pub decreases-loop-rest : goal.decreases-loop-rest
decreases-loop-rest l = length l.rest
