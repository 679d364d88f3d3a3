use Rattle.std.proofs.Common.{◌≡◌, ◌≤◌, drop, map}
use Rattle.net_graph.specs.Views.{pure_row}
use Rattle.path_vector.specs.Nodes.{state_of}
use Rattle.vector_runs.specs.Runs.{pure_phase}
use Rattle.vector_runs.proofs.Phases.{IsSoFar, ran}
use Rattle.vector_runs.proofs.run.run_phases.Given as goal

-- the run so far, with its last phase
abbrev pub invariant-loop-next : goal.invariant-loop-next
invariant-loop-next g l = record {
  workers : l.left.workers ≡ l.fn.budget.workers;
  few : l.left.turns ≤ l.fn.budget.turns;
  so_far : IsSoFar l.fn.net l.fn.changed l.fn.budget.turns (map pure_phase l.past) (drop l.next-index l.fn.changed) l.left.turns (ran (map pure_row l.now.found) l.now.journal) l.now.is_quiet (map state_of l.now.nodes);
}
