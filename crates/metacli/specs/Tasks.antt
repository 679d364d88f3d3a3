-- What commands ask for.
use Rattle.std.specs.Prelude.{ℕ, ◌<◌, List, length, Some, None, true, false}
use Rattle.command_words.specs.Words.{AreDemoNodes, AreTurns, AreWorkers}
use Rattle.command_words.specs.declared.command.Command.{Command}
use Rattle.command_words.specs.declared.command.Command.TheVariants.{Check, Code, Route, Settle, Stable, Run, Trace, Flood, Distance, Verify, Hops, Gadget, Demo}
use Rattle.metacli.specs.declared.routing.Solution.TheVariants.{Unbeaten, Settled, AllStable}
use Rattle.metacli.specs.declared.task.AlgebraTask.TheVariants as alone
use Rattle.metacli.specs.declared.task.NetworkTask.{NetworkTask}
use Rattle.metacli.specs.declared.task.NetworkTask.TheVariants as joint
use Rattle.metacli.specs.declared.task.Task.{Task}
use Rattle.metacli.specs.declared.task.Task.TheVariants as task

-- what a command asks for: about an algebra alone, about a network over it, about a report of routes there, or about a
-- generated network
abbrev pub task_of : Command → Task
task_of (Check file None r) = task.Alone file (alone.Check r)
task_of (Check file (Some net) r) = task.On file net (joint.Check r)
task_of (Code file None) = task.Alone file alone.Code
task_of (Code file (Some net)) = task.On file net joint.Code
task_of (Route file net workers) = task.On file net (joint.Route Unbeaten workers)
task_of (Settle file net) = task.On file net (joint.Route Settled 1)
task_of (Stable file net) = task.On file net (joint.Route AllStable 1)
task_of (Run file net workers turns) = task.On file net (joint.Run workers turns false)
task_of (Trace file net workers turns) = task.On file net (joint.Run workers turns true)
task_of (Flood file net workers turns) = task.On file net (joint.Flood workers turns)
task_of (Distance file net workers turns) = task.On file net (joint.Distance workers turns)
task_of (Verify file net report) = task.Judge file net report
task_of (Hops file net) = task.On file net joint.Hops
task_of (Gadget file) = task.Alone file alone.Gadget
task_of (Demo seed nodes) = task.Demo seed nodes

-- there may be so many workers and turns
abbrev pub HasItsNumbers : NetworkTask → Type 0
HasItsNumbers (joint.Check r) = Unit {0}
HasItsNumbers joint.Code = Unit {0}
HasItsNumbers joint.Hops = Unit {0}
HasItsNumbers (joint.Route solution workers) = AreWorkers workers
HasItsNumbers (joint.Run workers turns traced) = AreWorkers workers × AreTurns turns
HasItsNumbers (joint.Flood workers turns) = AreWorkers workers × AreTurns turns
HasItsNumbers (joint.Distance workers turns) = AreWorkers workers × AreTurns turns

-- its files are words, and there may be so many workers, turns and nodes
abbrev pub CanBeDone : List (List ℕ) → Task → Type 0
CanBeDone words (task.Demo seed nodes) = AreDemoNodes nodes
CanBeDone words (task.Alone file asked) = file < length words
CanBeDone words (task.Judge file net report) = (file < length words) × (net < length words) × (report < length words)
CanBeDone words (task.On file net asked) = (file < length words) × (net < length words) × HasItsNumbers asked
