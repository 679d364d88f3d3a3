-- Nothing is given up: without a fault, words that mean a command are carried out, or refused by their
-- files alone, unless memory is refused.
use Rattle.std.specs.Prelude.{◌≡◌, ℕ, ◌<◌, ◌≤◌, ◌⊎◌, List, Some, Result, Ok, Err, IsTrue, length}
use Rattle.meta_base.specs.Count.{HasRisen}
use Rattle.meta_base.specs.Shelf.{Moment}
use Rattle.meta_base.specs.Numbers.{max_file_bytes}
use Rattle.alg_model.specs.Expressions.{PureAlg}
use Rattle.alg_model.specs.Properties.{PureProperty}
use Rattle.raml_syntax.specs.ExprText.{ExprText, IsExprFault}
use Rattle.raml_syntax.specs.declared.faults.ExprFault.{ExprFault}
use Rattle.flood_node.specs.Reach.{cards_sent}
use Rattle.net_graph.specs.Nets.{PureNet}
use Rattle.topology_file.specs.NetText.{PureNetFile, NetText, IsNetFault, changed_net}
use Rattle.topology_file.specs.declared.faults.NetFault.{NetFault}
use Rattle.net_graph.specs.Tables.{PureRow}
use Rattle.report_check.specs.ReportText.{ReportText, IsReportFault}
use Rattle.report_check.specs.declared.faults.ReportFault.{ReportFault}
use Rattle.report_text.specs.Refusals.{expr, network, report, memory}
use Rattle.metacli.specs.Answers.{PureAnswer, done, refused, spent, unmet}
use Rattle.command_words.specs.Words.{Words}
use Rattle.metacli.specs.Outcome.{PureOutcome, answer_in, IsFit, IsFitForExchange, word_at}
use Rattle.command_words.specs.declared.command.Command.{Command}
use Rattle.command_words.specs.declared.command.WordsFault.{WordsFault}
use Rattle.metacli.specs.Tasks.{task_of}
use Rattle.metacli.specs.declared.routing.Solution.TheVariants.{Unbeaten}
use Rattle.metacli.specs.declared.task.AlgebraTask.{AlgebraTask}
use Rattle.metacli.specs.declared.task.AlgebraTask.TheVariants as alone
use Rattle.metacli.specs.declared.task.NetworkTask.{NetworkTask}
use Rattle.metacli.specs.declared.task.NetworkTask.TheVariants as joint
use Rattle.metacli.specs.declared.task.Task.{Task}
use Rattle.metacli.specs.declared.task.Task.TheVariants as task

-- this was decided, or memory was refused
abbrev pub IsUnlessMemory : PureOutcome → PureAnswer → Type 0
IsUnlessMemory o answer = (answer_in o ≡ answer) ⊎ (answer_in o ≡ refused memory)

-- the shelf tells the bytes of the file of that name, and they aren't too many
pub record IsReported (m : Moment) (name bytes : List ℕ) : Type 0 where
  pub reports : IsTrue m.reports
  pub file : m.file name ≡ Some bytes
  pub short : length bytes ≤ max_file_bytes

-- bytes that mean no algebra are refused with their fault; of an algebra, this follows
pub record IsJudged (bytes : List ℕ) (Follows : PureAlg → Type 0) (o : PureOutcome) : Type 0 where
  pub bad : (f : ExprFault) → IsExprFault bytes f → IsUnlessMemory o (refused (expr f))
  pub good : (a : PureAlg) → ExprText bytes a → Follows a

-- bytes that mean no network over the algebra are refused with their fault; of a network after its changes, this follows
pub record IsNetJudged (bytes : List ℕ) (Follows : PureNet → Type 0) (o : PureOutcome) (a : PureAlg) : Type 0 where
  pub bad : (f : NetFault) → IsNetFault bytes a f → IsUnlessMemory o (refused (network f))
  pub good : (f : PureNetFile) → NetText bytes a f → Follows (changed_net f)

-- bytes that mean no tables on the network are refused with their fault; tables are judged
pub record IsReportJudged (bytes : List ℕ) (o : PureOutcome) (net : PureNet) : Type 0 where
  pub bad : (f : ReportFault) → IsReportFault net bytes f → IsUnlessMemory o (refused (report f))
  pub good : (tables : List (List PureRow)) → ReportText net bytes tables → IsUnlessMemory o done

-- any network is fit for its labels to be decided on
abbrev pub IsAny : PureNet → Type 0
IsAny net = Unit {0}

-- all is done, unless memory is refused
abbrev pub IsDone : PureOutcome → Type 0
IsDone o = IsUnlessMemory o done

-- or that, or a required property fails
abbrev pub IsDecided : PureOutcome → Type 0
IsDecided o = IsDone o ⊎ ((p : PureProperty) × (answer_in o ≡ unmet p))

-- or that, or all turns are used
abbrev pub IsRunOut : PureOutcome → Type 0
IsRunOut o = IsDone o ⊎ (answer_in o ≡ spent)

-- or all turns are used exactly where they are fewer than the cards that are sent on the network
pub record IsFloodedOut (net : PureNet) (turns : ℕ) (o : PureOutcome) : Type 0 where
  pub ends : cards_sent net ≤ turns → IsDone o
  pub runs_out : turns < cards_sent net → IsUnlessMemory o spent

-- what a task on an algebra is answered by
abbrev pub IsAnsweredAlone : AlgebraTask → PureOutcome → Type 0
IsAnsweredAlone (alone.Check r) = IsDecided
IsAnsweredAlone alone.Code = IsDone
IsAnsweredAlone alone.Gadget = IsDone

-- which networks a task is carried out on, and what it is answered by there
abbrev pub IsFitFor : NetworkTask → PureNet → Type 0
IsFitFor (joint.Check r) = IsAny
IsFitFor joint.Code = IsAny
IsFitFor joint.Hops = IsFit Unbeaten
IsFitFor (joint.Route solution workers) = IsFit solution
IsFitFor (joint.Run workers turns traced) = IsAny
IsFitFor (joint.Flood workers turns) = IsFit Unbeaten
IsFitFor (joint.Distance workers turns) = IsFitForExchange

abbrev pub IsAnsweredOn : NetworkTask → PureNet → PureOutcome → Type 0
IsAnsweredOn (joint.Check r) net = IsDecided
IsAnsweredOn joint.Code net = IsDone
IsAnsweredOn joint.Hops net = IsDone
IsAnsweredOn (joint.Route solution workers) net = IsDone
IsAnsweredOn (joint.Run workers turns traced) net = IsRunOut
IsAnsweredOn (joint.Flood workers turns) net = IsFloodedOut net turns
IsAnsweredOn (joint.Distance workers turns) net = IsRunOut

-- where the shelf tells the files that a task reads, and no fault came, they are judged
abbrev pub IsCompleteOf : List (List ℕ) → Moment → Moment → PureOutcome → Task → Type 0
IsCompleteOf words old new o (task.Demo seed nodes) = IsDone o
IsCompleteOf words old new o (task.Alone file asked) = (bytes : List ℕ) → IsReported old (word_at words file) bytes
    → ¬ HasRisen old.faults new.faults → IsJudged bytes (λ a. IsAnsweredAlone asked o) o
IsCompleteOf words old new o (task.Judge file net named) = (bytes net_bytes report_bytes : List ℕ) → IsReported old (word_at words file) bytes → IsReported old (word_at words net) net_bytes
    → IsReported old (word_at words named) report_bytes → ¬ HasRisen old.faults new.faults → IsJudged bytes (IsNetJudged net_bytes (IsReportJudged report_bytes o) o) o
IsCompleteOf words old new o (task.On file net asked) = (bytes net_bytes : List ℕ) → IsReported old (word_at words file) bytes → IsReported old (word_at words net) net_bytes
    → ¬ HasRisen old.faults new.faults → IsJudged bytes (IsNetJudged net_bytes (λ net. IsFitFor asked net → IsAnsweredOn asked net o) o) o

abbrev pub CompleteBy : List (List ℕ) → Moment → Moment → PureOutcome → Result Command WordsFault → Type 0
CompleteBy words old new o (Ok c) = IsCompleteOf words old new o (task_of c)
CompleteBy words old new o (Err f) = Unit {0}

abbrev pub IsComplete : List (List ℕ) → Moment → Moment → PureOutcome → Type 0
IsComplete words old new o = CompleteBy words old new o (Words words)
