-- What answers stand for, and their statuses.
use Rattle.std.specs.Prelude.{ℕ}
use Rattle.alg_model.specs.Properties.{PureProperty}
use Rattle.alg_classes.specs.Instances.{pure_instance, pure_property}
use Rattle.report_text.specs.Refusals.{PureRefusal, words, expr, network, report, misses, read, long, memory}
use Rattle.command_words.specs.Words.{words_fault_number}
use Rattle.metacli.specs.declared.ended.Answer.{Answer}
use Rattle.metacli.specs.declared.ended.Answer.TheVariants.{Done, Spent, Unmet, BadWords, BadExpr, BadNet, BadReport, Misses, ReadFault, WriteFault, NoMemory, TooLong}
use Rattle.metacli.specs.declared.outcome.Stop.{Stop}
use Rattle.metacli.specs.declared.outcome.Stop.TheVariants as stop

-- the command was carried out, or until all turns were used, or a property that was required fails; or it was refused;
-- or its text could not be written
pub data PureAnswer : Type 0 where
  done : PureAnswer
  spent : PureAnswer
  unmet : PureProperty → PureAnswer
  refused : PureRefusal → PureAnswer
  write_fault : PureAnswer

abbrev pub memory_refused : PureAnswer
memory_refused = refused memory

abbrev pub pure_answer : Answer → PureAnswer
pure_answer Done = done
pure_answer Spent = spent
pure_answer (Unmet p) = unmet (pure_property p)
pure_answer (BadWords f) = refused (words (words_fault_number f))
pure_answer (BadExpr f) = refused (expr f)
pure_answer (BadNet f) = refused (network f)
pure_answer (BadReport f) = refused (report f)
pure_answer (Misses arc x) = refused (misses arc.0 (pure_instance x))
pure_answer (ReadFault w) = refused (read w)
pure_answer WriteFault = write_fault
pure_answer NoMemory = refused memory
pure_answer (TooLong w) = refused (long w)

abbrev pub pure_stop : Stop → PureRefusal
pure_stop (stop.Words f) = words (words_fault_number f)
pure_stop (stop.Expr f) = expr f
pure_stop (stop.Network f) = network f
pure_stop (stop.Report f) = report f
pure_stop (stop.Read w) = read w
pure_stop (stop.Long w) = long w
pure_stop stop.Memory = memory

abbrev pub status_of : Answer → ℕ
status_of Done = 0
status_of (BadWords f) = 1
status_of (BadExpr f) = 2
status_of (BadNet f) = 2
status_of (BadReport f) = 2
status_of (Misses arc x) = 3
status_of (Unmet p) = 3
status_of Spent = 4
status_of (ReadFault w) = 5
status_of WriteFault = 6
status_of NoMemory = 7
status_of (TooLong w) = 8
