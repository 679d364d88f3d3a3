-- What a command asks for can be done.
use Rattle.std.proofs.Common.{ℕ, List, Some, None, lit≤}
use Rattle.command_words.specs.Words.{HasItsWords}
use Rattle.command_words.specs.declared.command.Command.{Command}
use Rattle.command_words.specs.declared.command.Command.TheVariants.{Check, Code, Route, Settle, Stable, Run, Trace, Flood, Distance, Verify, Hops, Gadget, Demo}
use Rattle.metacli.specs.Tasks.{CanBeDone, task_of}

pub can_be_done : (words : List (List ℕ)) (c : Command) → HasItsWords words c → CanBeDone words (task_of c)
can_be_done words (Check file None r) h = h.0
can_be_done words (Check file (Some net) r) h = (h.0, h.1, tt)
can_be_done words (Code file None) h = h.0
can_be_done words (Code file (Some net)) h = (h.0, h.1, tt)
can_be_done words (Route file net workers) h = h
can_be_done words (Settle file net) h = (h.0, h.1, (lit≤ tt, lit≤ tt))
can_be_done words (Stable file net) h = (h.0, h.1, (lit≤ tt, lit≤ tt))
can_be_done words (Run file net workers turns) h = (h.0, h.1, (h.2, h.3))
can_be_done words (Trace file net workers turns) h = (h.0, h.1, (h.2, h.3))
can_be_done words (Flood file net workers turns) h = (h.0, h.1, (h.2, h.3))
can_be_done words (Distance file net workers turns) h = (h.0, h.1, (h.2, h.3))
can_be_done words (Verify file net report) h = h
can_be_done words (Hops file net) h = (h.0, h.1, tt)
can_be_done words (Gadget file) h = h
can_be_done words (Demo seed nodes) h = h
