-- The printed text of refusals.
use Rattle.std.specs.Prelude.{◌<◌, ℕ, List, [], ◌++◌, Option, Some, None, length, codes, decimal, slice_get}
use Rattle.meta_base.specs.declared.ids.Which.{Which}
use Rattle.meta_base.specs.declared.ids.Which.TheVariants as which
use Rattle.alg_model.specs.Verdicts.{PureInstance}
use Rattle.raml_syntax.specs.declared.faults.ExprFault.{ExprFault}
use Rattle.raml_syntax.specs.Faults.{fault_number}
use Rattle.net_graph.specs.Nets.{PureArc, PureNet}
use Rattle.net_graph.specs.RowTexts.{node_text}
use Rattle.topology_file.specs.declared.faults.NetFault.{NetFault}
use Rattle.topology_file.specs.Faults.{net_kind_number}
use Rattle.report_check.specs.declared.faults.ReportFault.{ReportFault}
use Rattle.report_check.specs.Faults.{report_kind_number}
use Rattle.report_text.specs.declared.refusals.Refusal.{Refusal}
use Rattle.report_text.specs.declared.refusals.Refusal.TheVariants.{Words, Expr, Network, Report, Read, Long, Memory}
use Rattle.report_text.specs.VerdictTexts.{CanPrint, instance_text, property_word}

-- why nothing was done, by pure values: an arc by its number
pub data PureRefusal : Type 0 where
  words : ℕ → PureRefusal
  expr : ExprFault → PureRefusal
  network : NetFault → PureRefusal
  report : ReportFault → PureRefusal
  misses : ℕ → PureInstance → PureRefusal
  read : Which → PureRefusal
  long : Which → PureRefusal
  memory : PureRefusal

abbrev pub pure_refusal : Refusal → PureRefusal
pure_refusal (Words number) = words number
pure_refusal (Expr fault) = expr fault
pure_refusal (Network fault) = network fault
pure_refusal (Report fault) = report fault
pure_refusal (Read file) = read file
pure_refusal (Long file) = long file
pure_refusal Memory = memory

abbrev pub which_text : Which → List ℕ
which_text which.Expr = codes "expression"
which_text which.Network = codes "network"
which_text which.Report = codes "report"

-- LISTENER SPEAKER: the names of the arc's tail and head
abbrev pub ends_text : PureNet → Option PureArc → List ℕ
ends_text net None = []
ends_text net (Some a) = node_text net a.tail ++ codes " " ++ node_text net a.head

-- the same of the arc of that number
abbrev pub arc_text : PureNet → ℕ → List ℕ
arc_text net n = ends_text net (slice_get net.arcs n)

-- PROPERTY fails on LISTENER SPEAKER: INSTANCE
abbrev pub misses_text : ℕ → PureInstance → Option PureNet → List ℕ
misses_text n x None = []
misses_text n x (Some net) =
    property_word x.property ++ codes " fails on " ++ arc_text net n ++ codes ": "
    ++ instance_text net.alg.expression x ++ codes "\n"

-- the line of a refusal, by the network that was read, if one was
abbrev pub refusal_text : PureRefusal → Option PureNet → List ℕ
refusal_text (words number) net = codes "words refused: C" ++ decimal number ++ codes "\n"
refusal_text (expr f) net =
    codes "expression refused: X" ++ decimal (fault_number f.kind) ++ codes " at "
    ++ decimal f.place.line ++ codes ":" ++ decimal f.place.column ++ codes "\n"
refusal_text (network f) net =
    codes "network refused: N" ++ decimal (net_kind_number f.kind) ++ codes " at line "
    ++ decimal f.line ++ codes "\n"
refusal_text (report f) net =
    codes "report refused: V" ++ decimal (report_kind_number f.kind) ++ codes " at line "
    ++ decimal f.line ++ codes "\n"
refusal_text (misses n x) net = misses_text n x net
refusal_text (read w) net = codes "read fault on the " ++ which_text w ++ codes "\n"
refusal_text (long w) net = codes "too long: the " ++ which_text w ++ codes "\n"
refusal_text memory net = codes "out of memory\n"

-- an arc is one of the network's, and the instance can be printed
abbrev pub CanMiss : ℕ → PureInstance → Option PureNet → Type 0
CanMiss n x None = ⊥
CanMiss n x (Some net) = (n < length net.arcs) × CanPrint net.alg.expression x

-- the line can be printed: an arc that doesn't have a property is of a network, which is given
abbrev pub CanRefuse : PureRefusal → Option PureNet → Type 0
CanRefuse (misses n x) net = CanMiss n x net
CanRefuse _ net = Unit {0}
