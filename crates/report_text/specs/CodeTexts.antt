-- The printed text of compiled code.
use Rattle.std.specs.Prelude.{◌≡◌, ℕ, ◌+◌, List, [], ◌∷◌, ◌++◌, Option, Some, None, length, codes, decimal}
use Rattle.alg_model.specs.Expressions.{Expression, PureAlg}
use Rattle.alg_model.specs.Texts.{label_text}
use Rattle.label_code.specs.declared.operations.Op.{Op}
use Rattle.label_code.specs.declared.operations.Op.TheVariants as op
use Rattle.label_code.specs.declared.operations.OrdOp.{OrdOp}
use Rattle.label_code.specs.declared.operations.OrdOp.TheVariants as ord
use Rattle.code_gen.specs.declared.listing.Listing.{Listing}
use Rattle.net_graph.specs.Nets.{PureArc, PureNet}
use Rattle.report_text.specs.Refusals.{ends_text}

-- ranks, each after a space
abbrev pub ranks_text : List ℕ → List ℕ
ranks_text [] = []
ranks_text (rank ∷ ranks) = codes " " ++ decimal rank ++ ranks_text ranks

-- entries, each after a space: a word, or - for none
abbrev pub entry_text : Option ℕ → List ℕ
entry_text None = codes "-"
entry_text (Some word) = decimal word

abbrev pub entries_text : List (Option ℕ) → List ℕ
entries_text [] = []
entries_text (entry ∷ entries) = codes " " ++ entry_text entry ++ entries_text entries

-- an operation of a label's code
abbrev pub op_text : Op → List ℕ
op_text (op.Add n) = codes "add " ++ decimal n
op_text (op.Cap n top) = codes "cap " ++ decimal n ++ codes " " ++ decimal top
op_text (op.Max n) = codes "max " ++ decimal n
op_text (op.Min n) = codes "min " ++ decimal n
op_text op.Copy = codes "copy"
op_text op.Drop = codes "drop"
op_text op.CopySeq = codes "copyseq"
op_text op.DropSeq = codes "dropseq"
op_text (op.Emit n) = codes "emit " ++ decimal n
op_text (op.Append symbol) = codes "append " ++ decimal symbol
op_text (op.Fresh symbol) = codes "fresh " ++ decimal symbol
op_text (op.SetBit k) = codes "set " ++ decimal k
op_text (op.ClearBit k) = codes "clear " ++ decimal k
op_text (op.NeedBit k) = codes "need " ++ decimal k
op_text (op.BarBit k) = codes "bar " ++ decimal k
op_text (op.Look entries) = codes "look" ++ entries_text entries
op_text op.Deny = codes "deny"
op_text (op.Fork jump) = codes "fork " ++ decimal jump
op_text (op.Test jump) = codes "test " ++ decimal jump
op_text (op.Skip jump) = codes "skip " ++ decimal jump

-- an operation of an order's code
abbrev pub ord_op_text : OrdOp → List ℕ
ord_op_text ord.Less = codes "less"
ord_op_text ord.More = codes "more"
ord_op_text ord.Length = codes "length"
ord_op_text ord.Pass = codes "pass"
ord_op_text (ord.Rank ranks) = codes "rank" ++ ranks_text ranks
ord_op_text (ord.Sides jump) = codes "sides " ++ decimal jump
ord_op_text (ord.Leap jump) = codes "skip " ++ decimal jump

-- PLACE OPERATION, where an operation is printed like this
abbrev pub operation_text : {X : Type 0} → (X → List ℕ) → ℕ → X → List ℕ
operation_text text place operation = decimal place ++ codes " " ++ text operation ++ codes "\n"

-- the lines of operations, the first of which stands at that place
abbrev pub lines_from : {X : Type 0} → (X → List ℕ) → ℕ → List X → List ℕ
lines_from text place [] = []
lines_from text place (operation ∷ code) = operation_text text place operation ++ lines_from text (place + 1) code

-- the line before the order's code, and the lines of that
abbrev pub order_line_text : List ℕ
order_line_text = codes "order\n"

abbrev pub order_text : List OrdOp → List ℕ
order_text code = order_line_text ++ lines_from ord_op_text 0 code

-- arc LISTENER SPEAKER LABEL
abbrev pub arc_line_text : Expression → PureNet → PureArc → List ℕ
arc_line_text a net arc = codes "arc " ++ ends_text net (Some arc) ++ codes " " ++ label_text a arc.label ++ codes "\n"

-- the line of an arc, and those of its label's code
abbrev pub arc_code_text : Expression → PureNet → PureArc → List Op → List ℕ
arc_code_text a net arc code = arc_line_text a net arc ++ lines_from op_text 0 code

-- the same of each arc with its code
abbrev pub arcs_text : Expression → PureNet → List PureArc → List (List Op) → List ℕ
arcs_text a net (arc ∷ arcs) (code ∷ rest) = arc_code_text a net arc code ++ arcs_text a net arcs rest
arcs_text a net _ _ = []

-- the arcs of a network, if there is one
abbrev pub labels_text : Expression → Option PureNet → List (List Op) → List ℕ
labels_text a None labels = []
labels_text a (Some net) labels = arcs_text a net net.arcs labels

-- the lines of a listing
abbrev pub code_text : Expression → Option PureNet → Listing → List ℕ
code_text a net listing = order_text listing.order ++ labels_text a net listing.labels

-- the listing has a label's code for each arc of the network, which is over the algebra, and none without a network
abbrev pub CanList : PureAlg → Option PureNet → Listing → Type 0
CanList a None listing = listing.labels ≡ []
CanList a (Some net) listing = (net.alg ≡ a) × (length listing.labels ≡ length net.arcs)
