-- The code of labels and of orders.
use Rattle.std.specs.Prelude.{ℕ, ◌+◌, List, [], ◌∷◌, ◌++◌, length, map, Option, Some, None, slice_get}
use Rattle.alg_model.specs.declared.tree.TableRow.{TableRow}
use Rattle.alg_model.specs.Expressions.{Expression, add, cap, worst, width, pref, orig, seq, simseq, tags, guard, gate, table, lex, scoped, union, sum, plus, left, right}
use Rattle.alg_model.specs.Expressions.{PureCarrier, whole, up_to, down_from, seqs, simseqs, sets, one, named, pairs, sides}
use Rattle.alg_model.specs.Expressions.{PureValue, PureLabel, number_label, keep, symbol_label, mark, unmark, need, bar, allow, deny, row_label, pair_label, both_label, first_label, second_label, const_label, outer, inner}
use Rattle.alg_model.specs.Carriers.{carrier_of}
use Rattle.label_code.specs.declared.operations.Op.{Op}
use Rattle.label_code.specs.declared.operations.Op.TheVariants as op
use Rattle.label_code.specs.declared.operations.OrdOp.{OrdOp}
use Rattle.label_code.specs.declared.operations.OrdOp.TheVariants as ord
use Rattle.code_gen.specs.Encoding.{Enc}

-- the code of a choice by the side, which this operation reads: for the first side, and for the second
abbrev pub either : (ℕ → Op) → List Op → List Op → List Op
either choose first second = choose (length first + 1) ∷ first ++ op.Skip (length second) ∷ second

-- the code that comes to a value of the carrier: these operations are for a word, for a sequence and for a side
abbrev pub Passed : Op → Op → (ℕ → Op) → PureCarrier → List Op
Passed word sequence side whole = word ∷ []
Passed word sequence side (up_to top) = word ∷ []
Passed word sequence side (down_from top) = word ∷ []
Passed word sequence side (seqs k) = sequence ∷ []
Passed word sequence side (simseqs k) = sequence ∷ []
Passed word sequence side (sets k) = word ∷ []
Passed word sequence side one = []
Passed word sequence side (named names ranks) = word ∷ []
Passed word sequence side (pairs c d) = Passed word sequence side c ++ Passed word sequence side d
Passed word sequence side (sides c d) = either side (Passed word sequence side c) (Passed word sequence side d)

-- the code that copies a value of the carrier
abbrev pub Keep : PureCarrier → List Op
Keep c = Passed op.Copy op.CopySeq op.Fork c

-- the code that passes over a value of the carrier
abbrev pub Lose : PureCarrier → List Op
Lose c = Passed op.Drop op.DropSeq op.Test c

-- the code that writes a value
abbrev pub Say : PureValue → List Op
Say v = map op.Emit (Enc v)

-- the images of a table's row
abbrev pub images_of : Option TableRow → List (Option ℕ)
images_of (Some row) = row.images
images_of None = []

-- the code of a label of the algebra
abbrev pub CompileLabel : Expression → PureLabel → List Op
CompileLabel (add low high) (number_label n) = op.Add n ∷ []
CompileLabel (add low high) _ = []
CompileLabel (cap top low high) (number_label n) = op.Cap n top ∷ []
CompileLabel (cap top low high) _ = []
CompileLabel (worst top low high) (number_label n) = op.Max n ∷ []
CompileLabel (worst top low high) _ = []
CompileLabel (width top low high) (number_label n) = op.Min n ∷ []
CompileLabel (width top low high) _ = []
CompileLabel (pref top) (number_label n) = op.Drop ∷ op.Emit n ∷ []
CompileLabel (pref top) _ = []
CompileLabel (orig top) keep = op.Copy ∷ []
CompileLabel (orig top) _ = []
CompileLabel (seq k) (symbol_label n) = op.Append n ∷ []
CompileLabel (seq k) _ = []
CompileLabel (simseq k) (symbol_label n) = op.Fresh n ∷ []
CompileLabel (simseq k) _ = []
CompileLabel (tags n) keep = op.Copy ∷ []
CompileLabel (tags n) (mark k) = op.SetBit k ∷ []
CompileLabel (tags n) (unmark k) = op.ClearBit k ∷ []
CompileLabel (tags n) _ = []
CompileLabel (guard n) (need k) = op.NeedBit k ∷ []
CompileLabel (guard n) (bar k) = op.BarBit k ∷ []
CompileLabel (guard n) _ = []
CompileLabel gate allow = []
CompileLabel gate deny = op.Deny ∷ []
CompileLabel gate _ = []
CompileLabel (table t) (row_label r) = op.Look (images_of (slice_get t.rows r)) ∷ []
CompileLabel (table t) _ = []
CompileLabel (lex a b) (pair_label l m) = CompileLabel a l ++ CompileLabel b m
CompileLabel (lex a b) _ = []
CompileLabel (scoped a b) (outer l v) = CompileLabel a l ++ Lose (carrier_of b) ++ Say v
CompileLabel (scoped a b) (inner m) = Keep (carrier_of a) ++ CompileLabel b m
CompileLabel (scoped a b) _ = []
CompileLabel (union a b) (first_label l) = either op.Fork (CompileLabel a l) (op.Deny ∷ [])
CompileLabel (union a b) (second_label m) = op.Fork 1 ∷ op.Deny ∷ CompileLabel b m
CompileLabel (union a b) _ = []
CompileLabel (sum a b) (both_label l m) = either op.Fork (CompileLabel a l) (CompileLabel b m)
CompileLabel (sum a b) _ = []
CompileLabel (plus a b) (first_label l) = CompileLabel a l
CompileLabel (plus a b) (second_label m) = CompileLabel b m
CompileLabel (plus a b) _ = []
CompileLabel (left a) (const_label v) = Lose (carrier_of a) ++ Say v
CompileLabel (left a) _ = []
CompileLabel (right a) keep = Keep (carrier_of a)
CompileLabel (right a) _ = []

-- the code of a carrier's preference
abbrev pub CompileOrder : PureCarrier → List OrdOp
CompileOrder whole = ord.Less ∷ []
CompileOrder (up_to top) = ord.Less ∷ []
CompileOrder (down_from top) = ord.More ∷ []
CompileOrder (seqs k) = ord.Length ∷ []
CompileOrder (simseqs k) = ord.Length ∷ []
CompileOrder (sets k) = ord.Pass ∷ []
CompileOrder one = []
CompileOrder (named names ranks) = ord.Rank ranks ∷ []
CompileOrder (pairs c d) = CompileOrder c ++ CompileOrder d
CompileOrder (sides c d) = ord.Sides (length (CompileOrder c) + 1) ∷ CompileOrder c ++ ord.Leap (length (CompileOrder d)) ∷ CompileOrder d
