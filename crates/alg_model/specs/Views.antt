-- What a tree, a value, a label and a carrier of the program stand for.
use Rattle.alg_model.specs.Expressions as pure
use Rattle.alg_model.specs.declared.tree.Tree as tree
use Rattle.alg_model.specs.declared.tree.Value as value
use Rattle.alg_model.specs.declared.tree.Label as label
use Rattle.alg_model.specs.declared.tree.Carrier as carrier

abbrev pub expression_of : tree.Tree → pure.Expression
expression_of (tree.Add low high) = pure.add low high
expression_of (tree.Cap top low high) = pure.cap top low high
expression_of (tree.Worst top low high) = pure.worst top low high
expression_of (tree.Width top low high) = pure.width top low high
expression_of (tree.Pref top) = pure.pref top
expression_of (tree.Orig top) = pure.orig top
expression_of (tree.Seq n) = pure.seq n
expression_of (tree.SimSeq n) = pure.simseq n
expression_of (tree.Tags n) = pure.tags n
expression_of (tree.Guard n) = pure.guard n
expression_of tree.Gate = pure.gate
expression_of (tree.Table t) = pure.table t
expression_of (tree.Lex' p a q b) = pure.lex (expression_of a) (expression_of b)
expression_of (tree.Scoped' p a q b) = pure.scoped (expression_of a) (expression_of b)
expression_of (tree.Union' p a q b) = pure.union (expression_of a) (expression_of b)
expression_of (tree.Sum' p a q b) = pure.sum (expression_of a) (expression_of b)
expression_of (tree.Plus' p a q b) = pure.plus (expression_of a) (expression_of b)
expression_of (tree.Left' p a) = pure.left (expression_of a)
expression_of (tree.Right' p a) = pure.right (expression_of a)

abbrev pub pure_value : value.Value → pure.PureValue
pure_value (value.Number n) = pure.number n
pure_value (value.Symbols ns) = pure.symbols ns
pure_value (value.Marks n) = pure.marks n
pure_value value.Unit = pure.unit
pure_value (value.Name n) = pure.name n
pure_value (value.Pair' p u q v) = pure.pair (pure_value u) (pure_value v)
pure_value (value.First' p u) = pure.first (pure_value u)
pure_value (value.Second' p v) = pure.second (pure_value v)

abbrev pub pure_label : label.Label → pure.PureLabel
pure_label (label.Number n) = pure.number_label n
pure_label label.Keep = pure.keep
pure_label (label.Symbol n) = pure.symbol_label n
pure_label (label.Mark k) = pure.mark k
pure_label (label.Unmark k) = pure.unmark k
pure_label (label.Need k) = pure.need k
pure_label (label.Bar k) = pure.bar k
pure_label label.Allow = pure.allow
pure_label label.Deny = pure.deny
pure_label (label.Row r) = pure.row_label r
pure_label (label.Pair' p l q m) = pure.pair_label (pure_label l) (pure_label m)
pure_label (label.Both' p l q m) = pure.both_label (pure_label l) (pure_label m)
pure_label (label.First' p l) = pure.first_label (pure_label l)
pure_label (label.Second' p m) = pure.second_label (pure_label m)
pure_label (label.Const v) = pure.const_label (pure_value v)
pure_label (label.Outer' p l v) = pure.outer (pure_label l) (pure_value v)
pure_label (label.Inner' p m) = pure.inner (pure_label m)

abbrev pub pure_carrier : carrier.Carrier → pure.PureCarrier
pure_carrier carrier.Whole = pure.whole
pure_carrier (carrier.UpTo top) = pure.up_to top
pure_carrier (carrier.DownFrom top) = pure.down_from top
pure_carrier (carrier.Seqs n) = pure.seqs n
pure_carrier (carrier.SimSeqs n) = pure.simseqs n
pure_carrier (carrier.Sets n) = pure.sets n
pure_carrier carrier.One = pure.one
pure_carrier (carrier.Named names ranks) = pure.named names ranks
pure_carrier (carrier.Pair' p a q b) = pure.pairs (pure_carrier a) (pure_carrier b)
pure_carrier (carrier.Side' p a q b) = pure.sides (pure_carrier a) (pure_carrier b)
