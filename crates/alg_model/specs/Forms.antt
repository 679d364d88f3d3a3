-- What the values and the labels of an algebra look like, whichever operator made it.
use Rattle.std.specs.Prelude.{◌≡◌, ℕ, ◌+◌, ◌≤◌, length}
use Rattle.alg_model.specs.Numbers.{max_table_names, max_simple_symbols, max_marks}
use Rattle.alg_model.specs.declared.tree.Tree.{Tree}
use Rattle.alg_model.specs.declared.form.Form.{Form}
use Rattle.alg_model.specs.declared.form.Form.TheVariants as value
use Rattle.alg_model.specs.declared.form.LabelForm.{LabelForm}
use Rattle.alg_model.specs.declared.form.LabelForm.TheVariants as label
use Rattle.alg_model.specs.Expressions.{Expression, add, cap, worst, width, pref, orig, seq, simseq, tags, guard, gate, table, lex, scoped, union, sum, plus, left, right}
use Rattle.alg_model.specs.Expressions.{PureCarrier, whole, up_to, down_from, seqs, simseqs, sets, one, named, pairs, sides}
use Rattle.alg_model.specs.Formation.{MeetsRanges}
use Rattle.alg_model.specs.Views.{expression_of}

-- the carrier whose topmost part the form is
abbrev pub form_carrier : {C : Type 0} → (C → PureCarrier) → Form C → PureCarrier
form_carrier carrier_of value.Whole = whole
form_carrier carrier_of (value.UpTo top) = up_to top
form_carrier carrier_of (value.DownFrom top) = down_from top
form_carrier carrier_of (value.Seqs k) = seqs k
form_carrier carrier_of (value.SimSeqs k) = simseqs k
form_carrier carrier_of (value.Sets k) = sets k
form_carrier carrier_of value.One = one
form_carrier carrier_of (value.Named names ranks) = named names.now ranks.now
form_carrier carrier_of (value.Pair c d) = pairs (carrier_of c.now) (carrier_of d.now)
form_carrier carrier_of (value.Side c d) = sides (carrier_of c.now) (carrier_of d.now)

-- how many parts the carrier has
abbrev pub part_count : PureCarrier → ℕ
part_count whole = 1
part_count (up_to top) = 1
part_count (down_from top) = 1
part_count (seqs k) = 1
part_count (simseqs k) = 1
part_count (sets k) = 1
part_count one = 1
part_count (named names ranks) = 1
part_count (pairs c d) = 1 + part_count c + part_count d
part_count (sides c d) = 1 + part_count c + part_count d

-- what the rule on ranges gives of the form of a tree that meets it
abbrev pub MeetsFormRanges : Form Tree → Type 0
MeetsFormRanges (value.SimSeqs k) = k ≤ max_simple_symbols
MeetsFormRanges (value.Sets k) = k ≤ max_marks
MeetsFormRanges (value.Named names ranks) = length names.now ≤ max_table_names
MeetsFormRanges (value.Pair a b) = MeetsRanges (expression_of a.now) × MeetsRanges (expression_of b.now)
MeetsFormRanges (value.Side a b) = MeetsRanges (expression_of a.now) × MeetsRanges (expression_of b.now)
MeetsFormRanges _ = Unit {0}

-- the root is one of these eleven kinds
abbrev pub IsBase : Expression → Type 0
IsBase (add low high) = Unit {0}
IsBase (cap top low high) = Unit {0}
IsBase (worst top low high) = Unit {0}
IsBase (width top low high) = Unit {0}
IsBase (pref top) = Unit {0}
IsBase (orig top) = Unit {0}
IsBase (seq n) = Unit {0}
IsBase (simseq n) = Unit {0}
IsBase (tags n) = Unit {0}
IsBase (guard n) = Unit {0}
IsBase gate = Unit {0}
IsBase _ = ⊥

-- an expression with the same labels, which is the same for all base algebras that have them
abbrev pub labels_as : Expression → Expression
labels_as (cap top low high) = add low high
labels_as (worst top low high) = add low high
labels_as (width top low high) = add low high
labels_as (orig top) = orig 0
labels_as (simseq n) = seq n
labels_as a = a

-- the expression whose labels have the form
abbrev pub form_expression : LabelForm → Expression
form_expression (label.Numbers low high) = add low high
form_expression (label.UpTo top) = pref top
form_expression label.Keep = orig 0
form_expression (label.Symbol n) = seq n
form_expression (label.Tag n) = tags n
form_expression (label.Guard n) = guard n
form_expression label.Gate = gate
form_expression (label.Table t) = table t.now
form_expression (label.Lex a b) = lex (expression_of a.now) (expression_of b.now)
form_expression (label.Scoped a b) = scoped (expression_of a.now) (expression_of b.now)
form_expression (label.Union a b) = union (expression_of a.now) (expression_of b.now)
form_expression (label.Sum a b) = sum (expression_of a.now) (expression_of b.now)
form_expression (label.Plus a b) = plus (expression_of a.now) (expression_of b.now)
form_expression (label.Left a) = left (expression_of a.now)
form_expression (label.Right a) = right (expression_of a.now)

-- the expression is a base algebra, or of the operator that the form shows, on the form's parts
abbrev pub HasOperator : Expression → LabelForm → Type 0
HasOperator a (label.Table t) = a ≡ table t.now
HasOperator a (label.Lex b c) = a ≡ lex (expression_of b.now) (expression_of c.now)
HasOperator a (label.Scoped b c) = a ≡ scoped (expression_of b.now) (expression_of c.now)
HasOperator a (label.Union b c) = a ≡ union (expression_of b.now) (expression_of c.now)
HasOperator a (label.Sum b c) = a ≡ sum (expression_of b.now) (expression_of c.now)
HasOperator a (label.Plus b c) = a ≡ plus (expression_of b.now) (expression_of c.now)
HasOperator a (label.Left b) = a ≡ left (expression_of b.now)
HasOperator a (label.Right b) = a ≡ right (expression_of b.now)
HasOperator a _ = IsBase a
