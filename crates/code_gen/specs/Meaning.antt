-- What code means: application and preference.
use Rattle.std.specs.Prelude.{◌≡◌, List, Option, Some, None}
use Rattle.alg_model.specs.Expressions.{Expression, PureCarrier, PureLabel, PureValue}
use Rattle.alg_model.specs.Carriers.{In, Order}
use Rattle.alg_model.specs.Numbers.{max_label_number}
use Rattle.alg_model.specs.Application.{App, IsLabel}
use Rattle.alg_model.specs.Bounds.{LabelAtMost}
use Rattle.alg_model.specs.Actions.{MayAct}
use Rattle.label_code.specs.declared.operations.Op.{Op}
use Rattle.label_code.specs.Machine.{Outcome, made, prohibited, RunCode}
use Rattle.label_code.specs.Orders.{RunOrder}
use Rattle.code_gen.specs.Encoding.{Enc}
use Rattle.code_gen.specs.Compilation.{CompileLabel, CompileOrder}

-- what comes of a value's words, where this comes of the value
abbrev pub outcome_of : Option PureValue → Outcome
outcome_of (Some w) = made (Enc w)
outcome_of None = prohibited

-- the code of each label makes of a value's words those of what the label makes of the value, and is prohibited exactly
-- where the label prohibits it; so it is never stuck
abbrev pub CodeMeansApplication : Expression → Type 0
CodeMeansApplication a = (l : PureLabel) (v : PureValue) → MayAct a l v → RunCode (CompileLabel a l) (Enc v) ≡ outcome_of (App a l v)

-- the code of the carrier's order compares the words of two values as the values compare
abbrev pub CodeMeansOrder : PureCarrier → Type 0
CodeMeansOrder c = (u v : PureValue) → In c u → In c v → RunOrder (CompileOrder c) (Enc u) (Enc v) ≡ Some (Order c u v)

-- the code is that of this label of the algebra, whose numbers are small
abbrev pub IsCodeOf : Expression → List Op → PureLabel → Type 0
IsCodeOf a code l = (code ≡ CompileLabel a l) × IsLabel a l × LabelAtMost max_label_number l
