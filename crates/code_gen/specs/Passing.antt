-- The operations by which code copies a value that it comes to, or passes over it.
use Rattle.std.specs.Prelude.{ℕ, List}
use Rattle.alg_model.specs.Expressions.{PureCarrier}
use Rattle.label_code.specs.declared.operations.Op.{Op}
use Rattle.label_code.specs.declared.operations.Op.TheVariants as op
use Rattle.code_gen.specs.declared.pieces.Passing.{Passing}
use Rattle.code_gen.specs.declared.pieces.Passing.TheVariants as passing
use Rattle.code_gen.specs.Compilation.{Passed}

abbrev pub of_word : Passing → Op
of_word passing.Keep = op.Copy
of_word passing.Lose = op.Drop

abbrev pub of_sequence : Passing → Op
of_sequence passing.Keep = op.CopySeq
of_sequence passing.Lose = op.DropSeq

abbrev pub of_side : Passing → ℕ → Op
of_side passing.Keep jump = op.Fork jump
of_side passing.Lose jump = op.Test jump

-- the code that does so with a value of the carrier
abbrev pub passing_code : Passing → PureCarrier → List Op
passing_code p c = Passed (of_word p) (of_sequence p) (of_side p) c
