use Rattle.std.proofs.Common.{◌≡◌, ◌++◌, take}
use Rattle.std.specs.Prelude.{map}
use Rattle.label_code.specs.declared.operations.Op.TheVariants.{Emit}
use Rattle.code_gen.proofs.pieces.push_say.Given as goal

abbrev pub invariant-loop-word : goal.invariant-loop-word
invariant-loop-word l = l.code.items ≡ l.fn.code.items ++ map Emit (take l.word-index l.word-items)
