use Rattle.std.proofs.Common.{◌≡◌, ◌++◌, drop}
use Rattle.std.specs.Prelude.{string_bytes}
use Rattle.report_text.specs.CodeTexts.{lines_from}
use Rattle.report_text.proofs.code.push_operations.Given as goal

-- with the lines that are left it has all of them
abbrev pub invariant-loop-place : goal.invariant-loop-place
invariant-loop-place g l = string_bytes l.out ++ lines_from g.T.Operation.text l.place (drop l.place l.code) ≡ string_bytes l.fn.out ++ lines_from g.T.Operation.text 0 l.code
