use Rattle.std.proofs.Common.{◌≡◌, ◌++◌, take}
use Rattle.label_code.proofs.output.Output.extend.Given as goal

abbrev pub invariant-loop-word : goal.invariant-loop-word
invariant-loop-word g l = g.Self.Output.written l.self ≡ g.Self.Output.written l.fn.self ++ take l.word-index l.words
