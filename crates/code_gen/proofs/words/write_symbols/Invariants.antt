use Rattle.std.proofs.Common.{◌≡◌, ◌++◌, ◌∷◌, length, take}
use Rattle.code_gen.proofs.words.write_symbols.Given as goal

abbrev pub invariant-loop-symbol : goal.invariant-loop-symbol
invariant-loop-symbol g l = g.W.Output.written l.out ≡ g.W.Output.written l.fn.out ++ length l.symbols ∷ take l.symbol-index l.symbols
