use Rattle.std.proofs.Common.{◌≡◌, take}
use Rattle.sig_text.proofs.value.symbols_of.Given as goal

abbrev pub invariant-loop-n : goal.invariant-loop-n
invariant-loop-n l = l.symbols ≡ take l.n-index l.numbers
