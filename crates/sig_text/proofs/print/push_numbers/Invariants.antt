use Rattle.std.proofs.Common.{◌≡◌, ◌++◌, drop}
use Rattle.std.specs.Prelude.{string_bytes}
use Rattle.alg_model.specs.Texts.{numbers_text}
use Rattle.sig_text.specs.Listed.{listed, separator}
use Rattle.sig_text.proofs.print.push_numbers.Given as goal

abbrev pub invariant-loop-n : goal.invariant-loop-n
invariant-loop-n l = string_bytes l.out ++ listed (separator l.follows) (drop l.n-index l.ns) ≡ string_bytes l.fn.out ++ numbers_text l.ns
