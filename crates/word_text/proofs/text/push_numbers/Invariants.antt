use Rattle.std.proofs.Common.{◌≡◌, ◌++◌, drop}
use Rattle.alg_model.specs.Texts.{numbers_text}
use Rattle.sig_text.specs.Listed.{listed, separator}
use Rattle.word_text.proofs.text.push_numbers.Given as goal

abbrev pub invariant-loop-word : goal.invariant-loop-word
invariant-loop-word l = l.out ++ listed (separator l.follows) (drop l.word-index l.words) ≡ l.fn.out ++ numbers_text l.words
