use Rattle.std.proofs.Common.{◌≡◌, take}
use Rattle.code_gen.proofs.decoding.narrowed.Given as goal

abbrev pub invariant-loop-word : goal.invariant-loop-word
invariant-loop-word l = l.symbols ≡ take l.word-index l.words
