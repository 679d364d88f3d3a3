use Rattle.std.proofs.Common.{◌≡◌, take}
use Rattle.code_gen.proofs.compile.entries.Given as goal

abbrev pub invariant-loop-image : goal.invariant-loop-image
invariant-loop-image l = l.entries ≡ take l.image-index l.image-items
