use Rattle.std.proofs.Common.{◌≡◌}
use Rattle.alg_classes.specs.Flat.{numbers_below}
use Rattle.alg_classes.proofs.worse.numbers_below.Given as goal

abbrev pub invariant-loop-number : goal.invariant-loop-number
invariant-loop-number l = l.numbers ≡ numbers_below l.number
