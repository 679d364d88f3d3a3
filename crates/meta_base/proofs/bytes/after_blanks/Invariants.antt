use Rattle.std.proofs.Common.{◌≡◌, length}
use Rattle.meta_base.specs.Bytes.{after_front}
use Rattle.meta_base.specs.Bytes.{is_blank}
use Rattle.meta_base.proofs.bytes.after_blanks.Given as goal

abbrev pub invariant-loop-rest : goal.invariant-loop-rest
invariant-loop-rest l = after_front is_blank l.rest ≡ after_front is_blank l.text

abbrev pub decreases-loop-rest : goal.decreases-loop-rest
decreases-loop-rest l = length l.rest
