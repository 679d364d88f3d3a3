use Rattle.std.proofs.Common.{◌≡◌, None, replicate}
use Rattle.vector_block.proofs.start.nothing.Given as goal

-- nothing at each place so far
abbrev pub invariant-loop-place : goal.invariant-loop-place
invariant-loop-place l = l.none.items ≡ replicate l._place None
