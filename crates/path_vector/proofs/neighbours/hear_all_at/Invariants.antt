use Rattle.std.proofs.Common.{◌≡◌, length, slice_get, Some}
use Rattle.path_vector.specs.Known.{Listened}
use Rattle.path_vector.proofs.Moving.{IsMoved}
use Rattle.path_vector.proofs.neighbours.hear_all_at.Given as goal

-- what was heard for the destinations so far is moved
abbrev pub invariant-loop-dest : goal.invariant-loop-dest
invariant-loop-dest g l = (n m : Listened _ _) → slice_get l.fn.neighbours l.fn.place ≡ Some n → slice_get l.fn.others l.fn.at ≡ Some m
    → length n.heard ≡ l.fn.dests → length m.heard ≡ l.fn.dests → IsMoved n m l.fn.dests l.fn.place l.fn.at l.dest l.fn.neighbours l.fn.others l.neighbours l.others
