use Rattle.std.proofs.Common.{◌≡◌, None, replicate}
use Rattle.topology_file.proofs.text_spots.empty_spots.Given as goal

-- so many spots were made
abbrev pub invariant-loop : goal.invariant-loop
invariant-loop g l = l.spots.items ≡ replicate l.counter None
