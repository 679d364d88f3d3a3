use Rattle.std.proofs.Common.{ℕ, ◌<◌, ◌≡◌, map, slice_get}
use Rattle.net_graph.specs.Views.{pure_row}
use Rattle.testkit_nodes.proofs.equality.are_same_rows.Given as goal

-- the rows so far are the same
abbrev pub invariant-loop-place : goal.invariant-loop-place
invariant-loop-place l = (k : ℕ) → k < l.place → slice_get (map pure_row l.first) k ≡ slice_get (map pure_row l.second) k
