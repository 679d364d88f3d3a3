use Rattle.std.proofs.Common.{ℕ, ◌<◌, ◌≡◌, Some, slice_get}
use Rattle.net_graph.specs.Tables.{PureRow}
use Rattle.net_graph.specs.Views.{rows_of}
use Rattle.stable_check.specs.Checks.{IsRowAt}
use Rattle.stable_check.proofs.table.is_table_of.Given as goal

-- the rows so far stand in their places
abbrev pub invariant-loop-node : goal.invariant-loop-node
invariant-loop-node l = (k : ℕ) → k < l.node → (row : PureRow) → slice_get (rows_of l.table) k ≡ Some row → IsRowAt l.net l.table.dest.0 k row
