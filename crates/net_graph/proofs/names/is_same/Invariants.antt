use Rattle.std.proofs.Common.{◌≡◌, length}
use Rattle.std.specs.Str.{bytes_eq}
use Rattle.net_graph.proofs.names.is_same.Given as goal

-- what is left decides as the whole does
abbrev pub invariant-loop-first : goal.invariant-loop-first
invariant-loop-first l = bytes_eq l.first l.second ≡ bytes_eq l.fn.first l.fn.second

abbrev pub decreases-loop-first : goal.decreases-loop-first
decreases-loop-first l = length l.first
