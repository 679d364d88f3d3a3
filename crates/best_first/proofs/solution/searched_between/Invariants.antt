use Rattle.std.proofs.Common.{◌≡◌, ◌+◌, length}
use Rattle.best_first.specs.Fixed.{AreFixedFrom}
use Rattle.best_first.specs.Queue.{IsClear}
use Rattle.best_first.proofs.solution.searched_between.Given as goal

-- the routes so far are those of the destinations so far, and nothing is open
abbrev pub invariant-loop-dest : goal.invariant-loop-dest
invariant-loop-dest g l = record {
  found : AreFixedFrom (g.A.Algebra.sig_value l.algebra) (g.A.Algebra.is_sig l.algebra) l.net l.fn.first l.found.items;
  count : l.fn.first + length l.found.items ≡ l.dest;
  clear : IsClear (length l.net.nodes) l.search.best.items l.search.standing;
}
