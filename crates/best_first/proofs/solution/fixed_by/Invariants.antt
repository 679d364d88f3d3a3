use Rattle.std.proofs.Common.{◌≡◌, length, vec_len}
use Rattle.net_graph.specs.Tables.{carrier}
use Rattle.best_first.specs.Found.{none_count}
use Rattle.best_first.specs.State.{IsState}
use Rattle.best_first.specs.Fixed.{reported_by, fixed_routes, open_routes, AreFixedBy}
use Rattle.best_first.specs.Queue.{IsOpen}
use Rattle.best_first.proofs.solution.fixed_by.Given as goal

-- what holds between two nodes that are fixed
abbrev pub invariant-loop-fixed : goal.invariant-loop-fixed
invariant-loop-fixed g l =
    let value = g.A.Algebra.sig_value l.algebra in
    let is_sig = g.A.Algebra.is_sig l.algebra in
    let rows = l.fixed.rows in
    let paths = l.fixed.paths in
    record {
      rows_count : length l.fixed.rows ≡ length l.net.nodes;
      best_count : vec_len l.search.best ≡ length l.net.nodes;
      fixed : AreFixedBy is_sig rows paths;
      queue : IsOpen value is_sig (carrier l.net) (reported_by value paths rows) l.search.best.items l.search.standing;
      state : IsState l.net l.fn.dest.0 (fixed_routes value paths rows) (open_routes value paths rows l.search.best.items);
    }

abbrev pub decreases-loop-fixed : goal.decreases-loop-fixed
decreases-loop-fixed g l = none_count l.fixed.rows
