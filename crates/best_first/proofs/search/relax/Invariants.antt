use Rattle.std.proofs.Common.{◌≡◌, ℕ, length, vec_len}
use Rattle.net_graph.specs.Tables.{carrier}
use Rattle.best_first.specs.Found.{found_at}
use Rattle.best_first.specs.State.{relaxed}
use Rattle.best_first.specs.Fixed.{reported_by, open_routes}
use Rattle.best_first.specs.Queue.{IsOpen}
use Rattle.best_first.proofs.Listeners.{spoken_so_far}
use Rattle.best_first.proofs.search.relax.Given as goal

-- the arcs so far have made their offers
abbrev pub invariant-loop-listener : goal.invariant-loop-listener
invariant-loop-listener g l =
    let value = g.A.Algebra.sig_value l.algebra in
    let rows = l.fixed.rows in
    let paths = l.fixed.paths in
    let reported = reported_by value paths rows in
    record {
      count : vec_len l.search.best ≡ length l._net.nodes;
      queue : IsOpen value (g.A.Algebra.is_sig l.algebra) (carrier l._net) reported l.search.best.items l.search.standing;
      found : (k : ℕ) → found_at (open_routes value paths rows l.search.best.items) k ≡ relaxed (carrier l._net) (reported k) (found_at (open_routes value paths rows l.fn.search.best.items) k) (spoken_so_far l._net l.fn.place.node.0 (reported l.fn.place.node.0) l.listener-index k);
    }
