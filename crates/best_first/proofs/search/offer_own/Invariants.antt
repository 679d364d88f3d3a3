use Rattle.std.proofs.Common.{◌≡◌, ℕ, length, vec_len}
use Rattle.net_graph.specs.Tables.{carrier}
use Rattle.best_first.specs.Found.{found_at}
use Rattle.best_first.specs.Keys.{best_of, routes_of}
use Rattle.best_first.specs.Queue.{IsOpen, no_route}
use Rattle.best_first.proofs.Origins.{own_so_far}
use Rattle.best_first.proofs.search.offer_own.Given as goal

-- the origins so far have made their offers
abbrev pub invariant-loop-origin : goal.invariant-loop-origin
invariant-loop-origin g l =
    let value = g.A.Algebra.sig_value l.algebra in
    record {
      count : vec_len l.search.best ≡ length l.net.nodes;
      queue : IsOpen value (g.A.Algebra.is_sig l.algebra) (carrier l.net) no_route l.search.best.items l.search.standing;
      found : (k : ℕ) → found_at (routes_of no_route (best_of value l.search.best.items)) k ≡ own_so_far l.net l.fn.dest.0 l.origin-index k;
    }
