use Rattle.std.proofs.Common.{◌≡◌}
use Rattle.std.specs.Prelude.{IfSome, option_map}
use Rattle.net_graph.specs.Tables.{carrier}
use Rattle.path_vector.specs.Node.{best_of}
use Rattle.vector_block.specs.Stores.{MayBeChosen, chosen_route, pure_store}
use Rattle.vector_block.proofs.Chooses.{firsts}
use Rattle.vector_block.proofs.choose.choose.Given as goal

-- the best of the offers of the own origin and of the neighbours so far
abbrev pub invariant-loop-place : goal.invariant-loop-place
invariant-loop-place g l =
    let at = l.fn.site in
    let value = g.A.Algebra.sig_value at.algebra.now in
    record {
      may : IfSome l.best (MayBeChosen (g.A.Algebra.is_sig at.algebra.now) at.net.now l.fn.store);
      best : option_map (chosen_route value l.fn.store.paths l.fn.node.0) l.best
          ≡ best_of (carrier at.net.now) (firsts at.net.now (pure_store value l.fn.store) l.fn.node.0 l.fn.dest.0 l.place);
    }
