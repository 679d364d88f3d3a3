use Rattle.std.proofs.Common.{◌≡◌}
use Rattle.std.specs.Prelude.{IfSome, option_map}
use Rattle.net_graph.specs.Tables.{carrier}
use Rattle.path_vector.specs.Known.{offered_route}
use Rattle.path_vector.specs.Node.{best_of}
use Rattle.path_vector.proofs.Choices.{firsts}
use Rattle.path_vector.proofs.choosing.choose.Given as goal

-- the best of the offers of the own origin and of the neighbours so far
abbrev pub invariant-loop-place : goal.invariant-loop-place
invariant-loop-place g l =
    let value = g.A.Algebra.sig_value l.fn.site.algebra.now in
    record {
      sig : IfSome l.best (λ o. g.A.Algebra.is_sig l.fn.site.algebra.now o.sig);
      best : option_map (offered_route value l.fn.site.node.0) l.best ≡ best_of (carrier l.fn.site.net.now) (firsts value l.fn.site.net.now l.fn.site.node.0 l.fn.dest.0 l.fn.neighbours l.place);
    }
