use Rattle.std.proofs.Common.{◌≡◌, take}
use Rattle.net_graph.specs.Nets.{origins_of}
use Rattle.vector_block.specs.Starts.{with_origins}
use Rattle.vector_block.specs.Stores.{IsStored, pure_store}
use Rattle.vector_block.proofs.start.begin.Given as goal

-- the origins so far were reported
abbrev pub invariant-loop-origin : goal.invariant-loop-origin
invariant-loop-origin g l =
    let A = g.A.Algebra in
    let at = l.fn.site in
    let value = A.sig_value at.algebra.now in
    record {
      stored : IsStored (A.is_sig at.algebra.now) at.net.now l.store;
      begun : pure_store value l.store ≡ with_origins (pure_store value l.fn.store) (take l.origin-index (origins_of at.net.now l.fn.dest.0));
    }
