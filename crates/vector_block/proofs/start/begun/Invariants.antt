use Rattle.std.proofs.Common.{◌≡◌}
use Rattle.std.specs.List.{range_with_len}
use Rattle.vector_block.specs.Starts.{begun_store}
use Rattle.vector_block.specs.Stores.{IsStored, pure_store}
use Rattle.vector_block.proofs.start.begun.Given as goal

-- the origins of the destinations so far were reported
abbrev pub invariant-loop-dest : goal.invariant-loop-dest
invariant-loop-dest g l =
    let A = g.A.Algebra in
    let at = l.fn.site in
    record {
      stored : IsStored (A.is_sig at.algebra.now) at.net.now l.store;
      begun : pure_store (A.sig_value at.algebra.now) l.store ≡ begun_store at.net.now (range_with_len 0 l.dest);
    }
