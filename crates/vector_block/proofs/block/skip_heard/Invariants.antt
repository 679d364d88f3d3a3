use Rattle.std.proofs.Common.{◌≡◌, ◌-◌, length, drop}
use Rattle.vector_block.specs.Blocks.{waiting}
use Rattle.vector_block.specs.Stores.{pure_store}
use Rattle.vector_block.proofs.block.skip_heard.Given as goal

-- the same waits
abbrev pub invariant-loop-front : goal.invariant-loop-front
invariant-loop-front g l =
    let net = l._site.net.now in
    let reports = (pure_store (g.A.Algebra.sig_value l._site.algebra.now) l.store).reports in
    waiting net l.passed (drop l.front reports) ≡ waiting net l.fn.passed (drop l.fn.front reports)

abbrev pub decreases-loop-front : goal.decreases-loop-front
decreases-loop-front g l = length l.store.reports.items - l.front
