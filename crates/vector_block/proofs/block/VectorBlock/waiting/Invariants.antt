use Rattle.std.proofs.Common.{◌≡◌, ◌+◌, length, drop}
use Rattle.vector_block.specs.Blocks.{waiting}
use Rattle.vector_block.specs.Stores.{pure_store}
use Rattle.vector_block.proofs.block.VectorBlock.waiting.Given as goal

-- what was counted and what is left is all that waits
abbrev pub invariant-loop-place : goal.invariant-loop-place
invariant-loop-place g l =
    let self = l.self-inside in
    let net = self.site.net.now in
    let reports = (pure_store (g.A.Algebra.sig_value self.site.algebra.now) self.store).reports in
    l.waiting + length (waiting net l.passed (drop l.place reports)) ≡ length (waiting net self.passed (drop self.front reports))
