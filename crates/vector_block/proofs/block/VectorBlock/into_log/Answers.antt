use Rattle.std.proofs.Common.{ℕ, ◌<◌, ap, length, subst}
use Rattle.std.specs.List.{AllByRecursion}
use Rattle.meta_base.specs.declared.ids.Delivery.{Delivery}
use Rattle.vector_block.specs.Blocks.{PureBlock}
use Rattle.vector_block.proofs.block.VectorBlock.into_log.Goals as goal

pub returns : goal.returns
returns g c = record {
  log = ap (λ (b : PureBlock). b.log) c.self.view_is;
  nodes = subst (λ (b : PureBlock). AllByRecursion (λ (t : ℕ × Delivery). t.0 < length b.net.nodes) b.log) c.self.view_is c.self.invariant.logged;
}
