use Rattle.std.proofs.Common.{◌∙◌}
use Rattle.vector_block.specs.Stores.{pure_store}
use Rattle.vector_block.proofs.Starting.{origin_more}
use Rattle.vector_block.proofs.start.begin.Goals as goal

pub loop-origin-preserved : goal.loop-origin-preserved
loop-origin-preserved g c =
    let value = g.A.Algebra.sig_value c.args.site.now.algebra.now in
    record {
      stored = c.in_ok-report.ensures.stored;
      begun = c.in_ok-report.ensures.ok ∙ origin_more c.args.site.now.net.now c.args.dest.0 c.loop-origin.origin-index c.origins_of-origin-items.result.now c.origin-item.result (value c.in_ok-sig_of.field-0)
          (pure_store value c.args.store.now) (pure_store value c.loop-origin.store) c.origins_of-origin-items.ensures.origins c.origin-item.is c.loop-origin-test.true c.in_ok-sig_of.ensures.value c.loop-origin.invariant.begun;
    }
