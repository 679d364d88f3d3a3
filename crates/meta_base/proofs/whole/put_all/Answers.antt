use Rattle.meta_base.proofs.Pieces.{HasFront-more}
use Rattle.meta_base.proofs.whole.put_all.Goals as goal

pub loop-done-preserved : goal.loop-done-preserved
loop-done-preserved g c = HasFront-more _ _ _ _ _ _ c.loop-done.invariant c.in_ok-done.ensures
