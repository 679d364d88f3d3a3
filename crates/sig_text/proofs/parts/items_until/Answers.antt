use Rattle.std.proofs.Common.{◌∙◌}
use Rattle.sig_text.proofs.Items.{items_more}
use Rattle.sig_text.proofs.parts.items_until.Goals as goal

pub loop-numbers-preserved : goal.loop-numbers-preserved
loop-numbers-preserved c =
    rw c.in_ok-push.ensures.items
    (c.loop-numbers.invariant ∙ items_more _ _ _ _ _ _ _ _ c.in_ok-n.ensures.0 c.in-Mark.ensures c.if-mark-closing.false c.in-Mark-eq44-default.field-0-test)
