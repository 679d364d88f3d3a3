use Rattle.std.proofs.Common.{◌<◌, ◌∙◌, ap, slice_get, arith}
use Rattle.journal_merge.specs.MergeLaws.{lower_is_before}
use Rattle.journal_merge.proofs.laws.receipts_follow_sendings.Goals as goal

pub returns : goal.returns
returns c logs journal merged p q sending receipt stamp here there is above =
    let lower : sending.clock < receipt.clock = omega (arith, is, above) in
    lower_is_before merged.tagged merged.ascends p q sending receipt (ap (λ l. slice_get l p) merged.journal_is ∙ here) (ap (λ l. slice_get l q) merged.journal_is ∙ there) lower
