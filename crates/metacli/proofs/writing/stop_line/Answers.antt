use Rattle.std.proofs.Common.{◌≡◌, IfOk, subst}
use Rattle.report_text.specs.Refusals.{refusal_text}
use Rattle.metacli.proofs.writing.stop_line.Goals as goal

pub returns : goal.returns
returns c = λ net. subst (λ r. IfOk c.refusal_line.result (λ text. text ≡ refusal_text r net)) c.refusal.ensures (c.refusal_line.ensures net)
