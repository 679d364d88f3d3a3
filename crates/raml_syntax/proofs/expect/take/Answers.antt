use Rattle.std.proofs.Common.{refl, ◌∙◌}
use Rattle.raml_syntax.proofs.Taking.{place_ended}
use Rattle.raml_syntax.proofs.expect.take.Goals as goal

pub returns-in-None-clause-fault : goal.returns-in-None-clause-fault
returns-in-None-clause-fault c =
    let ended = c.in-None.ensures.end in
    rw c.refused-in-None.ensures (c.place.ensures ∙ place_ended c.args.tokens.now c.next.new.self ended, rw ended.step refl)
