use Rattle.std.proofs.Common.{ap, subst, ◌∙◌}
use Rattle.raml_lex.specs.Views.{tok_of}
use Rattle.raml_syntax.specs.Leaves.{TakesAt}
use Rattle.raml_syntax.proofs.Taking.{mark_text, takes_found}
use Rattle.raml_syntax.proofs.expect.take_mark_at.Goals as goal

pub returns-in-Some-clause-mark : goal.returns-in-Some-clause-mark
returns-in-Some-clause-mark c =
    let token = c.in-Some.token in
    let found = c.in-Some.ensures in
    subst (λ t. TakesAt t token.place c.args.tokens.now c.next_at_hand.new.self)
    (ap (λ k. tok_of k token.text.now) found.kind ∙ mark_text c.args.kind token.text.now c.requires.kind)
    (takes_found c.args.tokens.now c.next_at_hand.new.self token found.token)
