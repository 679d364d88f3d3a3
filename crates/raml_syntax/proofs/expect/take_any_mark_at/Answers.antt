use Rattle.std.proofs.Common.{rules, ◌≡◌, ap, subst, ◌∙◌}
use Rattle.raml_lex.specs.Views.{tok_of}
use Rattle.raml_syntax.specs.Leaves.{TakesAt}
use Rattle.raml_syntax.proofs.Taking.{mark_text}
use Rattle.raml_syntax.proofs.expect.take_any_mark_at.Goals as goal

pub returns-then-eq-clause-mark : goal.returns-then-eq-clause-mark
returns-then-eq-clause-mark c =
    let token = c.in_ok-token.token in
    let same : token.kind ≡ c.args.kind = search rules in
    subst (λ t. TakesAt t token.place c.args.tokens.now c.take.new.tokens)
    (ap (λ k. tok_of k token.text.now) same ∙ mark_text c.args.kind token.text.now c.requires.kind)
    c.in_ok-token.ensures.token
