use Rattle.std.proofs.Common.{refl, true, false}
use Rattle.std.proofs.lemmas.Result.{err_from_is_err_and}
use Rattle.raml_lex.specs.declared.token.TokenKind.TheVariants as kind
use Rattle.raml_lex.specs.Views.{tok_of}
use Rattle.raml_syntax.specs.declared.values.AfterValue.TheVariants as after
use Rattle.raml_syntax.specs.Values.{after_value}
use Rattle.raml_syntax.proofs.Tested.{one_ends, one_other, one_kind}
use Rattle.raml_syntax.proofs.ValueReading.{value_no_number, value_no_other}
use Rattle.raml_syntax.proofs.values.take_after_value.Goals as goal

pub returns-in_err-token-clause-mark : goal.returns-in_err-token-clause-mark
returns-in_err-token-clause-mark c =
    let p = err_from_is_err_and c.from_residual.result c.from_residual.ensures.1 in
    rw (p.1, p.2) (one_ends after_value after.Rows _ c.args.tokens.now c.take.new.tokens value_no_number c.in_err-token.ensures.fault)

pub returns-in-Equals-clause-mark : goal.returns-in-Equals-clause-mark
returns-in-Equals-clause-mark c =
    let t = c.in_ok-token.token in
    one_kind after_value (after.Value true) t.kind kind.Equals t.text.now t.place c.args.tokens.now c.take.new.tokens refl c.in-Equals.is c.in_ok-token.ensures.token

pub returns-in-Less-clause-mark : goal.returns-in-Less-clause-mark
returns-in-Less-clause-mark c =
    let t = c.in_ok-token.token in
    one_kind after_value (after.Value false) t.kind kind.Less t.text.now t.place c.args.tokens.now c.take.new.tokens refl c.in-Less.is c.in_ok-token.ensures.token

pub returns-in-Semicolon-clause-mark : goal.returns-in-Semicolon-clause-mark
returns-in-Semicolon-clause-mark c =
    let t = c.in_ok-token.token in
    one_kind after_value after.Rows t.kind kind.Semicolon t.text.now t.place c.args.tokens.now c.take.new.tokens refl c.in-Semicolon.is c.in_ok-token.ensures.token

pub returns-in_default-clause-mark : goal.returns-in_default-clause-mark
returns-in_default-clause-mark c =
    let t = c.in_ok-token.token in
    rw c.refused.ensures
    (one_other after_value after.Rows (tok_of t.kind t.text.now) t.place c.args.tokens.now c.take.new.tokens c.take.new.tokens value_no_number
    (value_no_other t.kind t.text.now c.in_default.not-Equals c.in_default.not-Less c.in_default.not-Semicolon) c.in_ok-token.ensures.token)
