use Rattle.std.proofs.Common.{refl}
use Rattle.std.proofs.lemmas.Result.{err_from_is_err_and}
use Rattle.raml_lex.specs.declared.token.TokenKind.TheVariants as kind
use Rattle.raml_lex.specs.Views.{tok_of}
use Rattle.raml_syntax.specs.declared.maps.AfterRow.TheVariants.{Row, End}
use Rattle.raml_syntax.specs.declared.maps.AfterMap.TheVariants as after
use Rattle.raml_syntax.specs.Maps.{after_map}
use Rattle.raml_syntax.proofs.Tested.{one_ends, one_other, one_kind}
use Rattle.raml_syntax.proofs.MapReading.{map_no_number, map_no_other}
use Rattle.raml_syntax.proofs.maps.take_any_after_map.Goals as goal

pub returns-in_err-token-clause-mark : goal.returns-in_err-token-clause-mark
returns-in_err-token-clause-mark c =
    let p = err_from_is_err_and c.from_residual.result c.from_residual.ensures.1 in
    rw (p.1, p.2) (one_ends after_map after.Map _ c.args.tokens.now c.take.new.tokens map_no_number c.in_err-token.ensures.fault)

pub returns-in-Comma-clause-mark : goal.returns-in-Comma-clause-mark
returns-in-Comma-clause-mark c =
    let t = c.in_ok-token.token in
    one_kind after_map after.Map t.kind kind.Comma t.text.now t.place c.args.tokens.now c.take.new.tokens refl c.in-Comma.is c.in_ok-token.ensures.token

pub returns-in-Semicolon-clause-mark : goal.returns-in-Semicolon-clause-mark
returns-in-Semicolon-clause-mark c =
    let t = c.in_ok-token.token in
    one_kind after_map (after.After Row) t.kind kind.Semicolon t.text.now t.place c.args.tokens.now c.take.new.tokens refl c.in-Semicolon.is c.in_ok-token.ensures.token

pub returns-in-RightBrace-clause-mark : goal.returns-in-RightBrace-clause-mark
returns-in-RightBrace-clause-mark c =
    let t = c.in_ok-token.token in
    one_kind after_map (after.After End) t.kind kind.RightBrace t.text.now t.place c.args.tokens.now c.take.new.tokens refl c.in-RightBrace.is c.in_ok-token.ensures.token

pub returns-in_default-clause-mark : goal.returns-in_default-clause-mark
returns-in_default-clause-mark c =
    let t = c.in_ok-token.token in
    rw c.refused.ensures
    (one_other after_map after.Map (tok_of t.kind t.text.now) t.place c.args.tokens.now c.take.new.tokens c.take.new.tokens map_no_number
    (map_no_other t.kind t.text.now c.in_default.not-Comma c.in_default.not-Semicolon c.in_default.not-RightBrace) c.in_ok-token.ensures.token)
