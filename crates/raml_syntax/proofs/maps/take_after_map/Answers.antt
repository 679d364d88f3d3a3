use Rattle.std.proofs.Common.{refl}
use Rattle.raml_lex.specs.declared.token.TokenKind.TheVariants as kind
use Rattle.raml_syntax.specs.declared.maps.AfterMap.TheVariants as after
use Rattle.raml_syntax.specs.Maps.{after_map}
use Rattle.raml_syntax.proofs.Taking.{takes_found}
use Rattle.raml_syntax.proofs.Tested.{one_kind}
use Rattle.raml_syntax.proofs.maps.take_after_map.Goals as goal

pub returns-in-Some-clause-mark : goal.returns-in-Some-clause-mark
returns-in-Some-clause-mark c =
    let t = c.in-Some.field-0 in
    let found = c.in-Some.ensures in
    one_kind after_map after.Map t.kind kind.Comma t.text.now t.place c.args.tokens.now c.next_at_hand.new.self refl found.kind (takes_found c.args.tokens.now c.next_at_hand.new.self t found.token)
