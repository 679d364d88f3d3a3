use Rattle.std.proofs.Common.{rules, ◌≡◌, true, sym, subst}
use Rattle.raml_lex.specs.declared.token.TokenKind.TheVariants as k
use Rattle.raml_lex.specs.KnownFronts.{IsFront, stands}
use Rattle.raml_lex.proofs.KnownFronts.{word_front}
use Rattle.raml_lex.proofs.front.len_at_front.Goals as goal

pub returns-then-eq : goal.returns-then-eq
returns-then-eq c =
    let text = c.args.text.now in
    let len = c.word_len.result in
    let is : c.args.kind ≡ k.Word = search rules in
    subst (λ kind. IsFront kind text len) (sym is)
    (word_front text len (subst (λ kind. stands kind text ≡ true) is c.requires) c.word_len.ensures.within c.word_len.ensures.front c.word_len.ensures.after_front)
