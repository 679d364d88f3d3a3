use Rattle.std.proofs.Common.{◌≡◌, refl, ap}
use Rattle.std.proofs.lemmas.Result.{err_from_is_err_and}
use Rattle.raml_lex.specs.Tokens.{word, number}
use Rattle.raml_syntax.specs.declared.file.Keyword.TheVariants as k
use Rattle.raml_syntax.specs.Marks.{plain_word}
use Rattle.raml_syntax.specs.Leaves.{IsWord}
use Rattle.raml_syntax.specs.Statements.{keyword_word}
use Rattle.raml_syntax.proofs.OneToken.{one_good, one_misses}
use Rattle.raml_syntax.proofs.Statements.{one_other, no_keyword}
use Rattle.raml_syntax.proofs.file.take_keyword.Goals as goal

pub returns-in_err-word-clause-reads : goal.returns-in_err-word-clause-reads
returns-in_err-word-clause-reads c =
    let p = err_from_is_err_and c.from_residual.result c.from_residual.ensures.1 in
    rw (p.1, p.2)
    (one_misses (λ key. plain_word (keyword_word key)) k.Main IsWord _ c.args.tokens.now c.take_word.new.tokens (λ key. (keyword_word key, refl)) (λ n x. let e : number n ≡ word x.0 = x.1 in cc) c.in_err-word.ensures.fault)

pub returns-in-Some-clause-reads : goal.returns-in-Some-clause-reads
returns-in-Some-clause-reads c =
    one_good (λ key. plain_word (keyword_word key)) c.in-Some.keyword (word c.in_ok-word.word.text.now) c.args.tokens.now c.take_word.new.tokens (ap word c.in-Some.ensures) refl c.in_ok-word.ensures.word.takes

pub returns-in-None-clause-reads : goal.returns-in-None-clause-reads
returns-in-None-clause-reads c =
    rw c.refused.ensures
    (one_other (λ key. plain_word (keyword_word key)) k.Main (word c.in_ok-word.word.text.now) c.in_ok-word.word.place c.args.tokens.now c.take_word.new.tokens c.take_word.new.tokens
    (λ key n e. cc) (no_keyword c.in_ok-word.word.text.now c.in-None.ensures) c.in_ok-word.ensures.word)
