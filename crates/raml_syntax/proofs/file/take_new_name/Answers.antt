use Rattle.std.proofs.Common.{rules, ◌≡◌, [], refl, true, false, ◌||◌}
use Rattle.std.proofs.lemmas.Result.{err_from_is_err_and}
use Rattle.raml_lex.specs.Tokens.{word, number}
use Rattle.raml_syntax.specs.declared.faults.ExprKind.TheVariants.{NameTwice}
use Rattle.raml_syntax.specs.Syntax.{is_among}
use Rattle.raml_syntax.specs.Marks.{let_name}
use Rattle.raml_syntax.specs.Leaves.{IsWord}
use Rattle.raml_syntax.specs.Definitions.{names_of}
use Rattle.raml_syntax.specs.Statements.{is_reserved}
use Rattle.raml_syntax.proofs.OneToken.{one_good, one_bad, one_misses}
use Rattle.raml_syntax.proofs.Statements.{name_taken, name_free}
use Rattle.raml_syntax.proofs.file.take_new_name.Goals as goal

pub returns-in_err-word-clause-reads : goal.returns-in_err-word-clause-reads
returns-in_err-word-clause-reads c =
    let p = err_from_is_err_and c.from_residual.result c.from_residual.ensures.1 in
    rw (p.1, p.2)
    (one_misses (let_name c.args.definitions.now.defined) [] IsWord _ c.args.tokens.now c.take_word.new.tokens (λ w. (w, refl)) (λ n x. let e : number n ≡ word x.0 = x.1 in cc) c.in_err-word.ensures.fault)

pub returns-then-is_reserved-clause-reads : goal.returns-then-is_reserved-clause-reads
returns-then-is_reserved-clause-reads c =
    let w = c.in_ok-word.word.text.now in
    let ds = c.args.definitions.now.defined in
    let taken : (is_reserved w || is_among (names_of ds) w) ≡ true = search rules in
    rw c.refused.ensures (one_bad (let_name ds) w (word w) NameTwice c.in_ok-word.word.place c.args.tokens.now c.take_word.new.tokens c.take_word.new.tokens refl (name_taken ds w taken) c.in_ok-word.ensures.word)

pub returns-clause-reads : goal.returns-clause-reads
returns-clause-reads c =
    let w = c.in_ok-word.word.text.now in
    let ds = c.args.definitions.now.defined in
    let free : (is_reserved w || is_among (names_of ds) w) ≡ false = search rules in
    one_good (let_name ds) w (word w) c.args.tokens.now c.take_word.new.tokens refl (name_free ds w free) c.in_ok-word.ensures.word.takes
