use Rattle.std.proofs.Common.{Ok, sym, subst}
use Rattle.std.proofs.lemmas.Result.{err_from_is_err_and}
use Rattle.raml_lex.specs.Tokens.{right_paren}
use Rattle.raml_syntax.specs.Meaning.{single_meaning}
use Rattle.raml_syntax.specs.Heads.{single_of}
use Rattle.raml_syntax.specs.Forest.{tree_at}
use Rattle.raml_syntax.specs.Forms.{After}
use Rattle.raml_syntax.specs.Sequences.{Nothing, Reads}
use Rattle.raml_syntax.proofs.After.{nothing_possible, following_last, following_misses}
use Rattle.raml_syntax.proofs.expression.close_single.Goals as goal

pub returns-in_err-take_mark-clause-reads : goal.returns-in_err-take_mark-clause-reads
returns-in_err-take_mark-clause-reads c =
    let p = err_from_is_err_and c.from_residual.result c.from_residual.ensures.1 in
    let a = single_meaning (single_of c.args.kind) (tree_at c.args.definitions.now.trees c.args.part) in
    rw (p.1, p.2) (following_misses right_paren (Nothing a) c.args.tokens.now c.take_mark.new.tokens _ (nothing_possible a) (λ m e. cc) c.in_err-take_mark.ensures.fault)

pub returns-clause-reads : goal.returns-clause-reads
returns-clause-reads c =
    let a = single_meaning (single_of c.args.kind) (tree_at c.args.definitions.now.trees c.args.part) in
    subst (λ x. Reads (After right_paren (Nothing a)) c.args.tokens.now (Ok x) c.take_mark.new.tokens) (sym c.in_ok-plant.ensures.means)
    (following_last right_paren a c.args.tokens.now c.take_mark.new.tokens c.in_ok-take_mark.ensures.mark)
