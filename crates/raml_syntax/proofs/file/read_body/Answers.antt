use Rattle.std.proofs.Common.{Ok, Err}
use Rattle.std.proofs.lemmas.Result.{err_from_is_err_and}
use Rattle.raml_lex.specs.Tokens.{semicolon}
use Rattle.raml_syntax.specs.Sequences.{Nothing}
use Rattle.raml_syntax.specs.Trees.{Expr}
use Rattle.raml_syntax.specs.Forest.{tree_at}
use Rattle.raml_syntax.specs.Forms.{After}
use Rattle.raml_syntax.proofs.Sequences.{reads_then, reads_not_first}
use Rattle.raml_syntax.proofs.Expressions.{expr_determined}
use Rattle.raml_syntax.proofs.After.{following_taken, following_misses, reads_nothing, nothing_possible}
use Rattle.raml_syntax.proofs.Statements.{ended_possible}
use Rattle.raml_syntax.proofs.file.read_body.Goals as goal

pub returns-in_err-tree-clause-reads : goal.returns-in_err-tree-clause-reads
returns-in_err-tree-clause-reads c =
    let p = err_from_is_err_and c.from_residual.result c.from_residual.ensures.1 in
    rw (p.1, p.2)
    (reads_not_first (Expr c.args.definitions.now.defined 0) (λ a. After semicolon (Nothing a)) c.args.tokens.now c.read_expression.new.tokens _ ended_possible c.in_err-tree.ensures.reads)

pub returns-in_err-take_mark-clause-reads : goal.returns-in_err-take_mark-clause-reads
returns-in_err-take_mark-clause-reads c =
    let p = err_from_is_err_and c.from_residual-in_err-take_mark.result c.from_residual-in_err-take_mark.ensures.1 in
    let a = tree_at c.read_expression.new.definitions.trees c.in_ok-tree.tree in
    let ds = c.args.definitions.now.defined in
    rw (p.1, p.2)
    (reads_then (Expr ds 0) (λ a. After semicolon (Nothing a)) c.args.tokens.now c.read_expression.new.tokens c.take_mark.new.tokens a (Err c.in_err-take_mark.field-0.0) (expr_determined ds 0) c.in_ok-tree.ensures.reads
    (following_misses semicolon (Nothing a) c.read_expression.new.tokens c.take_mark.new.tokens _ (nothing_possible a) (λ n e. cc) c.in_err-take_mark.ensures.fault))

pub returns-clause-reads : goal.returns-clause-reads
returns-clause-reads c =
    let a = tree_at c.read_expression.new.definitions.trees c.in_ok-tree.tree in
    let ds = c.args.definitions.now.defined in
    reads_then (Expr ds 0) (λ a. After semicolon (Nothing a)) c.args.tokens.now c.read_expression.new.tokens c.take_mark.new.tokens a (Ok a) (expr_determined ds 0) c.in_ok-tree.ensures.reads
    (following_taken semicolon (Nothing a) c.read_expression.new.tokens c.take_mark.new.tokens c.take_mark.new.tokens (Ok a) c.in_ok-take_mark.ensures.mark (reads_nothing a c.take_mark.new.tokens))
