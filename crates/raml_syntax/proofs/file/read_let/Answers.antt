use Rattle.std.proofs.Common.{Ok, Err}
use Rattle.std.proofs.lemmas.Result.{err_from_is_err_and}
use Rattle.raml_lex.specs.Tokens.{equals}
use Rattle.raml_syntax.specs.Marks.{let_name}
use Rattle.raml_syntax.specs.Sequences.{Nothing, One}
use Rattle.raml_syntax.specs.Forest.{tree_at}
use Rattle.raml_syntax.specs.Forms.{After}
use Rattle.raml_syntax.specs.Statements.{Body}
use Rattle.raml_syntax.proofs.Sequences.{reads_then, reads_not_first}
use Rattle.raml_syntax.proofs.After.{following_taken, following_misses, following_possible, reads_nothing, nothing_possible}
use Rattle.raml_syntax.proofs.Statements.{body_determined, name_determined, defined, Defined, defined_possible}
use Rattle.raml_syntax.proofs.file.read_let.Goals as goal

pub returns-in_err-name-clause-reads : goal.returns-in_err-name-clause-reads
returns-in_err-name-clause-reads c =
    let p = err_from_is_err_and c.from_residual.result c.from_residual.ensures.1 in
    let ds = c.args.definitions.now.defined in
    rw (p.1, p.2)
    (reads_not_first (One (let_name ds)) (λ name. After equals (Defined ds name)) c.args.tokens.now c.take_new_name.new.tokens _
    (λ name. following_possible equals (Defined ds name) (defined_possible ds name)) c.in_err-name.ensures.reads)

pub returns-in_err-take_mark-clause-reads : goal.returns-in_err-take_mark-clause-reads
returns-in_err-take_mark-clause-reads c =
    let p = err_from_is_err_and c.from_residual-in_err-take_mark.result c.from_residual-in_err-take_mark.ensures.1 in
    let ds = c.args.definitions.now.defined in
    let name = c.in_ok-name.name.now in
    rw (p.1, p.2)
    (reads_then (One (let_name ds)) (λ name. After equals (Defined ds name)) c.args.tokens.now c.take_new_name.new.tokens c.take_mark.new.tokens name (Err c.in_err-take_mark.field-0.0)
    (name_determined ds) c.in_ok-name.ensures.reads
    (following_misses equals (Defined ds name) c.take_new_name.new.tokens c.take_mark.new.tokens _ (defined_possible ds name) (λ n e. cc) c.in_err-take_mark.ensures.fault))

pub returns-in_err-tree-clause-reads : goal.returns-in_err-tree-clause-reads
returns-in_err-tree-clause-reads c =
    let p = err_from_is_err_and c.from_residual-in_err-tree.result c.from_residual-in_err-tree.ensures.1 in
    let ds = c.args.definitions.now.defined in
    let name = c.in_ok-name.name.now in
    let e = c.in_err-tree.field-0.0 in
    rw (p.1, p.2)
    (reads_then (One (let_name ds)) (λ name. After equals (Defined ds name)) c.args.tokens.now c.take_new_name.new.tokens c.read_body.new.tokens name (Err e)
    (name_determined ds) c.in_ok-name.ensures.reads
    (following_taken equals (Defined ds name) c.take_new_name.new.tokens c.take_mark.new.tokens c.read_body.new.tokens (Err e) c.in_ok-take_mark.ensures.mark
    (reads_not_first (Body ds) (λ a. Nothing (defined ds name a)) c.take_mark.new.tokens c.read_body.new.tokens e (λ a. nothing_possible (defined ds name a)) c.in_err-tree.ensures.reads)))

pub returns-clause-reads : goal.returns-clause-reads
returns-clause-reads c =
    let ds = c.args.definitions.now.defined in
    let name = c.in_ok-name.name.now in
    let a = tree_at c.read_body.new.definitions.trees c.in_ok-tree.tree in
    let es = defined ds name a in
    rw (c.in_ok-define.ensures.defined, c.in_ok-tree.ensures.keeps.defined)
    (reads_then (One (let_name ds)) (λ name. After equals (Defined ds name)) c.args.tokens.now c.take_new_name.new.tokens c.read_body.new.tokens name (Ok es)
    (name_determined ds) c.in_ok-name.ensures.reads
    (following_taken equals (Defined ds name) c.take_new_name.new.tokens c.take_mark.new.tokens c.read_body.new.tokens (Ok es) c.in_ok-take_mark.ensures.mark
    (reads_then (Body ds) (λ a. Nothing (defined ds name a)) c.take_mark.new.tokens c.read_body.new.tokens c.read_body.new.tokens a (Ok es) (body_determined ds) c.in_ok-tree.ensures.reads
    (reads_nothing es c.read_body.new.tokens))))
