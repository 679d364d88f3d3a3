use Rattle.std.proofs.lemmas.Result.{err_from_is_err_and}
use Rattle.raml_lex.specs.Tokens.{left_paren}
use Rattle.alg_model.specs.Views.{expression_of}
use Rattle.raml_syntax.specs.Meaning.{counted_meaning}
use Rattle.raml_syntax.specs.Heads.{counted_of}
use Rattle.raml_syntax.specs.Forms.{Last}
use Rattle.raml_syntax.specs.Sequences.{map_ok}
use Rattle.raml_syntax.proofs.After.{following_taken, following_misses, last_possible}
use Rattle.raml_syntax.proofs.base.read_counted.Goals as goal

pub returns-in_err-take_mark-clause-reads : goal.returns-in_err-take_mark-clause-reads
returns-in_err-take_mark-clause-reads c =
    let p = err_from_is_err_and c.from_residual.result c.from_residual.ensures.1 in
    let f = counted_meaning (counted_of c.args.kind) in
    rw (p.1, p.2) (following_misses left_paren (Last f) c.args.tokens.now c.take_mark.new.tokens _ (last_possible f) (λ m e. cc) c.in_err-take_mark.ensures.fault)

pub returns-clause-reads : goal.returns-clause-reads
returns-clause-reads c =
    following_taken left_paren (Last (counted_meaning (counted_of c.args.kind))) c.args.tokens.now c.take_mark.new.tokens c.read_last.new.tokens (map_ok expression_of c.read_last.result)
    c.in_ok-take_mark.ensures.mark c.read_last.ensures.reads
