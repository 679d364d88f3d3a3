use Rattle.std.proofs.Common.{Err}
use Rattle.std.proofs.lemmas.Result.{err_from_is_err_and}
use Rattle.raml_lex.specs.Tokens.{left_paren, dots}
use Rattle.alg_model.specs.Expressions.{add}
use Rattle.alg_model.specs.Views.{expression_of}
use Rattle.raml_syntax.specs.Forms.{NumberBefore, Last}
use Rattle.raml_syntax.specs.Sequences.{Then, map_ok}
use Rattle.raml_syntax.proofs.Sequences.{reads_then, reads_not_first, then_possible}
use Rattle.raml_syntax.proofs.After.{following_taken, following_misses, number_before_determined, number_before_possible, last_possible}
use Rattle.raml_syntax.proofs.base.read_add.Goals as goal

pub returns-in_err-take_mark-clause-reads : goal.returns-in_err-take_mark-clause-reads
returns-in_err-take_mark-clause-reads c =
    let p = err_from_is_err_and c.from_residual.result c.from_residual.ensures.1 in
    rw (p.1, p.2)
    (following_misses left_paren (Then (NumberBefore dots) (λ low. Last (add low))) c.args.tokens.now c.take_mark.new.tokens _
    (then_possible (NumberBefore dots) (λ low. Last (add low)) (number_before_possible dots) (λ low. last_possible (add low))) (λ m e. cc) c.in_err-take_mark.ensures.fault)

pub returns-in_err-low-clause-reads : goal.returns-in_err-low-clause-reads
returns-in_err-low-clause-reads c =
    let p = err_from_is_err_and c.from_residual-in_err-low.result c.from_residual-in_err-low.ensures.1 in
    rw (p.1, p.2)
    (following_taken left_paren (Then (NumberBefore dots) (λ low. Last (add low))) c.args.tokens.now c.take_mark.new.tokens c.read_number_before.new.tokens (Err c.in_err-low.field-0.0) c.in_ok-take_mark.ensures.mark
    (reads_not_first (NumberBefore dots) (λ low. Last (add low)) c.take_mark.new.tokens c.read_number_before.new.tokens _ (λ low. last_possible (add low)) c.in_err-low.ensures.reads))

pub returns-clause-reads : goal.returns-clause-reads
returns-clause-reads c =
    let result = map_ok expression_of c.read_last.result in
    following_taken left_paren (Then (NumberBefore dots) (λ low. Last (add low))) c.args.tokens.now c.take_mark.new.tokens c.read_last.new.tokens result c.in_ok-take_mark.ensures.mark
    (reads_then (NumberBefore dots) (λ low. Last (add low)) c.take_mark.new.tokens c.read_number_before.new.tokens c.read_last.new.tokens c.in_ok-low.low result
    (number_before_determined dots) c.in_ok-low.ensures.reads c.read_last.ensures.reads)
