use Rattle.std.proofs.Common.{Ok, Err, sym, ◌∙◌}
use Rattle.std.proofs.lemmas.Result.{err_from_is_err_and}
use Rattle.raml_lex.specs.Tokens.{right_paren}
use Rattle.raml_syntax.specs.Forms.{finished}
use Rattle.raml_syntax.specs.Sequences.{Nothing}
use Rattle.raml_syntax.proofs.After.{nothing_possible, following_last, following_misses, last_misses, last_breaks, last_then}
use Rattle.raml_syntax.proofs.base.read_last.Goals as goal

pub returns-in_err-last-clause-reads : goal.returns-in_err-last-clause-reads
returns-in_err-last-clause-reads c =
    let p = err_from_is_err_and c.from_residual.result c.from_residual.ensures.1 in
    rw (p.1, p.2) (last_misses (finished c.args.begun) c.args.tokens.now c.take_number.new.tokens _ c.in_err-last.ensures.fault)

pub returns-then-not-accepts-clause-reads : goal.returns-then-not-accepts-clause-reads
returns-then-not-accepts-clause-reads c =
    rw c.refused.ensures
    (last_breaks (finished c.args.begun) c.in_ok-last.last c.in_ok-last.place c.args.tokens.now c.take_number.new.tokens c.take_number.new.tokens
    (sym c.accepts.ensures ∙ c.if-not-accepts.true) c.in_ok-last.ensures.number)

pub returns-in_err-take_mark-clause-reads : goal.returns-in_err-take_mark-clause-reads
returns-in_err-take_mark-clause-reads c =
    let p = err_from_is_err_and c.from_residual-in_err-take_mark.result c.from_residual-in_err-take_mark.ensures.1 in
    let f = finished c.args.begun in
    let n = c.in_ok-last.last in
    rw (p.1, p.2)
    (last_then f n c.args.tokens.now c.take_number.new.tokens c.take_mark.new.tokens (Err c.in_err-take_mark.field-0.0) (sym c.accepts.ensures ∙ c.if-not-accepts.false) c.in_ok-last.ensures.number.takes
    (following_misses right_paren (Nothing (f n)) c.take_number.new.tokens c.take_mark.new.tokens _ (nothing_possible (f n)) (λ m e. cc) c.in_err-take_mark.ensures.fault))

pub returns-clause-reads : goal.returns-clause-reads
returns-clause-reads c =
    let f = finished c.args.begun in
    let n = c.in_ok-last.last in
    rw c.finish.ensures
    (last_then f n c.args.tokens.now c.take_number.new.tokens c.take_mark.new.tokens (Ok (f n)) (sym c.accepts.ensures ∙ c.if-not-accepts.false) c.in_ok-last.ensures.number.takes
    (following_last right_paren (f n) c.take_number.new.tokens c.take_mark.new.tokens c.in_ok-take_mark.ensures.mark))
