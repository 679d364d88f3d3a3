use Rattle.std.proofs.Common.{[], Ok, Err}
use Rattle.std.proofs.lemmas.Result.{err_from_is_err_and}
use Rattle.raml_lex.specs.Views.{tok_of}
use Rattle.raml_syntax.proofs.After.{mark_no_number, nothing_possible, following_last, following_misses, number_before_misses, number_before_then}
use Rattle.raml_syntax.specs.Sequences.{Nothing}
use Rattle.raml_syntax.proofs.base.read_number_before.Goals as goal

pub returns-in_err-number-clause-reads : goal.returns-in_err-number-clause-reads
returns-in_err-number-clause-reads c =
    let p = err_from_is_err_and c.from_residual.result c.from_residual.ensures.1 in
    rw (p.1, p.2) (number_before_misses (tok_of c.args.mark []) c.args.tokens.now c.take_number.new.tokens _ c.in_err-number.ensures.fault)

pub returns-in_err-take_mark-clause-reads : goal.returns-in_err-take_mark-clause-reads
returns-in_err-take_mark-clause-reads c =
    let p = err_from_is_err_and c.from_residual-in_err-take_mark.result c.from_residual-in_err-take_mark.ensures.1 in
    let n = c.in_ok-number.number in
    let t = tok_of c.args.mark [] in
    rw (p.1, p.2) (number_before_then t n c.args.tokens.now c.take_number.new.tokens c.take_mark.new.tokens (Err c.in_err-take_mark.field-0.0) c.in_ok-number.ensures.number.takes
    (following_misses t (Nothing n) c.take_number.new.tokens c.take_mark.new.tokens _ (nothing_possible n) (mark_no_number c.args.mark c.requires.mark) c.in_err-take_mark.ensures.fault))

pub returns-clause-reads : goal.returns-clause-reads
returns-clause-reads c =
    let n = c.in_ok-number.number in
    let t = tok_of c.args.mark [] in
    number_before_then t n c.args.tokens.now c.take_number.new.tokens c.take_mark.new.tokens (Ok n) c.in_ok-number.ensures.number.takes
    (following_last t n c.take_number.new.tokens c.take_mark.new.tokens c.in_ok-take_mark.ensures.mark)
