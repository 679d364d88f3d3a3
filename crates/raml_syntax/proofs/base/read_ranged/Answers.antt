use Rattle.std.proofs.Common.{ℕ, List, Err}
use Rattle.std.proofs.lemmas.Result.{err_from_is_err_and}
use Rattle.raml_lex.specs.Tokens.{left_paren, semicolon, dots}
use Rattle.alg_model.specs.Expressions.{Expression}
use Rattle.alg_model.specs.Views.{expression_of}
use Rattle.raml_syntax.specs.Syntax.{Ranged}
use Rattle.raml_syntax.specs.Meaning.{ranged_meaning}
use Rattle.raml_syntax.specs.Marks.{Mark}
use Rattle.raml_syntax.specs.Heads.{ranged_of}
use Rattle.raml_syntax.specs.Forms.{NumberBefore, Last}
use Rattle.raml_syntax.specs.Sequences.{Then, IsPossible, map_ok}
use Rattle.raml_syntax.proofs.Sequences.{reads_then, reads_not_first, then_possible}
use Rattle.raml_syntax.proofs.After.{following_taken, following_misses, number_before_determined, number_before_possible, last_possible}
use Rattle.raml_syntax.proofs.base.read_ranged.Goals as goal

-- what stands after the top
abbrev Range : Ranged → ℕ → Expression → List Mark → Type 0
Range k top = Then (NumberBefore dots) (λ low. Last (ranged_meaning k top low))

range_possible : (k : Ranged) (top : ℕ) → IsPossible (Range k top)
range_possible k top = then_possible (NumberBefore dots) (λ low. Last (ranged_meaning k top low)) (number_before_possible dots) (λ low. last_possible (ranged_meaning k top low))

pub returns-in_err-take_mark-clause-reads : goal.returns-in_err-take_mark-clause-reads
returns-in_err-take_mark-clause-reads c =
    let p = err_from_is_err_and c.from_residual.result c.from_residual.ensures.1 in
    let k = ranged_of c.args.kind in
    rw (p.1, p.2)
    (following_misses left_paren (Then (NumberBefore semicolon) (Range k)) c.args.tokens.now c.take_mark.new.tokens _
    (then_possible (NumberBefore semicolon) (Range k) (number_before_possible semicolon) (range_possible k)) (λ m e. cc) c.in_err-take_mark.ensures.fault)

pub returns-in_err-top-clause-reads : goal.returns-in_err-top-clause-reads
returns-in_err-top-clause-reads c =
    let p = err_from_is_err_and c.from_residual-in_err-top.result c.from_residual-in_err-top.ensures.1 in
    let k = ranged_of c.args.kind in
    rw (p.1, p.2)
    (following_taken left_paren (Then (NumberBefore semicolon) (Range k)) c.args.tokens.now c.take_mark.new.tokens c.read_number_before.new.tokens (Err c.in_err-top.field-0.0) c.in_ok-take_mark.ensures.mark
    (reads_not_first (NumberBefore semicolon) (Range k) c.take_mark.new.tokens c.read_number_before.new.tokens _ (range_possible k) c.in_err-top.ensures.reads))

pub returns-in_err-low-clause-reads : goal.returns-in_err-low-clause-reads
returns-in_err-low-clause-reads c =
    let p = err_from_is_err_and c.from_residual-in_err-low.result c.from_residual-in_err-low.ensures.1 in
    let k = ranged_of c.args.kind in
    let top = c.in_ok-top.top in
    rw (p.1, p.2)
    (following_taken left_paren (Then (NumberBefore semicolon) (Range k)) c.args.tokens.now c.take_mark.new.tokens c.read_number_before-2.new.tokens (Err c.in_err-low.field-0.0) c.in_ok-take_mark.ensures.mark
    (reads_then (NumberBefore semicolon) (Range k) c.take_mark.new.tokens c.read_number_before.new.tokens c.read_number_before-2.new.tokens top (Err c.in_err-low.field-0.0)
    (number_before_determined semicolon) c.in_ok-top.ensures.reads
    (reads_not_first (NumberBefore dots) (λ low. Last (ranged_meaning k top low)) c.read_number_before.new.tokens c.read_number_before-2.new.tokens _ (λ low. last_possible (ranged_meaning k top low)) c.in_err-low.ensures.reads)))

pub returns-clause-reads : goal.returns-clause-reads
returns-clause-reads c =
    let k = ranged_of c.args.kind in
    let top = c.in_ok-top.top in
    let result = map_ok expression_of c.read_last.result in
    following_taken left_paren (Then (NumberBefore semicolon) (Range k)) c.args.tokens.now c.take_mark.new.tokens c.read_last.new.tokens result c.in_ok-take_mark.ensures.mark
    (reads_then (NumberBefore semicolon) (Range k) c.take_mark.new.tokens c.read_number_before.new.tokens c.read_last.new.tokens top result
    (number_before_determined semicolon) c.in_ok-top.ensures.reads
    (reads_then (NumberBefore dots) (λ low. Last (ranged_meaning k top low)) c.read_number_before.new.tokens c.read_number_before-2.new.tokens c.read_last.new.tokens c.in_ok-low.low result
    (number_before_determined dots) c.in_ok-low.ensures.reads c.read_last.ensures.reads))
