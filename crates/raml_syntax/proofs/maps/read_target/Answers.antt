use Rattle.std.proofs.Common.{refl, sym, ap, Ok, Err, true, false}
use Rattle.std.proofs.lemmas.Result.{err_from_is_err_and}
use Rattle.raml_lex.specs.Tokens.{word}
use Rattle.raml_syntax.specs.declared.faults.ExprKind.TheVariants.{BadTable}
use Rattle.raml_syntax.specs.declared.faults.AlgError.TheVariants.{Bad}
use Rattle.raml_syntax.specs.Marks.{tested}
use Rattle.raml_syntax.specs.Maps.{target_mark}
use Rattle.raml_syntax.proofs.Tested.{one_tested, one_no_word}
use Rattle.raml_syntax.proofs.maps.read_target.Goals as goal

pub returns-in_err-word-clause-target : goal.returns-in_err-word-clause-target
returns-in_err-word-clause-target c =
    let p = err_from_is_err_and c.from_residual.result c.from_residual.ensures.1 in
    rw (p.1, p.2) (one_no_word (target_mark c.args.names.now) _ c.args.tokens.now c.take_word.new.tokens (λ w. refl) c.in_err-word.ensures.fault)

pub returns-then-is_target-clause-target : goal.returns-then-is_target-clause-target
returns-then-is_target-clause-target c =
    let w = c.in_ok-word.word in
    one_tested (target_mark c.args.names.now) w.text.now (word w.text.now) true w.place c.args.tokens.now c.take_word.new.tokens (Ok w.text.now)
    (ap (λ b. tested (word w.text.now) BadTable b) (sym c.if-is_target.ensures)) c.in_ok-word.ensures.word refl

pub returns-else-is_target-clause-target : goal.returns-else-is_target-clause-target
returns-else-is_target-clause-target c =
    let w = c.in_ok-word.word in
    rw c.refused.ensures
    (one_tested (target_mark c.args.names.now) w.text.now (word w.text.now) false w.place c.args.tokens.now c.take_word.new.tokens (Err (Bad (record { kind = BadTable; place = w.place })))
    (ap (λ b. tested (word w.text.now) BadTable b) (sym c.if-is_target.ensures)) c.in_ok-word.ensures.word refl)
