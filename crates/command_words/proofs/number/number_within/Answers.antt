use Rattle.std.proofs.Common.{◌≡◌, true, refl, rules, arith}
use Rattle.std.specs.List.{list_all}
use Rattle.std.proofs.lemmas.Bool.Decides.{nat_tests}
use Rattle.meta_base.specs.Bytes.{is_digit}
use Rattle.command_words.proofs.Spelled.{parsed_within}
use Rattle.command_words.proofs.number.number_within.Goals as goal

pub returns-in_err-number-clause-number : goal.returns-in_err-number-clause-number
returns-in_err-number-clause-number c =
    let digits : list_all is_digit c.args.word.now ≡ true = search rules in
    let within = parsed_within c.args.least c.args.greatest c.args.word.now c.parse.result (omega arith) (omega arith) digits c.parse.ensures.value.0 in
    rw (c.from_residual.ensures, ← within, ← c.ok.ensures.value, c.in_err-number.was) refl

pub returns-then-number-greatest-clause-number : goal.returns-then-number-greatest-clause-number
returns-then-number-greatest-clause-number c =
    let digits : list_all is_digit c.args.word.now ≡ true = search rules in
    let within = parsed_within c.args.least c.args.greatest c.args.word.now c.parse.result (omega arith) (omega arith) digits c.parse.ensures.value.0 in
    rw (← within, ← c.ok.ensures.value, c.in_ok-number.was) (grind (arith, nat_tests))

pub returns-else-least-number-clause-number : goal.returns-else-least-number-clause-number
returns-else-least-number-clause-number c =
    let digits : list_all is_digit c.args.word.now ≡ true = search rules in
    let within = parsed_within c.args.least c.args.greatest c.args.word.now c.parse.result (omega arith) (omega arith) digits c.parse.ensures.value.0 in
    rw (← within, ← c.ok.ensures.value, c.in_ok-number.was) (grind (arith, nat_tests))
