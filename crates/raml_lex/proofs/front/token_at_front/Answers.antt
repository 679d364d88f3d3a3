use Rattle.std.proofs.Common.{arith, rules}
use Rattle.meta_base.specs.Bytes.{is_digit, is_word_byte}
use Rattle.raml_lex.proofs.Fronts.{front_within, word_byte_in_line, digit_in_line}
use Rattle.raml_lex.proofs.front.token_at_front.Goals as goal

pub returns-in-len1-up-clause-fits : goal.returns-in-len1-up-clause-fits
returns-in-len1-up-clause-fits c =
    front_within is_word_byte c.args.text.now c.word_len.result word_byte_in_line (omega arith) (search rules) c.word_len.ensures.within c.word_len.ensures.front

pub returns-in-Some-clause-fits : goal.returns-in-Some-clause-fits
returns-in-Some-clause-fits c =
    front_within is_digit c.args.text.now c.in-Some.len digit_in_line (omega arith) (search rules) c.in-Some.ensures.within c.in-Some.ensures.front
