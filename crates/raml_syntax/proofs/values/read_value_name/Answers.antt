use Rattle.std.proofs.Common.{refl, ◌&&◌, ◌+◌, not, nat_le, length}
use Rattle.std.proofs.lemmas.Result.{err_from_is_err_and}
use Rattle.alg_model.specs.declared.alg.TheConstants.{MAX_TABLE_NAMES}
use Rattle.raml_lex.specs.Tokens.{word}
use Rattle.raml_syntax.specs.Marks.{own_name}
use Rattle.raml_syntax.specs.Syntax.{is_none, is_among}
use Rattle.raml_syntax.proofs.Words.{word_ascii}
use Rattle.raml_syntax.proofs.Tested.{one_tested, one_no_word}
use Rattle.raml_syntax.proofs.values.read_value_name.Goals as goal

pub new_name-requires : goal.new_name-requires
new_name-requires c = word_ascii c.in_ok-word.word.text.now c.args.tokens.now c.take_word.new.tokens c.in_ok-word.ensures.word.takes

pub returns-in_err-word-clause-name : goal.returns-in_err-word-clause-name
returns-in_err-word-clause-name c =
    let p = err_from_is_err_and c.from_residual.result c.from_residual.ensures.1 in
    rw (p.1, p.2) (one_no_word (own_name c.args.names.now) _ c.args.tokens.now c.take_word.new.tokens (λ w. refl) c.in_err-word.ensures.fault)

pub returns-clause-name : goal.returns-clause-name
returns-clause-name c =
    let w = c.in_ok-word.word in
    let names = c.args.names.now in
    one_tested (own_name names) w.text.now (word w.text.now) (not (is_none w.text.now) && not (is_among names w.text.now) && nat_le (length names + 1) MAX_TABLE_NAMES) w.place
    c.args.tokens.now c.take_word.new.tokens c.new_name.result refl c.in_ok-word.ensures.word (rw c.is_among.ensures at c.new_name.ensures)
