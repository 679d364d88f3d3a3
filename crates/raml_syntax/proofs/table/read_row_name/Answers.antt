use Rattle.std.proofs.Common.{refl, subst, sym, ◌≡◌, ◌∙◌, ◌&&◌, ◌+◌, not, nat_le, length}
use Rattle.std.proofs.lemmas.Result.{err_from_is_err_and}
use Rattle.alg_model.specs.declared.alg.TheConstants.{MAX_TABLE_NAMES}
use Rattle.std.proofs.lemmas.List.{length-map}
use Rattle.alg_model.specs.declared.tree.TableRow.{TableRow}
use Rattle.raml_lex.specs.Tokens.{word}
use Rattle.raml_syntax.specs.Marks.{own_name}
use Rattle.raml_syntax.specs.Rows.{row_names}
use Rattle.raml_syntax.specs.Syntax.{is_none, is_among}
use Rattle.raml_syntax.specs.Tested.{Tested}
use Rattle.raml_syntax.proofs.Words.{word_ascii, among_rows}
use Rattle.raml_syntax.proofs.Tested.{one_tested, one_no_word}
use Rattle.raml_syntax.proofs.table.read_row_name.Goals as goal

pub new_name-requires : goal.new_name-requires
new_name-requires c = word_ascii c.in_ok-word.word.text.now c.args.tokens.now c.take_word.new.tokens c.in_ok-word.ensures.word.takes

pub returns-in_err-word-clause-name : goal.returns-in_err-word-clause-name
returns-in_err-word-clause-name c =
    let p = err_from_is_err_and c.from_residual.result c.from_residual.ensures.1 in
    rw (p.1, p.2) (one_no_word (own_name (row_names c.args.rows.now)) _ c.args.tokens.now c.take_word.new.tokens (λ w. refl) c.in_err-word.ensures.fault)

pub returns-clause-name : goal.returns-clause-name
returns-clause-name c =
    let w = c.in_ok-word.word in
    let rows = c.args.rows.now in
    let before = row_names rows in
    let there = c.is_row.ensures ∙ sym (among_rows rows w.text.now) in
    let count : length rows ≡ length before = sym (length-map rows (λ (row : TableRow). row.name)) in
    let same : Tested (not (is_none w.text.now) && not (is_among before w.text.now) && nat_le (length before + 1) MAX_TABLE_NAMES) w.place w.text.now c.new_name.result =
    subst (λ n. Tested (not (is_none w.text.now) && not (is_among before w.text.now) && nat_le (n + 1) MAX_TABLE_NAMES) w.place w.text.now c.new_name.result) count
    (subst (λ b. Tested (not (is_none w.text.now) && not b && nat_le (length rows + 1) MAX_TABLE_NAMES) w.place w.text.now c.new_name.result) there c.new_name.ensures) in
    one_tested (own_name before) w.text.now (word w.text.now) (not (is_none w.text.now) && not (is_among before w.text.now) && nat_le (length before + 1) MAX_TABLE_NAMES) w.place
    c.args.tokens.now c.take_word.new.tokens c.new_name.result refl c.in_ok-word.ensures.word same
