use Rattle.std.proofs.Common.{ap, ◌∙◌, Ok, Err}
use Rattle.std.proofs.lemmas.Result.{err_from_is_err_and}
use Rattle.raml_syntax.specs.Differing.{differ}
use Rattle.raml_syntax.proofs.DistinctNames.{values_differ}
use Rattle.raml_syntax.proofs.TableReading.{table_no_brace, table_no_values, table_read}
use Rattle.raml_syntax.proofs.table.read_table.Goals as goal

pub returns-in_err-take_mark-clause-table : goal.returns-in_err-take_mark-clause-table
returns-in_err-take_mark-clause-table c =
    let p = err_from_is_err_and c.from_residual.result c.from_residual.ensures.1 in
    rw (p.1, p.2) (table_no_brace c.args.tokens.now c.take_mark.new.tokens c.in_err-take_mark.field-0.0 c.in_err-take_mark.ensures.fault)

pub returns-in_err-values-clause-table : goal.returns-in_err-values-clause-table
returns-in_err-values-clause-table c =
    let p = err_from_is_err_and c.from_residual-in_err-values.result c.from_residual-in_err-values.ensures.1 in
    rw (p.1, p.2) (table_no_values c.args.tokens.now c.take_mark.new.tokens c.read_values.new.tokens c.in_err-values.field-0.0 c.in_ok-take_mark.ensures.mark c.in_err-values.ensures.values)

pub returns-in_err-rows-clause-table : goal.returns-in_err-rows-clause-table
returns-in_err-rows-clause-table c =
    let p = err_from_is_err_and c.from_residual-in_err-rows.result c.from_residual-in_err-rows.ensures.1 in
    rw (p.1, p.2)
    (table_read c.args.tokens.now c.take_mark.new.tokens c.read_values.new.tokens c.read_rows.new.tokens c.in_ok-values.values c.as_slice.result.now (Err c.in_err-rows.field-0.0)
    c.as_slice.ensures c.in_ok-take_mark.ensures.mark c.in_ok-values.ensures.values c.in_err-rows.ensures.rows)

pub returns-clause-table : goal.returns-clause-table
returns-clause-table c =
    table_read c.args.tokens.now c.take_mark.new.tokens c.read_values.new.tokens c.read_rows.new.tokens c.in_ok-values.values c.as_slice.result.now (Ok c.in_ok-rows.rows)
    c.as_slice.ensures c.in_ok-take_mark.ensures.mark c.in_ok-values.ensures.values c.in_ok-rows.ensures.rows

pub read_rows-requires-clause-distinct : goal.read_rows-requires-clause-distinct
read_rows-requires-clause-distinct c =
    let read = c.in_ok-values.ensures.values in
    ap differ c.as_slice.ensures ∙ values_differ c.in_ok-values.values read.0 read.1
