use Rattle.std.proofs.Common.{[], Ok, Err}
use Rattle.std.proofs.lemmas.Result.{err_from_is_err_and}
use Rattle.raml_syntax.specs.Rows.{MoreRows}
use Rattle.raml_syntax.proofs.Tested.{reads_at}
use Rattle.raml_syntax.proofs.RowReading.{rows_no_row, rows_end, rows_next}
use Rattle.raml_syntax.proofs.table.read_rows.Goals as goal

pub loop-rows-init : goal.loop-rows-init
loop-rows-init c = record {
  ready = c.requires.ready;
  rows = λ result new z. reads_at (MoreRows c.args.names.now) c.new-rows.result [] c.args.tokens.now new result c.new-rows.ensures z;
}

pub returns-in_err-row-clause-rows : goal.returns-in_err-row-clause-rows
returns-in_err-row-clause-rows c =
    let p = err_from_is_err_and c.from_residual.result c.from_residual.ensures.1 in
    rw (p.1, p.2)
    (c.loop-rows.invariant.rows (Err c.in_err-row.field-0.0) c.read_row.new.tokens
    (rows_no_row c.args.names.now c.loop-rows.rows c.as_slice.result.now c.loop-rows.tokens c.read_row.new.tokens c.in_err-row.field-0.0 c.as_slice.ensures c.in_err-row.ensures.row))

pub returns-in-End-clause-rows : goal.returns-in-End-clause-rows
returns-in-End-clause-rows c =
    c.loop-rows.invariant.rows (Ok c.push.new.self) c.read_row.new.tokens
    (rows_end c.args.names.now c.loop-rows.rows c.as_slice.result.now c.push.new.self c.loop-rows.tokens c.read_row.new.tokens c.in_ok-row.row c.in_ok-row.after
    c.as_slice.ensures c.in_ok-push.ensures.ok c.in-End.is c.in_ok-row.ensures.row)

pub loop-rows-preserved : goal.loop-rows-preserved
loop-rows-preserved c = record {
  ready = c.in_ok-row.ensures.ready;
  rows = λ result new z. c.loop-rows.invariant.rows result new
      (rows_next c.args.names.now c.loop-rows.rows c.as_slice.result.now c.push.new.self c.loop-rows.tokens c.read_row.new.tokens c.in_ok-row.row c.in_ok-row.after
      c.as_slice.ensures c.in_ok-push.ensures.ok c.in_default.is c.in_ok-row.ensures.row result new z);
}
