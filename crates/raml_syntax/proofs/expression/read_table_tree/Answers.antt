use Rattle.std.proofs.Common.{Ok, Err}
use Rattle.std.proofs.lemmas.Result.{err_from_is_err_and}
use Rattle.raml_syntax.proofs.Descent.{table_reads}
use Rattle.raml_syntax.proofs.expression.read_table_tree.Goals as goal

pub returns-in_err-read_table-clause-reads : goal.returns-in_err-read_table-clause-reads
returns-in_err-read_table-clause-reads c =
    let p = err_from_is_err_and c.from_residual.result c.from_residual.ensures.1 in
    rw (p.1, p.2) (table_reads c.args.tokens.now c.read_table.new.tokens (Err c.in_err-read_table.field-0.0) c.in_err-read_table.ensures.table)

pub returns-clause-reads : goal.returns-clause-reads
returns-clause-reads c = table_reads c.args.tokens.now c.read_table.new.tokens (Ok c.in_ok-read_table.field-0) c.in_ok-read_table.ensures.table
