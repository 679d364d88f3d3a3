use Rattle.std.proofs.Common.{ap, ◌∙◌}
use Rattle.std.proofs.lemmas.Result.{err_from_is_err_and}
use Rattle.net_graph.specs.RowTexts.{row_text}
use Rattle.net_graph.specs.Views.{pure_row}
use Rattle.metacli.proofs.Written.{lines_at, lines_begin, lines_cut, lines_more, row_at}
use Rattle.metacli.proofs.writing.put_rows.Goals as goal

pub returns-in_err-lines : goal.returns-in_err-lines
returns-in_err-lines g c =
    let p = err_from_is_err_and c.from_residual.result c.from_residual.ensures.1 in
    rw (p.1, p.2) (_, lines_begin _ _)

pub write-requires : goal.write-requires
write-requires g c =
    rw c.loop-row.invariant.1 (row_at c.args.net.now c.args.rows.now c.loop-row.row-index c.row-item.result c.loop-row-test.true c.row-item.is c.requires)

pub returns-in_err-write : goal.returns-in_err-write
returns-in_err-write g c =
    let p = err_from_is_err_and c.from_residual-in_err-write.result c.from_residual-in_err-write.ensures.1 in
    rw (p.1, p.2) (_, c.loop-row.invariant.0)

pub returns-in_err-put_all : goal.returns-in_err-put_all
returns-in_err-put_all g c =
    let lines = lines_at c.args.net.now c.args.rows.now c.loop-row.row-index c.row-item.result c.loop-row-test.true c.row-item.is in
    let line = c.line.ensures ∙ c.in_ok-write.ensures.line ∙ ap (λ n. row_text n (pure_row c.row-item.result)) c.loop-row.invariant.1 in
    let p = err_from_is_err_and c.from_residual-in_err-put_all.result c.from_residual-in_err-put_all.ensures.1 in
    rw (p.1, p.2) (lines_cut _ _ _ _ _ _ (rw lines at c.loop-row.invariant.0) (rw line at c.in_err-put_all.ensures))

pub loop-row-preserved : goal.loop-row-preserved
loop-row-preserved g c =
    let lines = lines_at c.args.net.now c.args.rows.now c.loop-row.row-index c.row-item.result c.loop-row-test.true c.row-item.is in
    let line = c.line.ensures ∙ c.in_ok-write.ensures.line ∙ ap (λ n. row_text n (pure_row c.row-item.result)) c.loop-row.invariant.1 in
    (lines_more _ _ _ _ _ _ (rw lines at c.loop-row.invariant.0) (rw line at c.in_ok-put_all.ensures), c.write.ensures.net ∙ c.loop-row.invariant.1)
