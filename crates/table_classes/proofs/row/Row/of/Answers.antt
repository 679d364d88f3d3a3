use Rattle.std.proofs.Common.{◌≡◌, true}
use Rattle.alg_model.specs.Formation.{is_table}
use Rattle.table_classes.proofs.Tables.{row_is, row_is_of, within_rows, found_row}
use Rattle.table_classes.proofs.row.Row.of.Goals as goal

pub invariant_of-result : goal.invariant_of-result
invariant_of-result c =
    let t = c.in-Table-Row.table in
    let row = c.index-as_slice-from.result in
    let formed : is_table t ≡ true = rw c.in-Table-Row.is-0 at c.requires.formed in
    let within = within_rows c.args.tree.now c.args.label.now t c.in-Table-Row.place c.in-Table-Row.is-0 c.in-Table-Row.is-1 c.requires.label in
    let is = found_row t.rows c.as_slice-in-Table-Row-2.result.now c.in-Table-Row.place c.from.result row
    c.as_slice-in-Table-Row-2.ensures c.from.ensures c.index-as_slice-from.is in
    rw (c.as_slice.ensures, c.as_slice-in-Table-Row.ensures, c.as_slice-in-Table-Row-3.ensures, ← c.index-as_slice-from.is)
    (row_is t c.in-Table-Row.place row formed within is)

pub returns : goal.returns
returns c =
    let t = c.in-Table-Row.table in
    let row = c.index-as_slice-from.result in
    let within = within_rows c.args.tree.now c.args.label.now t c.in-Table-Row.place c.in-Table-Row.is-0 c.in-Table-Row.is-1 c.requires.label in
    let is = found_row t.rows c.as_slice-in-Table-Row-2.result.now c.in-Table-Row.place c.from.result row
    c.as_slice-in-Table-Row-2.ensures c.from.ensures c.index-as_slice-from.is in
    rw (c.in-Table-Row.is-0, c.in-Table-Row.is-1, c.as_slice.ensures, c.as_slice-in-Table-Row.ensures, c.as_slice-in-Table-Row-3.ensures, ← c.index-as_slice-from.is)
    (row_is_of t c.in-Table-Row.place row within is)
