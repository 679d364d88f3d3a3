use Rattle.std.proofs.Common.{sym}
use Rattle.net_graph.specs.Views.{rows_of}
use Rattle.report_check.proofs.Forms.{sig_small}
use Rattle.report_check.proofs.look.image_along.Goals as goal

pub image_into-requires-clause-small : goal.image_into-requires-clause-small
image_into-requires-clause-small g c =
    let form = c.args.form.now in
    let a = form.algebra.now in
    sig_small (g.A.Algebra.is_sig a) (g.A.Algebra.sig_value a) form.net.now form.table.now.dest.0 (rows_of form.table.now) form.rows.items c.requires.compiled.is_table c.requires.compiled.of_rows
    c.args.hop.now.node.0 c.in-Some.next.now (sym c.in-Some.ensures)
