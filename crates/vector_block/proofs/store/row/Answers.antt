use Rattle.std.proofs.Common.{◌≡◌, ◌<◌, length, sym, ap, ◌∙◌, subst, arith}
use Rattle.std.proofs.lemmas.Option.{slice_get_within}
use Rattle.vector_block.specs.Stores.{IsReported, said_by}
use Rattle.vector_block.proofs.Stores.{column_read, lent_kept, report_read, row_read, row_report, row_there, said_lent}
use Rattle.vector_block.proofs.store.row.Goals as goal

pub index-requires-in-Some : goal.index-requires-in-Some
index-requires-in-Some g c =
    let A = g.A.Algebra in
    let value = A.sig_value c.args._site.now.algebra.now in
    let is_sig = A.is_sig c.args._site.now.algebra.now in
    let net = c.args._site.now.net.now in
    let s = c.args.store.now in
    let stored = c.requires.stored in
    let column = c.index.result.now in
    let at = column_read s.columns.items c.args.dest.0 column (omega (arith, stored.count, c.requires.dest)) c.index.ensures in
    let is = stored.columns c.args.dest.0 column at in
    let within : c.args.node.0 < length column.rows.items = omega (arith, is.row_count, c.requires.node) in
    let row = row_there is_sig net s.reports.items column is c.args.node.0 c.index-2.result.now within c.index-2.ensures c.in-Some.id c.in-Some.is in
    let inside = slice_get_within s.reports.items c.in-Some.id.0 row.report row.there in
    omega (arith, inside)

pub returns-in-Some-clause-route : goal.returns-in-Some-clause-route
returns-in-Some-clause-route g c =
    let A = g.A.Algebra in
    let value = A.sig_value c.args._site.now.algebra.now in
    let is_sig = A.is_sig c.args._site.now.algebra.now in
    let net = c.args._site.now.net.now in
    let s = c.args.store.now in
    let stored = c.requires.stored in
    let column = c.index.result.now in
    let at = column_read s.columns.items c.args.dest.0 column (omega (arith, stored.count, c.requires.dest)) c.index.ensures in
    let is = stored.columns c.args.dest.0 column at in
    let within : c.args.node.0 < length column.rows.items = omega (arith, is.row_count, c.requires.node) in
    let row = row_there is_sig net s.reports.items column is c.args.node.0 c.index-2.result.now within c.index-2.ensures c.in-Some.id c.in-Some.is in
    let r = c.index-in-Some.result.now in
    let there = report_read s.reports.items c.in-Some.id r (slice_get_within s.reports.items c.in-Some.id.0 row.report row.there) c.index-in-Some.ensures in
    said_lent value s.paths s.reports.items c.in-Some.id r c.as_ref.result there c.as_ref.ensures.value
    ∙ sym (row_read value s c.args.dest.0 column at c.args.node.0 c.index-2.result.now within c.index-2.ensures ∙ ap (said_by value s.paths s.reports.items) c.in-Some.is)

pub returns-in-Some-clause-kept : goal.returns-in-Some-clause-kept
returns-in-Some-clause-kept g c =
    let A = g.A.Algebra in
    let value = A.sig_value c.args._site.now.algebra.now in
    let is_sig = A.is_sig c.args._site.now.algebra.now in
    let net = c.args._site.now.net.now in
    let s = c.args.store.now in
    let stored = c.requires.stored in
    let column = c.index.result.now in
    let at = column_read s.columns.items c.args.dest.0 column (omega (arith, stored.count, c.requires.dest)) c.index.ensures in
    let is = stored.columns c.args.dest.0 column at in
    let within : c.args.node.0 < length column.rows.items = omega (arith, is.row_count, c.requires.node) in
    let row = row_there is_sig net s.reports.items column is c.args.node.0 c.index-2.result.now within c.index-2.ensures c.in-Some.id c.in-Some.is in
    let r = c.index-in-Some.result.now in
    let there = report_read s.reports.items c.in-Some.id r (slice_get_within s.reports.items c.in-Some.id.0 row.report row.there) c.index-in-Some.ensures in
    let by_node : r.node.0 ≡ c.args.node.0 = row_report is_sig net s.reports.items c.args.node.0 c.in-Some.id r row there in
    lent_kept (IsReported is_sig net s.paths c.args.node.0) c.as_ref.result r.route c.as_ref.ensures.value
    (λ x e. subst (λ n. IsReported is_sig net s.paths n x) by_node ((stored.reports c.in-Some.id.0 r there).route x e))

pub returns-in-None-clause-route : goal.returns-in-None-clause-route
returns-in-None-clause-route g c =
    let A = g.A.Algebra in
    let value = A.sig_value c.args._site.now.algebra.now in
    let is_sig = A.is_sig c.args._site.now.algebra.now in
    let net = c.args._site.now.net.now in
    let s = c.args.store.now in
    let stored = c.requires.stored in
    let column = c.index.result.now in
    let at = column_read s.columns.items c.args.dest.0 column (omega (arith, stored.count, c.requires.dest)) c.index.ensures in
    let is = stored.columns c.args.dest.0 column at in
    let within : c.args.node.0 < length column.rows.items = omega (arith, is.row_count, c.requires.node) in
    sym (row_read value s c.args.dest.0 column at c.args.node.0 c.index-2.result.now within c.index-2.ensures ∙ ap (said_by value s.paths s.reports.items) c.in-None.is)
