use Rattle.std.proofs.Common.{sym, ◌∙◌, arith}
use Rattle.vector_block.proofs.Stores.{column_read, heard_read, heard_there}
use Rattle.vector_block.proofs.store.heard.Goals as goal

pub said-requires-clause-id : goal.said-requires-clause-id
said-requires-clause-id g c =
    let net = c.args.site.now.net.now in
    let s = c.args.store.now in
    let stored = c.requires.stored in
    let column = c.index.result.now in
    let at = column_read s.columns.items c.args.dest.0 column (omega (arith, stored.count, c.requires.dest)) c.index.ensures in
    let is = stored.columns c.args.dest.0 column at in
    heard_there (g.A.Algebra.is_sig c.args.site.now.algebra.now) net s.reports.items column is c.args.arc.0 c.index-2.result.now (omega (arith, is.heard_count, c.requires.arc)) c.index-2.ensures

pub returns-clause-route : goal.returns-clause-route
returns-clause-route g c =
    let value = g.A.Algebra.sig_value c.args.site.now.algebra.now in
    let net = c.args.site.now.net.now in
    let s = c.args.store.now in
    let stored = c.requires.stored in
    let column = c.index.result.now in
    let at = column_read s.columns.items c.args.dest.0 column (omega (arith, stored.count, c.requires.dest)) c.index.ensures in
    let is = stored.columns c.args.dest.0 column at in
    c.said.ensures.route ∙ sym (heard_read value s c.args.dest.0 column at c.args.arc.0 c.index-2.result.now (omega (arith, is.heard_count, c.requires.arc)) c.index-2.ensures)
