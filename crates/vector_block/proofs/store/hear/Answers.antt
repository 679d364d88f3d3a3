use Rattle.std.proofs.Common.{◌<◌, length, sym, arith}
use Rattle.vector_block.proofs.Stores.{column_read, heard_read, heard_there, store_heard}
use Rattle.vector_block.proofs.store.hear.Goals as goal

pub returns-clause-heard : goal.returns-clause-heard
returns-clause-heard g c =
    let A = g.A.Algebra in
    let value = A.sig_value c.args._site.now.algebra.now in
    let net = c.args._site.now.net.now in
    let s = c.args.store.now in
    let stored = c.requires.stored in
    let column = c.index_mut.result.now in
    let at = column_read s.columns.items c.args.dest.0 column (omega (arith, stored.count, c.requires.dest)) c.index_mut.ensures.value in
    let is = stored.columns c.args.dest.0 column at in
    let within : c.args.arc.0 < length column.heard.items = omega (arith, is.heard_count, c.requires.arc) in
    store_heard value s c.args.dest.0 column c.args.arc.0 c.args.report c.replace.new.dest at within c.replace.ensures.after

pub returns-clause-earlier : goal.returns-clause-earlier
returns-clause-earlier g c =
    let A = g.A.Algebra in
    let value = A.sig_value c.args._site.now.algebra.now in
    let net = c.args._site.now.net.now in
    let s = c.args.store.now in
    let stored = c.requires.stored in
    let column = c.index_mut.result.now in
    let at = column_read s.columns.items c.args.dest.0 column (omega (arith, stored.count, c.requires.dest)) c.index_mut.ensures.value in
    let is = stored.columns c.args.dest.0 column at in
    let within : c.args.arc.0 < length column.heard.items = omega (arith, is.heard_count, c.requires.arc) in
    let was = rw (← c.replace.ensures.value) at c.index_mut-2.ensures.value in
    heard_there (g.A.Algebra.is_sig c.args._site.now.algebra.now) net s.reports.items column is c.args.arc.0 c.replace.result within was

pub returns-clause-was : goal.returns-clause-was
returns-clause-was g c =
    let A = g.A.Algebra in
    let value = A.sig_value c.args._site.now.algebra.now in
    let net = c.args._site.now.net.now in
    let s = c.args.store.now in
    let stored = c.requires.stored in
    let column = c.index_mut.result.now in
    let at = column_read s.columns.items c.args.dest.0 column (omega (arith, stored.count, c.requires.dest)) c.index_mut.ensures.value in
    let is = stored.columns c.args.dest.0 column at in
    let within : c.args.arc.0 < length column.heard.items = omega (arith, is.heard_count, c.requires.arc) in
    let was = rw (← c.replace.ensures.value) at c.index_mut-2.ensures.value in
    sym (heard_read value s c.args.dest.0 column at c.args.arc.0 c.replace.result within was)
