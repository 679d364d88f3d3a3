use Rattle.std.proofs.Common.{refl}
use Rattle.vector_block.specs.declared.store.Store.{Store}
use Rattle.vector_block.proofs.Stores.{one_longer, store_still, stored_still}
use Rattle.vector_block.proofs.store.kept.Goals as goal

pub returns-clause-stored : goal.returns-clause-stored
returns-clause-stored g c =
    let A = g.A.Algebra in
    let net = c.args.site.now.net.now in
    let s = c.args.store.now in
    let new : Store _ = record { reports = s.reports; paths = c.add.new.self; columns = s.columns } in
    stored_still (A.is_sig c.args.site.now.algebra.now) net s new c.requires.stored (one_longer s.paths c.add.new.self _ c.in_ok-path.ensures.ok) refl refl

pub returns-clause-same : goal.returns-clause-same
returns-clause-same g c =
    let A = g.A.Algebra in
    let net = c.args.site.now.net.now in
    let s = c.args.store.now in
    let new : Store _ = record { reports = s.reports; paths = c.add.new.self; columns = s.columns } in
    store_still (A.is_sig c.args.site.now.algebra.now) net s new c.requires.stored (one_longer s.paths c.add.new.self _ c.in_ok-path.ensures.ok) refl refl (A.sig_value c.args.site.now.algebra.now)
