use Rattle.std.proofs.Common.{refl, sym, ap, ◌∙◌}
use Rattle.path_vector.specs.Node.{same_row}
use Rattle.vector_block.specs.Stores.{pure_store}
use Rattle.vector_block.proofs.Changing.{reported_rechosen, settled_is}
use Rattle.vector_block.proofs.change.rechoose.Goals as goal

pub returns-in-Stays-clause-rechosen : goal.returns-in-Stays-clause-rechosen
returns-in-Stays-clause-rechosen g c =
    let value = g.A.Algebra.sig_value c.args.site.now.algebra.now in
    let hears = c.requires.hearing in
    let found = rw c.in-Stays.is at (c.in_ok-look.ensures.look hears.0 hears.1 hears.2) in
    (settled_is value c.args.site.now.net.now c.requires.net c.args.store.now hears.0 c.args.hearing.now hears.2 c.requires.heard _ hears.3 _ found, refl)

pub returns-in-Takes-clause-rechosen : goal.returns-in-Takes-clause-rechosen
returns-in-Takes-clause-rechosen g c =
    let value = g.A.Algebra.sig_value c.args.site.now.algebra.now in
    let net = c.args.site.now.net.now in
    let store = c.args.store.now in
    let h = c.args.hearing.now in
    let hears = c.requires.hearing in
    let found = rw c.in-Takes.is at (c.in_ok-look.ensures.look hears.0 hears.1 hears.2) in
    let chosen = settled_is value net c.requires.net store hears.0 h hears.2 c.requires.heard _ hears.3 _ found.6 in
    reported_rechosen net h (pure_store value store) (pure_store value c.take_offer.new.store) c.take_offer.result _ (chosen ∙ found.5) (ap (λ o. same_row o ((pure_store value store).rows h.node.0 h.dest.0)) (sym found.5) ∙ found.7) c.take_offer.ensures.ok (c.take_offer.ensures.taken found.0 found.3 found.1 found.4) c.take_offer.ensures.err
