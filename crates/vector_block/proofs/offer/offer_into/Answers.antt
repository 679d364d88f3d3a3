use Rattle.std.proofs.Common.{◌≡◌, true, false, sym, ◌∙◌}
use Rattle.std.proofs.lemmas.Result.{IfOk-weaker}
use Rattle.meta_base.specs.NodePaths.{numbers}
use Rattle.net_graph.specs.Tables.{is_among}
use Rattle.path_store.specs.PathOf.{path_of}
use Rattle.path_vector.proofs.Bounds.{small_value}
use Rattle.path_vector.proofs.PathTests.{any_number}
use Rattle.vector_block.proofs.Offers.{none_offered, offer_made}
use Rattle.vector_block.specs.Stores.{route_of}
use Rattle.vector_block.proofs.offer.offer_into.Goals as goal

pub returns-then-passes-clause-offer : goal.returns-then-passes-clause-offer
returns-then-passes-clause-offer g c = λ a tail stands.
    let nodes = path_of c.args.store.now.paths c.args.route.now.path in
    let among : is_among (numbers nodes) c.args.node.0 ≡ true = sym (any_number nodes c.args.node.0) ∙ (sym c.passes.ensures ∙ c.if-passes.true) in
    none_offered (g.A.Algebra.sig_value c.args.site.now.algebra.now) c.args.site.now.net.now a c.args.store.now.paths c.args.route.now c.args.node.0 tail among c.args.place.now

pub image_into-requires-clause-small : goal.image_into-requires-clause-small
image_into-requires-clause-small g c =
    small_value c.args.site.now.net.now c.requires.arc.0.head (route_of (g.A.Algebra.sig_value c.args.site.now.algebra.now) c.args.store.now.paths c.args.route.now) c.requires.net c.requires.arc.2

pub returns-clause-offer : goal.returns-clause-offer
returns-clause-offer g c = λ a tail stands.
    let nodes = path_of c.args.store.now.paths c.args.route.now.path in
    let among : is_among (numbers nodes) c.args.node.0 ≡ false = sym (any_number nodes c.args.node.0) ∙ (sym c.passes.ensures ∙ c.if-passes.false) in
    let made = rw c.requires.algebra at c.image_into.ensures.image a.label stands in
    IfOk-weaker c.image_into.result _ _ (λ placed e. offer_made (g.A.Algebra.sig_value c.args.site.now.algebra.now) c.args.site.now.net.now a c.args.store.now.paths c.args.route.now c.args.node.0 tail among _ e) made
