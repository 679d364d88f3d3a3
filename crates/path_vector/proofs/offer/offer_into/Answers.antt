use Rattle.std.proofs.Common.{◌≡◌, true, false, None, sym, ap, refl, ◌∙◌}
use Rattle.meta_base.specs.NodePaths.{numbers}
use Rattle.net_graph.specs.Tables.{is_among}
use Rattle.path_vector.specs.Known.{known_route}
use Rattle.path_vector.proofs.Bounds.{small_value}
use Rattle.path_vector.proofs.Choices.{image_stands, no_image_stands, offers_known, passing_offers_none, placed_routes}
use Rattle.path_vector.proofs.PathTests.{any_number}
use Rattle.path_vector.proofs.offer.offer_into.Goals as goal

pub image_into-requires-clause-sig : goal.image_into-requires-clause-sig
image_into-requires-clause-sig g c = (c.requires.said.1.route c.in-Some.known c.in-Some.is).0

pub image_into-requires-clause-small : goal.image_into-requires-clause-small
image_into-requires-clause-small g c =
    let said = c.requires.said in
    small_value c.args.net.now said.0.head (known_route (g.A.Algebra.sig_value c.args.algebra.now) c.in-Some.known) c.requires.net (said.1.route c.in-Some.known c.in-Some.is).1

pub returns-then-branch-clause-offer : goal.returns-then-branch-clause-offer
returns-then-branch-clause-offer g c = λ a tail said.
    let value = g.A.Algebra.sig_value c.args.algebra.now in
    let k = c.in-Some.known in
    let among : is_among (numbers k.path) c.args.node.0 ≡ false = sym (any_number k.path c.args.node.0) ∙ rw c.as_slice.ensures at (sym c.passes.ensures ∙ c.if-passes.false) in
    let made = rw (c.requires.algebra, c.if-branch.true) at c.in_ok-image_into.ensures.image a.label said.label in
    let image = image_stands value c.image_into.new.place _ made in
    rw c.in-Some.is (placed_routes value c.args.node.0 c.as_slice-then-branch.result c.image_into.new.place
    ∙ offers_known value c.args.net.now a k c.args.node.0 (numbers c.as_slice-then-branch.result.now) c.image_into.new.place tail (ap numbers c.as_slice-then-branch.ensures) among image)

pub returns-clause-offer : goal.returns-clause-offer
returns-clause-offer g c = λ a tail said.
    let k = c.in-Some.known in
    let among : is_among (numbers k.path) c.args.node.0 ≡ false = sym (any_number k.path c.args.node.0) ∙ rw c.as_slice.ensures at (sym c.passes.ensures ∙ c.if-passes.false) in
    let value = g.A.Algebra.sig_value c.args.algebra.now in
    let made = rw (c.requires.algebra, c.if-branch.false) at c.in_ok-image_into.ensures.image a.label said.label in
    let image = no_image_stands value c.image_into.new.place _ made in
    rw c.in-Some.is (offers_known value c.args.net.now a k c.args.node.0 (numbers k.path) None tail refl among image)

pub returns-then-passes-clause-offer : goal.returns-then-passes-clause-offer
returns-then-passes-clause-offer g c = λ a tail said.
    let k = c.in-Some.known in
    let among : is_among (numbers k.path) c.args.node.0 ≡ true = sym (any_number k.path c.args.node.0) ∙ rw c.as_slice.ensures at (sym c.passes.ensures ∙ c.if-passes.true) in
    rw c.in-Some.is (sym (passing_offers_none (g.A.Algebra.sig_value c.args.algebra.now) c.args.net.now a k c.args.node.0 tail among))
