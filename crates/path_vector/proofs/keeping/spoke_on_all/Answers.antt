use Rattle.std.proofs.Common.{◌≡◌, true, length, arith, refl, subst, sym, ap, ◌∙◌}
use Rattle.std.specs.Prelude.{option_map}
use Rattle.std.proofs.lemmas.List.{length-map}
use Rattle.std.proofs.lemmas.Option.{slice_get_within}
use Rattle.meta_base.specs.declared.ids.ArcId.{ArcId}
use Rattle.net_graph.specs.Nets.{PureArc, arcs_to}
use Rattle.net_graph.specs.Views.{pure_arc}
use Rattle.path_vector.specs.Updates.{spoken_in}
use Rattle.path_vector.proofs.Keepings.{each_next}
use Rattle.path_vector.proofs.Reportings.{listener_at}
use Rattle.path_vector.proofs.keeping.spoke_on_all.Goals as goal

pub arc-requires : goal.arc-requires
arc-requires c =
    let there = listener_at c.args.net.now c.args.node.0 _ c.loop-id.id-index _ c.requires.net c.loop-id.invariant.ids c.loop-id-test.true in
    slice_get_within c.args.net.now.arcs _ there.0 there.3

pub loop-id-preserved : goal.loop-id-preserved
loop-id-preserved c =
    let net = c.args.net.now in
    let before = option_map (λ n. n.now) c.args.before in
    let there = listener_at net c.args.node.0 _ c.loop-id.id-index _ c.requires.net c.loop-id.invariant.ids c.loop-id-test.true in
    let same : pure_arc c.arc.result ≡ there.0 = (let e = sym c.arc.ensures.arc ∙ there.3 in cc) in
    let spoke : spoken_in before there.0.tail there.0.head ≡ true = subst (λ (z : PureArc). spoken_in before z.tail z.head ≡ true) same (sym c.spoke_on.ensures ∙ c.if-not-spoke_on.false) in
    record {
      ids = c.loop-id.invariant.ids;
      spoke = each_next (λ (a : PureArc). spoken_in before a.tail a.head ≡ true) (arcs_to net c.args.node.0) c.loop-id.id-index there.0 there.1 spoke c.loop-id.invariant.spoke;
    }

pub returns-then-not-spoke_on : goal.returns-then-not-spoke_on
returns-then-not-spoke_on c =
    let net = c.args.net.now in
    let before = option_map (λ n. n.now) c.args.before in
    let there = listener_at net c.args.node.0 _ c.loop-id.id-index _ c.requires.net c.loop-id.invariant.ids c.loop-id-test.true in
    let same : pure_arc c.arc.result ≡ there.0 = (let e = sym c.arc.ensures.arc ∙ there.3 in cc) in
    (λ said. absurd (cc), λ all. sym c.if-not-spoke_on.true ∙ c.spoke_on.ensures ∙ subst (λ (z : PureArc). spoken_in before z.tail z.head ≡ true) (sym same) (all c.loop-id.id-index there.0 there.1))

pub returns : goal.returns
returns c = (
  λ said k a e.
      let arcs = arcs_to c.args.net.now c.args.node.0 in
      let many = sym (length-map _ (λ (id : ArcId). id.0)) ∙ ap length c.loop-id.invariant.ids ∙ length-map arcs (λ (b : PureArc). b.id) in
      let within = slice_get_within arcs k a e in
      let ended = c.loop-id-test.false in
      c.loop-id.invariant.spoke k a (omega arith) e,
  λ all. refl,
)
