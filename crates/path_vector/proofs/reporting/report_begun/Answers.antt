use Rattle.std.proofs.Common.{◌≡◌, Bool, cond, sym, ap, ◌∙◌}
use Rattle.std.specs.Prelude.{is_some, option_map}
use Rattle.std.proofs.lemmas.Option.{slice_get_within}
use Rattle.net_graph.specs.Nets.{PureArc, arcs_to}
use Rattle.net_graph.specs.Views.{pure_arc}
use Rattle.path_vector.specs.Updates.{pure_update, spoken_in}
use Rattle.path_vector.proofs.Reportings.{listener_at, one_reported}
use Rattle.path_vector.proofs.reporting.report_begun.Goals as goal

pub arc-requires : goal.arc-requires
arc-requires c =
    let there = listener_at c.args.net.now c.args.node.0 _ c.loop-id.id-index _ c.requires.net c.loop-id.invariant.ids c.loop-id-test.true in
    slice_get_within c.args.net.now.arcs _ there.0 there.3

pub loop-id-preserved : goal.loop-id-preserved
loop-id-preserved c =
    let net = c.args.net.now in
    let k = c.loop-id.id-index in
    let there = listener_at net c.args.node.0 _ k _ c.requires.net c.loop-id.invariant.ids c.loop-id-test.true in
    let p : PureArc → Bool = λ (a : PureArc). cond (spoken_in (option_map (λ n. n.now) c.args.before) a.tail a.head) c.args.is_other (is_some c.args.update.now.route) in
    let same : pure_arc c.arc.result ≡ there.0 = (let e = sym c.arc.ensures.arc ∙ there.3 in cc) in
    record {
      ids = c.loop-id.invariant.ids;
      reported = one_reported p (arcs_to net c.args.node.0) (pure_update c.args.update.now) k _ there.0 c.is_news-is_news.result _ _ _ there.1 there.2 (c.is_news-is_news.ensures ∙ ap p same) c.loop-id.invariant.reported c.in_ok-report_if.ensures;
    }
