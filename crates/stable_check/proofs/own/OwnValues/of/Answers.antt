use Rattle.std.proofs.Common.{◌≡◌, Some, Bor, length, option_map, slice_get, refl, sym, ap, ◌∙◌, arith}
use Rattle.std.proofs.lemmas.List.{length-map}
use Rattle.std.proofs.lemmas.Option.{slice_get-map, slice_get_read}
use Rattle.alg_model.specs.Views.{pure_value}
use Rattle.alg_model.specs.declared.tree.Value.{Value}
use Rattle.net_graph.specs.Nets.{PureOrigin, IsOriginOf, origins_of}
use Rattle.net_graph.specs.Views.{pure_origin}
use Rattle.net_graph.specs.ArcLaws.{all_at}
use Rattle.net_graph.specs.declared.parts.Origin.{Origin}
use Rattle.stable_check.proofs.Noted.{own_more, own_all}
use Rattle.stable_check.proofs.own.OwnValues.of.Goals as goal

pub loop-origin-preserved : goal.loop-origin-preserved
loop-origin-preserved c =
    let net = c.args.net.now in
    let os = c.origins_of-origin-items.result.now in
    let o = c.origin-item.result in
    let m = c.loop-origin.origin-index in
    let there : slice_get (origins_of net c.args.dest.0) m ≡ Some (pure_origin o) =
    ap (λ xs. slice_get xs m) (sym c.origins_of-origin-items.ensures.origins) ∙ (slice_get-map pure_origin os m ∙ ap (option_map pure_origin) (slice_get_read os (length os) m o refl c.loop-origin-test.true c.origin-item.is)) in
    let read = slice_get_read os (length os) m o refl c.loop-origin-test.true c.origin-item.is in
    let is = all_at (λ (p : Origin). IsOriginOf net.alg (length net.nodes) (length net.dests) (pure_origin p)) os m o c.origins_of-origin-items.ensures.within read in
    record {
      count = c.loop-origin.invariant.count;
      each = λ k. own_more (λ (v : Bor Value). pure_value v.now) (λ (p : PureOrigin). p.value) (λ (p : PureOrigin). p.node) c.loop-origin.values.items (origins_of net c.args.dest.0) m k (pure_origin o) _ c.index.result.now c.or.result
          there (omega (arith, is.node_in, c.loop-origin.invariant.count, c.loop-origin.values.ok.0)) c.index.ensures c.or.ensures refl c.loop-origin.invariant.each;
    }

pub returns : goal.returns
returns c =
    let e = c.origins_of-origin-items.ensures.origins in
    let all : c.loop-origin.origin-index ≡ length (origins_of c.args.net.now c.args.dest.0) =
    omega (arith, ap length e, length-map c.origins_of-origin-items.result.now pure_origin, c.loop-origin-test.false, c.loop-origin.auto.origin-index-end) in
    record {
      count = omega (arith, c.loop-origin.invariant.count, c.loop-origin.values.ok.0);
      each = λ k. c.loop-origin.invariant.each k ∙ own_all c.args.net.now c.args.dest.0 k c.loop-origin.origin-index all;
    }
