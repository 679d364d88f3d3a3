use Rattle.std.proofs.Common.{◌≡◌, ◌+◌, ◌∙◌, ap, sym, subst, length, Some, arith}
use Rattle.std.specs.Prelude.{option_map}
use Rattle.net_graph.specs.Nets.{origin_value}
use Rattle.distance_node.specs.Chosen.{entry_of}
use Rattle.distance_node.proofs.Pushing.{pushed_count, pushed_holds, pushed_images}
use Rattle.distance_node.proofs.Owns.{all_origins}
use Rattle.distance_node.proofs.own.own_sigs.Goals as goal

pub loop-dest-preserved : goal.loop-dest-preserved
loop-dest-preserved g c =
    let A = g.A.Algebra in
    let value = A.sig_value c.args.algebra.now in
    let net = c.args.net.now in
    let old = c.loop-dest.own.items in
    let items = c.in_ok-push.ensures.items in
    let own = c.in_ok-own_sig.field-0 in
    record {
      count = ap length items ∙ pushed_count old own ∙ ap (λ z. z + 1) c.loop-dest.invariant.count;
      values = λ d l. subst (λ z. option_map value (entry_of z d) ≡ origin_value net d c.args.node.0) (sym items)
          (pushed_images value old own (λ e. origin_value net e c.args.node.0) c.loop-dest.dest c.loop-dest.invariant.count c.loop-dest.invariant.values c.in_ok-own_sig.ensures.value d l);
      sigs = λ d s e. pushed_holds _ old own c.loop-dest.invariant.sigs c.in_ok-own_sig.ensures.sig d s (subst (λ z. entry_of z d ≡ Some s) items e);
    }

pub returns-clause-values : goal.returns-clause-values
returns-clause-values g c =
    let own = c.loop-dest.own.items in
    let whole : c.loop-dest.dest ≡ length c.args.net.now.dests = let few = c.loop-dest-test.false in let more = c.loop-dest.auto.dest-end in let count = c.dest_count-count.ensures.count in omega arith in
    all_origins (g.A.Algebra.sig_value c.args.algebra.now) c.args.net.now c.args.node.0 own c.loop-dest.dest c.dest_count-count.ensures.net (c.loop-dest.invariant.count ∙ whole) c.loop-dest.invariant.count c.loop-dest.invariant.values
