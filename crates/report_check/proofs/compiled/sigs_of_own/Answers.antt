use Rattle.std.proofs.Common.{◌≡◌, ℕ, Option, None, IfSome, length, option_map, sym, ◌∙◌, arith}
use Rattle.net_graph.specs.Nets.{origin_value}
use Rattle.stable_check.specs.Checks.{own_at}
use Rattle.stable_check.specs.Offering.{origin_in}
use Rattle.arc_labels.specs.Growing.{each_more}
use Rattle.report_check.proofs.Forms.{are_sigs, own_past, own_there}
use Rattle.report_check.proofs.compiled.sigs_of_own.Goals as goal

pub sig_of_value-requires : goal.sig_of_value-requires
sig_of_value-requires g c =
    let net = c.args.net.now in
    let k = c.loop-value.value-index in
    let there : own_at c.in_ok-own.own.values.items k ≡ c.value-item.result = rw c.deref-value-items.ensures.value at (own_there c.deref-value-items.result.now k c.value-item.result c.loop-value-test.true c.value-item.is) in
    let value = rw there at (c.in_ok-own.ensures.each k) in
    rw (value, c.requires.algebra) (origin_in net c.node_count-count.ensures.net c.args.dest.0 k)

pub loop-value-preserved : goal.loop-value-preserved
loop-value-preserved g c =
    let net = c.args.net.now in
    let dest = c.args.dest.0 in
    let k = c.loop-value.value-index in
    let done = c.loop-value.sigs.items in
    let is_sig = g.A.Algebra.is_sig c.args.algebra.now in
    let sig_value = g.A.Algebra.sig_value c.args.algebra.now in
    let sig = c.in_ok-sig_of_value.field-0 in
    let place : k ≡ length done = let e = c.loop-value.invariant.count in omega arith in
    let there : own_at c.in_ok-own.own.values.items k ≡ c.value-item.result = rw c.deref-value-items.ensures.value at (own_there c.deref-value-items.result.now k c.value-item.result c.loop-value-test.true c.value-item.is) in
    let value = rw there at (c.in_ok-own.ensures.each k) in
    let P = λ (n : ℕ) (o : Option g.row.A-Sig.Denot). IfSome o is_sig × (option_map sig_value o ≡ origin_value net dest n) in
    let here : P k sig = (c.in_ok-sig_of_value.ensures.sig, c.in_ok-sig_of_value.ensures.value ∙ value) in
    record {
      count = omega (arith, c.in_ok-push.ensures.len, c.loop-value.invariant.count);
      each = rw c.in_ok-push.ensures.items (each_more P done sig (rw place at here) c.loop-value.invariant.each);
    }

pub returns : goal.returns
returns g c = record {
  sigs = are_sigs (g.A.Algebra.is_sig c.args.algebra.now) (g.A.Algebra.sig_value c.args.algebra.now) (origin_value c.args.net.now c.args.dest.0) c.loop-value.sigs.items c.loop-value.invariant.each
      (λ k past.
      let all = own_past c.deref-value-items.result.now k (omega (arith, past, c.loop-value-test.false, c.loop-value.invariant.count)) in
      let none : own_at c.in_ok-own.own.values.items k ≡ None = rw c.deref-value-items.ensures.value at all in
      sym (rw none at (c.in_ok-own.ensures.each k)));
  net = c.node_count-count.ensures.net;
}
