use Rattle.std.proofs.Common.{◌≡◌, ◌+◌, ◌∙◌, Some, refl, sym, subst, arith}
use Rattle.net_graph.specs.Nets.{IsNet}
use Rattle.node_core.specs.Machine.{front_clock}
use Rattle.node_core.specs.Running.{IsRunning}
use Rattle.quiet_ledger.specs.declared.totals.Totals.{Totals}
use Rattle.woven_laws.specs.Delivered.{HasDelivered}
use Rattle.weave.proofs.Delivering.{gone_more, sent_few}
use Rattle.weave.proofs.Going.{next_early, sent_small, something_waits}
use Rattle.weave.proofs.in_turn.run_in_turn.Goals as goal

pub deliver-requires-clause-is_net : goal.deliver-requires-clause-is_net
deliver-requires-clause-is_net g c = subst (λ m. IsNet m) (sym c.loop-totals.invariant.same) c.requires.is_net

pub deliver-requires-clause-running : goal.deliver-requires-clause-running
deliver-requires-clause-running g c =
    let all = g.A.AllNodes in
    let began = c.requires.begun in
    let gone = c.loop-totals.invariant.gone began.0 began.1 began.2 began.3 began.4 in
    subst (λ m. IsRunning all.kind m (all.machine c.loop-totals.nodes)) (sym c.loop-totals.invariant.same) gone.running

pub deliver-requires-clause-waits : goal.deliver-requires-clause-waits
deliver-requires-clause-waits g c =
    let all = g.A.AllNodes in
    let began = c.requires.begun in
    let net = all.net c.args.nodes.now in
    let nodes = c.loop-totals.nodes in
    let gone = c.loop-totals.invariant.gone began.0 began.1 began.2 began.3 began.4 in
    something_waits all.kind g.met.A.AllNodes.lawful net c.requires.is_net c.args.turns began.0 (all.machine nodes) (all.log nodes) c.loop-totals.totals gone
    (c.deliveries_count.ensures net began.0 (all.machine nodes) gone.history c.requires.is_net gone.woven) c.loop-totals-test.true

pub deliver-requires-clause-early : goal.deliver-requires-clause-early
deliver-requires-clause-early g c a t front =
    let all = g.A.AllNodes in
    let began = c.requires.begun in
    let net = all.net c.args.nodes.now in
    let nodes = c.loop-totals.nodes in
    let gone = c.loop-totals.invariant.gone began.0 began.1 began.2 began.3 began.4 in
    next_early all.kind g.met.A.AllNodes.lawful net c.requires.is_net c.args.turns began.0 (all.machine nodes) (all.log nodes) c.loop-totals.totals gone began.1 began.3 c.requires.turns c.if-totals-turns.true a t
    (subst (λ m. front_clock all.kind m (all.machine nodes) a ≡ Some t) c.loop-totals.invariant.same front)

pub overflow_add-totals : goal.overflow_add-totals
overflow_add-totals g c =
    let all = g.A.AllNodes in
    let began = c.requires.begun in
    let net = all.net c.args.nodes.now in
    let nodes = c.loop-totals.nodes in
    let made = c.deliver.new.self in
    let gone = c.loop-totals.invariant.gone began.0 began.1 began.2 began.3 began.4 in
    let delivered = subst (λ m. HasDelivered all.kind m (all.machine nodes) (all.log nodes) c.in_ok-totals.field-0 (all.machine made) (all.log made)) c.loop-totals.invariant.same c.in_ok-totals.ensures.delivered in
    let small = (sent_small all.kind g.met.A.AllNodes.lawful net c.requires.is_net c.args.turns began.0 (all.machine nodes) (all.log nodes) c.loop-totals.totals began.1 gone c.requires.turns began.2).0 in
    let few = sent_few all.kind g.met.A.AllNodes.lawful net c.requires.is_net (all.machine nodes) (all.machine made) (all.log nodes) (all.log made) c.in_ok-totals.field-0 delivered gone.running in
    omega (arith, small, few)

pub loop-totals-preserved : goal.loop-totals-preserved
loop-totals-preserved g c =
    let all = g.A.AllNodes in
    let net = all.net c.args.nodes.now in
    let nodes = c.loop-totals.nodes in
    let made = c.deliver.new.self in
    let totals = c.loop-totals.totals in
    let sent = c.in_ok-totals.field-0 in
    let more : Totals = record { sent = totals.sent + sent; taken = totals.taken + 1 } in
    let delivered = subst (λ m. HasDelivered all.kind m (all.machine nodes) (all.log nodes) sent (all.machine made) (all.log made)) c.loop-totals.invariant.same c.in_ok-totals.ensures.delivered in
    record {
      same = c.deliver.ensures.net ∙ c.loop-totals.invariant.same;
      gone = λ machine running few up first.
          let gone = c.loop-totals.invariant.gone machine running few up first in
          gone_more all.kind g.met.A.AllNodes.lawful net c.requires.is_net (all.machine nodes) (all.machine made) (all.log nodes) (all.log made) sent delivered gone.running
          c.args.turns machine totals more gone c.if-totals-turns.true refl refl;
    }
