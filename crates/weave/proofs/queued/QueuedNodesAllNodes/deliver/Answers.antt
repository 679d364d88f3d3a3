use Rattle.std.proofs.Common.{◌≡◌, ◌<◌, Some, ap, sym, option_map, length, subst, arith}
use Rattle.std.proofs.lemmas.Option.{slice_get_read}
use Rattle.net_graph.specs.Nets.{PureArc}
use Rattle.node_core.specs.Kinds.{listener}
use Rattle.weave.proofs.Queues.{can_hear, clock_early, delivered, front_within, listener_within, queue_waits}
use Rattle.weave.proofs.queued.QueuedNodesAllNodes.deliver.Goals as goal

pub unreachable-requires : goal.unreachable-requires
unreachable-requires g c =
    let k = g.N.NodeCore in
    let self = c.args.self.now in
    c.requires.waits (queue_waits k.state k.note self.seats.items self.queue.items (rw c.in_default.is at c.take_first.ensures.none))

pub arc-requires : goal.arc-requires
arc-requires g c =
    let k = g.N.NodeCore in
    let self = c.args.self.now in
    front_within k.state k.note k.kind self.net.now self.seats.items self.queue.items c.take_first.new.queue.items c.in-Some.arc c.in-Some.message c.in-Some.ensures.some c.requires.running

pub index_mut-seat-requires : goal.index_mut-seat-requires
index_mut-seat-requires g c =
    let k = g.N.NodeCore in
    let self = c.args.self.now in
    subst (λ n. c.arc.result.tail.0 < n) (sym self.seats.ok.0) (listener_within k.state k.note k.kind self.net.now self.seats.items self.queue.items c.take_first.new.queue.items c.in-Some.arc c.in-Some.message c.in-Some.ensures.some c.requires.running
    c.requires.is_net c.arc.result.tail.0 (ap (option_map (λ (a : PureArc). a.tail)) c.arc.ensures.arc))

pub hand-requires-clause-hears : goal.hand-requires-clause-hears
hand-requires-clause-hears g c =
    let k = g.N.NodeCore in
    let self = c.args.self.now in
    let i = c.arc.result.tail.0 in
    let listens : listener self.net.now c.in-Some.arc.0 ≡ Some i = ap (option_map (λ (a : PureArc). a.tail)) c.arc.ensures.arc in
    let rest = c.take_first.new.queue.items in
    let seat = c.index_mut-seat.result.now in
    let first = c.in-Some.ensures.some in
    let within = subst (λ n. i < n) (sym self.seats.ok.0) (listener_within k.state k.note k.kind self.net.now self.seats.items self.queue.items rest c.in-Some.arc c.in-Some.message first c.requires.running c.requires.is_net i listens) in
    let stands = slice_get_read self.seats.items self.seats.len i seat self.seats.ok.0 within c.index_mut-seat.ensures.value in
    let early = clock_early k.state k.note k.kind self.net.now self.seats.items self.queue.items rest c.in-Some.arc c.in-Some.message first c.requires.running c.requires.is_net i listens seat stands c.requires.early in
    let stamp = c.stamp.ensures in
    can_hear k.state k.note k.kind self.net.now self.seats.items self.queue.items rest c.in-Some.arc c.in-Some.message first c.requires.running c.requires.is_net i listens seat stands
    c.saturating_add-clock.result (omega (arith, early, stamp)) (omega (arith, early, stamp))

pub returns-clause-delivered : goal.returns-clause-delivered
returns-clause-delivered g c =
    let k = g.N.NodeCore in
    let self = c.args.self.now in
    let i = c.arc.result.tail.0 in
    let listens : listener self.net.now c.in-Some.arc.0 ≡ Some i = ap (option_map (λ (a : PureArc). a.tail)) c.arc.ensures.arc in
    let rest = c.take_first.new.queue.items in
    let seat = c.index_mut-seat.result.now in
    let first = c.in-Some.ensures.some in
    let within = subst (λ n. i < n) (sym self.seats.ok.0) (listener_within k.state k.note k.kind self.net.now self.seats.items self.queue.items rest c.in-Some.arc c.in-Some.message first c.requires.running c.requires.is_net i listens) in
    let stands = slice_get_read self.seats.items self.seats.len i seat self.seats.ok.0 within c.index_mut-seat.ensures.value in
    let hand = c.in_ok-hand.ensures in
    let early = clock_early k.state k.note k.kind self.net.now self.seats.items self.queue.items rest c.in-Some.arc c.in-Some.message first c.requires.running c.requires.is_net i listens seat stands c.requires.early in
    let stamp = c.stamp.ensures in
    delivered k.state k.note k.kind self.net.now self.seats.items self.queue.items rest c.in-Some.arc c.in-Some.message first c.requires.running c.requires.is_net i listens seat stands
    c.saturating_add-clock.result c.hand.new.seat c.hand.new.out c.put_all.new.queue.items (length c.as_slice.result.now) (omega (arith, early, stamp)) hand.clock hand.log hand.node hand.out c.in_ok-put_all.ensures (ap length c.as_slice.ensures)
