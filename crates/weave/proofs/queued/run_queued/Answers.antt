use Rattle.std.proofs.Common.{◌∙◌, ap, sym, map, slice_get, refl, arith}
use Rattle.net_graph.specs.Laws.{few_nodes}
use Rattle.weave.specs.declared.seat.Seat.{Seat}
use Rattle.weave.specs.Going.{logs_by}
use Rattle.weave.specs.Queued.{queued_log, queued_machine}
use Rattle.weave.proofs.Queues.{logs_are, nodes_apart, queued_gone}
use Rattle.weave.proofs.Starting.{made_count}
use Rattle.weave.proofs.queued.run_queued.Goals as goal

pub run_in_turn-requires-clause-begun : goal.run_in_turn-requires-clause-begun
run_in_turn-requires-clause-begun g c _ _ =
    let k = g.N.NodeCore in
    let machine = c.requires.started.0 in
    let is = c.requires.started.1 in
    (machine, is.running, is.few, is.early, queued_gone k.state k.note k.kind c.args.net.now c.args.turns machine c.args.started is c.in_ok-seats_of.field-0.items c.in_ok-queue_of.field-0.items c.in_ok-seats_of.ensures c.in_ok-queue_of.ensures)

pub apart-requires : goal.apart-requires
apart-requires g c =
    let k = g.N.NodeCore in
    let net = c.args.net.now in
    let machine = c.requires.started.0 in
    let is = c.requires.started.1 in
    let gone = c.in_ok-totals.ensures.gone machine is.running is.few is.early (queued_gone k.state k.note k.kind net c.args.turns machine c.args.started is c.in_ok-seats_of.field-0.items c.in_ok-queue_of.field-0.items c.in_ok-seats_of.ensures c.in_ok-queue_of.ensures) in
    let seats = c.run_in_turn.new.nodes.seats in
    let count = made_count k.kind net (λ (seat : Seat _ _). k.state seat.node) (queued_machine k.state k.note seats.items c.run_in_turn.new.nodes.queue.items) gone.running seats.items (λ i. refl) in
    let room = c.keeps_rules.ensures.node_room in
    let most = few_nodes net.alg.edition in
    let len = seats.ok.0 in
    omega (arith, count, room, most, len)

pub returns : goal.returns
returns g c machine is =
    let k = g.N.NodeCore in
    let net = c.args.net.now in
    let gone = c.in_ok-totals.ensures.gone machine is.running is.few is.early (queued_gone k.state k.note k.kind net c.args.turns machine c.args.started is c.in_ok-seats_of.field-0.items c.in_ok-queue_of.field-0.items c.in_ok-seats_of.ensures c.in_ok-queue_of.ensures) in
    let seats = c.run_in_turn.new.nodes.seats in
    let queue = c.run_in_turn.new.nodes.queue.items in
    let count = made_count k.kind net (λ (seat : Seat _ _). k.state seat.node) (queued_machine k.state k.note seats.items queue) gone.running seats.items (λ i. refl) in
    record {
      end = queued_machine k.state k.note seats.items queue;
      log = queued_log seats.items;
      gone = gone;
      nodes_are = λ i. nodes_apart k.state k.note seats.items queue i ∙ ap (λ ns. slice_get (map k.state ns) i) (sym c.in_ok-nodes.ensures.nodes);
      logs_are = c.in_ok-nodes.ensures.logs ∙ (logs_are seats.items ∙ ap (logs_by (queued_log seats.items)) count);
      over = c.in_ok-totals.ensures.over;
    }
