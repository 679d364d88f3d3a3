use Rattle.std.proofs.Common.{Some, refl, ap, map}
use Rattle.std.specs.Option.{option_map}
use Rattle.std.proofs.lemmas.Option.{slice_get_read}
use Rattle.net_graph.specs.Nets.{PureArc}
use Rattle.node_core.specs.Configs.{noted}
use Rattle.weave.proofs.Hearing.{heard, late_here, unheard, seated_at}
use Rattle.weave.proofs.block.hear.Goals as goal

pub take-requires-clause-begun : goal.take-requires-clause-begun
take-requires-clause-begun g c =
    let seats = c.args.seats.now in
    let seat = c.in-Some.seat in
    let at = c.arc.result.tail.0 in
    let here = slice_get_read seats.items seats.len at (Some seat) seats.ok.0 (rw (← c.len-else-at-len.ensures) c.if-listener-len.false) (rw (← c.in-Some.is) c.index_mut.ensures.value) in
    (seated_at g.N.NodeCore.state g.N.NodeCore.note g.N.NodeCore.kind c.args.net.now seats.items c.args.lanes.now.items at seat here c.requires.seated).begun

pub take-requires-clause-last : goal.take-requires-clause-last
take-requires-clause-last g c =
    let seats = c.args.seats.now in
    let seat = c.in-Some.seat in
    let at = c.arc.result.tail.0 in
    let here = slice_get_read seats.items seats.len at (Some seat) seats.ok.0 (rw (← c.len-else-at-len.ensures) c.if-listener-len.false) (rw (← c.in-Some.is) c.index_mut.ensures.value) in
    (seated_at g.N.NodeCore.state g.N.NodeCore.note g.N.NodeCore.kind c.args.net.now seats.items c.args.lanes.now.items at seat here c.requires.seated).last_is

pub take-requires-clause-listens : goal.take-requires-clause-listens
take-requires-clause-listens g c =
    let seats = c.args.seats.now in
    let seat = c.in-Some.seat in
    let at = c.arc.result.tail.0 in
    let here = slice_get_read seats.items seats.len at (Some seat) seats.ok.0 (rw (← c.len-else-at-len.ensures) c.if-listener-len.false) (rw (← c.in-Some.is) c.index_mut.ensures.value) in
    let seated = seated_at g.N.NodeCore.state g.N.NodeCore.note g.N.NodeCore.kind c.args.net.now seats.items c.args.lanes.now.items at seat here c.requires.seated in
    rw (seated.net_is, seated.number_is) (ap (option_map (λ (a : PureArc). a.tail)) c.arc.ensures.arc)

pub returns-then-not-branch-clause-none : goal.returns-then-not-branch-clause-none
returns-then-not-branch-clause-none g c =
    let seats = c.args.seats.now in
    let lanes = c.args.lanes.now in
    let seat = c.in-Some.seat in
    let lane = c.index_mut-2.result.now in
    let at = c.arc.result.tail.0 in
    let here = slice_get_read seats.items seats.len at (Some seat) seats.ok.0 (rw (← c.len-else-at-len.ensures) c.if-listener-len.false) (rw (← c.in-Some.is) c.index_mut.ensures.value) in
    let there = slice_get_read lanes.items lanes.len c.args.arc.0 lane lanes.ok.0 (rw (← c.len.ensures) c.if-at-len.false) c.index_mut-2.ensures.value in
    let none = c.in_ok-take.ensures.none c.if-not-branch.true in
    unheard g.N.NodeCore.state g.N.NodeCore.note g.N.NodeCore.kind c.args.net.now seats.items lanes.items at c.args.arc.0 seat c.take.new.seat lane c.take.new.lane here there none.0 none.1

pub returns-then-not-branch-clause-late : goal.returns-then-not-branch-clause-late
returns-then-not-branch-clause-late g c =
    let seats = c.args.seats.now in
    let lanes = c.args.lanes.now in
    let seat = c.in-Some.seat in
    let lane = c.index_mut-2.result.now in
    let at = c.arc.result.tail.0 in
    let here = slice_get_read seats.items seats.len at (Some seat) seats.ok.0 (rw (← c.len-else-at-len.ensures) c.if-listener-len.false) (rw (← c.in-Some.is) c.index_mut.ensures.value) in
    let there = slice_get_read lanes.items lanes.len c.args.arc.0 lane lanes.ok.0 (rw (← c.len.ensures) c.if-at-len.false) c.index_mut-2.ensures.value in
    late_here g.N.NodeCore.state g.N.NodeCore.note g.N.NodeCore.kind c.args.net.now seats.items lanes.items at c.args.arc.0 seat lane here there (ap (option_map (λ (a : PureArc). a.tail)) c.arc.ensures.arc)
    (c.in_ok-take.ensures.late c.if-not-branch.true)

pub returns-clause-some : goal.returns-clause-some
returns-clause-some g c =
    let seats = c.args.seats.now in
    let lanes = c.args.lanes.now in
    let seat = c.in-Some.seat in
    let lane = c.index_mut-2.result.now in
    let at = c.arc.result.tail.0 in
    let here = slice_get_read seats.items seats.len at (Some seat) seats.ok.0 (rw (← c.len-else-at-len.ensures) c.if-listener-len.false) (rw (← c.in-Some.is) c.index_mut.ensures.value) in
    let there = slice_get_read lanes.items lanes.len c.args.arc.0 lane lanes.ok.0 (rw (← c.len.ensures) c.if-at-len.false) c.index_mut-2.ensures.value in
    let took = c.in_ok-take.ensures.taken c.if-not-branch.false in
    heard g.N.NodeCore.state g.N.NodeCore.note g.N.NodeCore.kind c.args.net.now seats.items lanes.items at (record { clock = c.take.new.seat.clock; arc = c.args.arc }) seat c.take.new.seat lane c.take.new.lane took.0
    (map (noted g.N.NodeCore.note) c.take.new.out) (ap (option_map (λ (a : PureArc). a.tail)) c.arc.ensures.arc) here there refl took.1 took.2 took.3 took.4 took.5
