use Rattle.std.proofs.Common.{◌≡◌, ◌+◌, Some, length, option_map, refl, ap, arith}
use Rattle.std.proofs.lemmas.Bool.Decides.{nat_tests}
use Rattle.std.proofs.lemmas.Option.{get_or_from_slice_get, slice_get_read}
use Rattle.net_graph.specs.Nets.{PureArc}
use Rattle.node_core.specs.declared.node.TheConstants.{MAX_CLOCK}
use Rattle.node_core.specs.Kinds.{listener}
use Rattle.node_core.specs.Machine.{clock_after}
use Rattle.node_core.specs.MachineOf.{machine_of}
use Rattle.node_core.proofs.Parts.{first_waits, front_within}
use Rattle.node_core.proofs.config.Config.front_clock.Goals as goal

pub overflow_add-result : goal.overflow_add-result
overflow_add-result g c =
    let k = g.N.NodeCore.kind in
    let note = g.N.NodeCore.note in
    let self = c.args.self.now in
    let now = machine_of g.N.NodeCore.state note self in
    let arc = c.args.arc.0 in
    let tail = c.arc.result.tail.0 in
    let first = c.in_ok-message.message.now in
    let listens : listener self.net.now arc ≡ Some tail = ap (option_map (λ (a : PureArc). a.tail)) c.arc.ensures.arc in
    let waits = first_waits note self.links.items arc c.index.result.now first (omega (arith, c.requires, self.link_count, self.links.ok.0)) c.index.ensures
    (let some = c.in_ok-message.ensures.item.0 in grind (arith, nat_tests)) c.in_ok-message.ensures.lookup in
    let clock = get_or_from_slice_get self.clocks.items tail c.index-2.result.now 0
    (slice_get_read self.clocks.items (length self.clocks.items) tail c.index-2.result.now refl (omega (arith, c.arc.ensures.within.tail_in, self.clock_count, self.clocks.ok.0)) c.index-2.ensures) in
    let same : c.max.result + 1 ≡ clock_after k now tail (note first) = rw (c.max.ensures, c.stamp.ensures, clock) refl in
    let within = front_within k g.met.N.NodeCore.lawful self.net.now now arc tail MAX_CLOCK (note first) self.early listens waits in
    omega (arith, same, within)

pub returns : goal.returns
returns g c =
    let k = g.N.NodeCore.kind in
    let note = g.N.NodeCore.note in
    let self = c.args.self.now in
    let now = machine_of g.N.NodeCore.state note self in
    let arc = c.args.arc.0 in
    let tail = c.arc.result.tail.0 in
    let first = c.in_ok-message.message.now in
    let listens : listener self.net.now arc ≡ Some tail = ap (option_map (λ (a : PureArc). a.tail)) c.arc.ensures.arc in
    let waits = first_waits note self.links.items arc c.index.result.now first (omega (arith, c.requires, self.link_count, self.links.ok.0)) c.index.ensures
    (let some = c.in_ok-message.ensures.item.0 in grind (arith, nat_tests)) c.in_ok-message.ensures.lookup in
    let clock = get_or_from_slice_get self.clocks.items tail c.index-2.result.now 0
    (slice_get_read self.clocks.items (length self.clocks.items) tail c.index-2.result.now refl (omega (arith, c.arc.ensures.within.tail_in, self.clock_count, self.clocks.ok.0)) c.index-2.ensures) in
    let same : c.max.result + 1 ≡ clock_after k now tail (note first) = rw (c.max.ensures, c.stamp.ensures, clock) refl in
    rw (listens, waits, same) refl
