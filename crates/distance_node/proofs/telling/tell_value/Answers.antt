use Rattle.std.proofs.Common.{◌≤◌, ◌++◌, List, ℕ, Some, length, map, ap, ◌∙◌, arith}
use Rattle.meta_base.specs.declared.ids.ArcId.{ArcId}
use Rattle.net_graph.specs.Nets.{arcs_to}
use Rattle.distance_node.specs.Node.{PureVector}
use Rattle.distance_node.specs.Vectors.{noted}
use Rattle.distance_node.proofs.Arrived.{take_whole}
use Rattle.distance_node.proofs.Tellings.{reported_ids}
use Rattle.distance_node.proofs.telling.tell_value.Goals as goal

pub returns : goal.returns
returns g c =
    let at = c.args.site.now in
    let items = c.listeners-listeners.result.now in
    let m : PureVector = record { dest = c.args.dest.0; value = Some (g.A.Algebra.sig_value at.algebra.now c.args.sig.now); stamp = c.args.clock } in
    let past : length items ≤ c.loop-arc.arc-index = (let l = c.loop-arc-test.false in omega (arith, l)) in
    c.loop-arc.invariant.reported
    ∙ (ap (λ (l : List ArcId). map noted c.args.out.now.items ++ map {B = ℕ × PureVector} (λ (a : ArcId). (a.0, m)) l) (take_whole items c.loop-arc.arc-index past)
    ∙ ap (λ (l : List (ℕ × PureVector)). map noted c.args.out.now.items ++ l) (reported_ids items (arcs_to at.net.now at.node.0) m c.listeners-listeners.ensures))
