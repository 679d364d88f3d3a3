use Rattle.std.proofs.Common.{subst, sym}
use Rattle.net_graph.specs.Nets.{IsNet}
use Rattle.node_core.specs.MachineOf.{machine_of, net_of}
use Rattle.flood_node.specs.Knowing.{IsFlood}
use Rattle.flood_node.specs.Views.{pure_flooded}
use Rattle.flood_tests.proofs.Kept.{still_floods}
use Rattle.flood_tests.proofs.floods.deliver_some.Goals as goal

pub loop-made-preserved : goal.loop-made-preserved
loop-made-preserved c =
    let old = c.loop-made.config in
    let new = c.make_delivery.new.config in
    let so = c.loop-made.invariant in
    let machine = machine_of (λ n. n) pure_flooded in
    let net = c.in_ok-make_delivery.ensures.net in
    record {
      net = subst IsNet (sym net) so.net;
      flood = subst (λ z. IsFlood z (machine new)) (sym net)
          (still_floods (net_of old) (machine old) (machine new) c.in-Some.arc.0 c.in_ok-make_delivery.field-0 so.net so.flood c.in_ok-make_delivery.ensures.taken c.in_ok-make_delivery.ensures.empty);
      begun = c.in_ok-make_delivery.ensures.begun;
    }
