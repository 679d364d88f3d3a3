use Rattle.std.proofs.Common.{◌≡◌, map, subst}
use Rattle.std.specs.Prelude.{OnOk}
use Rattle.net_graph.specs.Nets.{arcs_to}
use Rattle.flood_node.specs.Views.{noted, pure_flooded}
use Rattle.flood_node.proofs.Tellings.{reported_ids}
use Rattle.flood_node.proofs.telling.tell.Goals as goal

pub returns : goal.returns
returns c = subst (λ z. OnOk c.tell_all.result (map noted c.tell_all.new.out.items ≡ z)) (reported_ids c.listeners.result.now (arcs_to c.args.net.now c.args.node.0) (pure_flooded c.args.message) c.listeners.ensures) c.tell_all.ensures
