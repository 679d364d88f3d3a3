use denote.Param.Send.{sendable}
use Rattle.std.proofs.Common.{map, subst, sym, ◌∙◌}
use Rattle.std.proofs.Crossing.{crosses}
use Rattle.std.proofs.lemmas.List.{map-id}
use Rattle.node_core.specs.Machine.{AreUnbegun}
use Rattle.node_runs.specs.Runs.{IsPhaseOf}
use Rattle.weave.proofs.Sent.{net_sync}
use Rattle.flood_node.proofs.Sent.{card_send, card_sync}
use Rattle.flood_node.specs.Node.{flooding}
use Rattle.flood_node.specs.Ready.{new_are_unbegun}
use Rattle.flood_runs.specs.Floods.{new_nodes}
use Rattle.flood_runs.proofs.run.run_flood.Goals as goal

pub run_once-requires-send-F-Node : goal.run_once-requires-send-F-Node
run_once-requires-send-F-Node g c κs within = search (net_sync, card_send, card_sync, crosses, sendable) depth 60 fits 20000

pub run_once-requires-clause-nodes : goal.run_once-requires-clause-nodes
run_once-requires-clause-nodes g c _ _ =
    subst (AreUnbegun flooding c.args.net.now 0) (sym (map-id c.in_ok-nodes.nodes ∙ c.in_ok-nodes.ensures)) (new_are_unbegun c.args.net.now)

pub returns : goal.returns
returns g c =
    let net = c.args.net.now in
    let turns = c.args.budget.turns in
    let ran = c.in_ok-rows.field-0 in
    let is = c.in_ok-rows.ensures in
    record {
      states = ran.nodes;
      phase = subst (λ z. IsPhaseOf flooding net (new_nodes net) turns ran.journal ran.is_quiet z) (map-id ran.nodes)
          (subst (λ z. IsPhaseOf flooding net z turns ran.journal ran.is_quiet (map (λ n. n) ran.nodes)) (map-id c.in_ok-nodes.nodes ∙ c.in_ok-nodes.ensures) is.phase);
      rows_are = is.found;
    }
