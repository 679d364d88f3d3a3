use Rattle.std.proofs.Common.{◌≡◌, map, subst}
use Rattle.std.specs.Prelude.{IfOk}
use Rattle.net_graph.specs.Nets.{arcs_to}
use Rattle.path_vector.specs.Updates.{noted, pure_update}
use Rattle.path_vector.proofs.Reportings.{reported_ids}
use Rattle.path_vector.proofs.reporting.reported.Goals as goal

pub returns : goal.returns
returns c = subst (λ z. IfOk c.report_all.result (λ out. map noted out ≡ z)) (reported_ids c.listeners.result.now (arcs_to c.args.net.now c.args.node.0) (pure_update c.args.update) c.listeners.ensures) c.report_all.ensures
