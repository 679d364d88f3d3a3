use Rattle.node_core.specs.Machine.{Start}
use Rattle.node_core.specs.MachineLaws.{start_runs, replay_runs}
use Rattle.node_core.specs.OrderLaws.{journal_up_to}
use Rattle.node_core.proofs.laws.replays_run.Goals as goal

pub returns-clause-running : goal.returns-clause-running
returns-clause-running g c net nodes journal machine is_net unbegun e =
    let k = g.N.NodeCore.kind in
    let lawful = g.met.N.NodeCore.lawful in
    replay_runs k lawful net is_net journal (Start k nodes) machine (start_runs k lawful net is_net nodes unbegun) e

pub returns-clause-clocks : goal.returns-clause-clocks
returns-clause-clocks g c net nodes journal machine e = journal_up_to g.N.NodeCore.kind g.met.N.NodeCore.lawful net nodes journal machine e
