use denote.Param.Send.{sendable}
use Rattle.std.proofs.Crossing.{crosses}
use Rattle.weave.proofs.Sent.{net_sync}
use Rattle.weave.proofs.rounds.run_workers.Goals as goal

pub for_each_mut-requires-sync-F : goal.for_each_mut-requires-sync-F
for_each_mut-requires-sync-F g c κs within =
    let gate = c.type_bounds.sync-G in
    let runtime = c.type_bounds.sync-R in
    search (net_sync, crosses, sendable) depth 60 fits 20000
