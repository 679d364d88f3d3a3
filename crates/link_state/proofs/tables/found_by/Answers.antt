use denote.Param.Send.{sendable}
use Rattle.std.proofs.Crossing.{crosses}
use Rattle.link_state.proofs.Sent.{labels_sync, net_sync}
use Rattle.link_state.proofs.tables.found_by.Goals as goal

pub for_each_mut-requires-sync-F : goal.for_each_mut-requires-sync-F
for_each_mut-requires-sync-F g c κs within =
    let sig = c.type_bounds.send-A-Sig in
    let lab = c.type_bounds.sync-A-Lab in
    let algebra = c.type_bounds.sync-A in
    search (net_sync, labels_sync, crosses, sendable) depth 60 fits 20000
