use denote.Param.Send.{sendable}
use Rattle.std.proofs.Crossing.{crosses}
use Rattle.thread_tests.proofs.Ends.{ended_nets}
use Rattle.weave.proofs.Sent.{net_sync}
use Rattle.thread_tests.proofs.runs.run_with.Goals as goal

pub weave-requires-send-N : goal.weave-requires-send-N
weave-requires-send-N g c κs within =
    let sig = c.type_bounds.send-A-Sig in
    let lab = c.type_bounds.send-A-Lab in
    let algebra = c.type_bounds.sync-A in
    search (net_sync, crosses, sendable) depth 60 fits 20000

pub rows_of-requires : goal.rows_of-requires
rows_of-requires g c =
    let net = c.args.net.now in
    (net, rw c.as_slice.ensures (ended_nets net c.requires.net _ c.in_ok-nodes.ensures _ _ _ _ _ c.in_ok-nodes-2.ensures))
