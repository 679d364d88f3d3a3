use denote.Param.Send.{sendable}
use Rattle.std.proofs.Crossing.{crosses}
use Rattle.weave.proofs.Sent.{net_sync}
use Rattle.thread_tests.proofs.replays.quiet_as_reported.Goals as goal

pub run-requires-sync-G : goal.run-requires-sync-G
run-requires-sync-G g c κs within = search (net_sync, crosses, sendable) depth 60 fits 20000
