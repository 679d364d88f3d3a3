use denote.Param.Send.{IsSend, IsSync, sendable}
use Rattle.std.proofs.Crossing.{crosses}
use Rattle.alg_model.proofs.tree.Label.TheLaws.TheKnot as label
use Rattle.alg_model.proofs.tree.Tree.TheLaws.TheKnot as tree
use Rattle.alg_model.proofs.tree.Value.TheLaws.TheKnot as value
use Rattle.net_graph.specs.contracts.net.Net.{the_row}
use Rattle.reader_tests.proofs.networks.networks_are_filed.Goals as goal

net_send : IsSend the_row
net_send = search (crosses, label.crosses, tree.crosses, value.crosses, sendable) depth 60 fits 20000

net_sync : IsSync the_row
net_sync = search (crosses, label.crosses, tree.crosses, value.crosses, sendable) depth 60 fits 20000

pub is_shared-requires-2-send-T : goal.is_shared-requires-2-send-T
is_shared-requires-2-send-T g c κs = search (net_send, crosses, sendable) depth 60 fits 20000

pub is_shared-requires-2-sync-T : goal.is_shared-requires-2-sync-T
is_shared-requires-2-sync-T g c κs = search (net_sync, crosses, sendable) depth 60 fits 20000
