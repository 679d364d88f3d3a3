-- A card is shared among threads, so nodes and what they send may go to another thread.
use denote.Param.Send.{IsSend, IsSync, sendable}
use Rattle.std.proofs.Crossing.{crosses}
use Rattle.alg_model.proofs.tree.Label.TheLaws.TheKnot as label
use Rattle.alg_model.proofs.tree.Value.TheLaws.TheKnot as value
use Rattle.flood_node.specs.contracts.card.Card as card

pub card_send : IsSend card.the_row
card_send = search (crosses, label.crosses, value.crosses, sendable) depth 60 fits 20000

pub card_sync : IsSync card.the_row
card_sync = search (crosses, label.crosses, value.crosses, sendable) depth 60 fits 20000
