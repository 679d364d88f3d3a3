use Rattle.std.proofs.Common.{◌≡◌, [], take}
use Rattle.flood_node.specs.Rows.{is_placed}
use Rattle.flood_node.proofs.ReportedNets.{reported_arcs}
use Rattle.flood_node.proofs.reported.add_arcs.Given as goal

-- the arcs of the network so far whose tails have a card
abbrev pub invariant-loop-number : goal.invariant-loop-number
invariant-loop-number l = l.draft ≡ record l.fn.net { arcs = reported_arcs (is_placed l.fn.cards) (take l.number l.fn.net.arcs); origins = [] }
