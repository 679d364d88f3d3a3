use Rattle.std.proofs.Common.{◌≡◌}
use Rattle.flood_node.specs.Rows.{is_placed, reported_origins}
use Rattle.flood_node.proofs.reported.add_origins.Given as goal

-- the origins of the nodes so far that have a card
abbrev pub invariant-loop-card : goal.invariant-loop-card
invariant-loop-card l = l.draft ≡ record l.fn.draft { origins = reported_origins l.fn.net (is_placed l.fn.cards) l.card-index }
