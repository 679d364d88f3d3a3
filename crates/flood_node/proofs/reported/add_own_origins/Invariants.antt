use Rattle.std.proofs.Common.{◌≡◌, ◌++◌, take}
use Rattle.flood_node.specs.Cards.{card_of}
use Rattle.flood_node.specs.Rows.{origins_on}
use Rattle.flood_node.proofs.reported.add_own_origins.Given as goal

-- the card's origins so far
abbrev pub invariant-loop-origin : goal.invariant-loop-origin
invariant-loop-origin l = l.draft ≡ record l.fn.draft {
  origins = l.fn.draft.origins ++ origins_on l.fn.card.node.0 (take l.origin-index (card_of l.fn.net l.fn.card.node.0).origins);
}
