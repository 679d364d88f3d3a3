use Rattle.std.proofs.Common.{◌≡◌, ℕ, None, length, map, replicate, take}
use Rattle.std.specs.Arc.{arc_value}
use Rattle.flood_node.specs.Node.{has_card}
use Rattle.flood_node.specs.Rows.{AreTrueAt, is_placed}
use Rattle.flood_node.specs.Views.{pure_card}
use Rattle.flood_node.proofs.reported.cards_by_node.Given as goal

-- no card so far
abbrev pub invariant-loop-made : goal.invariant-loop-made
invariant-loop-made l = l.placed.items ≡ replicate l._made None

-- the cards so far stand at the places of their nodes
abbrev pub invariant-loop-card : goal.invariant-loop-card
invariant-loop-card l = record {
  count : length l.placed.items ≡ length l.fn.net.nodes;
  cards : AreTrueAt (λ c. pure_card c.now) l.fn.net l.placed.items;
  placed : (i : ℕ) → is_placed l.placed.items i ≡ has_card (map (λ c. pure_card (arc_value c)) (take l.card-index l.fn.cards)) i;
}
