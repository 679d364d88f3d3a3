-- What cards and messages of the program stand for.
use Rattle.std.specs.Prelude.{ℕ, map}
use Rattle.std.specs.Arc.{arc_value}
use Rattle.meta_base.specs.declared.ids.ArcId.{ArcId}
use Rattle.alg_model.specs.Views.{pure_label, pure_value}
use Rattle.flood_node.specs.declared.card.CardArc.{CardArc}
use Rattle.flood_node.specs.declared.card.CardOrigin.{CardOrigin}
use Rattle.flood_node.specs.declared.card.Card.{Card}
use Rattle.flood_node.specs.declared.card.Flooded.{Flooded}
use Rattle.flood_node.specs.Cards.{PureCardArc, PureCardOrigin, PureCard, PureFlooded}

abbrev pub pure_card_arc : CardArc → PureCardArc
pure_card_arc a = record { head = a.head.0; label = pure_label a.label }

abbrev pub pure_card_origin : CardOrigin → PureCardOrigin
pure_card_origin o = record { dest = o.dest.0; value = pure_value o.value }

abbrev pub pure_card : Card → PureCard
pure_card c = record { node = c.node.0; arcs = map pure_card_arc c.arcs; origins = map pure_card_origin c.origins }

abbrev pub pure_flooded : Flooded → PureFlooded
pure_flooded m = record { card = pure_card (arc_value m.card); stamp = m.stamp }

-- a message that is put on an arc
abbrev pub noted : ArcId × Flooded → ℕ × PureFlooded
noted p = (p.0.0, pure_flooded p.1)
