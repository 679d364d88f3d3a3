-- How nodes are stored as values of a model: a record as the tuple of its fields.
use Rattle.std.specs.Prelude.{ℕ, Bool, List, refl}
use Rattle.std.specs.Coded.{Coded, code_by, coded×, coded_bool, coded_list, coded_ℕ}
use Rattle.alg_model.specs.Codes.{coded_label, coded_value}
use Rattle.alg_model.specs.Expressions.{PureLabel, PureValue}
use Rattle.net_graph.specs.Codes.{coded_net}
use Rattle.net_graph.specs.Nets.{PureNet}
use Rattle.flood_node.specs.Cards.{PureCardArc, PureCardOrigin, PureCard}
use Rattle.flood_node.specs.Node.{FloodState}

abbrev pub coded_card_arc : Coded PureCardArc
coded_card_arc = code_by (ℕ × PureLabel) (coded× coded_ℕ coded_label) (λ a. (a.head, a.label)) (λ p. record { head = p.0; label = p.1 }) (λ _. refl)

abbrev pub coded_card_origin : Coded PureCardOrigin
coded_card_origin = code_by (ℕ × PureValue) (coded× coded_ℕ coded_value) (λ o. (o.dest, o.value)) (λ p. record { dest = p.0; value = p.1 }) (λ _. refl)

abbrev pub coded_card : Coded PureCard
coded_card =
    code_by (ℕ × (List PureCardArc × List PureCardOrigin)) (coded× coded_ℕ (coded× (coded_list coded_card_arc) (coded_list coded_card_origin)))
    (λ c. (c.node, (c.arcs, c.origins))) (λ p. record { node = p.0; arcs = p.1.0; origins = p.1.1 }) (λ _. refl)

abbrev pub coded_state : Coded FloodState
coded_state =
    code_by (PureNet × (ℕ × (Bool × (List PureCard × ℕ))))
    (coded× coded_net (coded× coded_ℕ (coded× coded_bool (coded× (coded_list coded_card) coded_ℕ))))
    (λ s. (s.net, (s.number, (s.is_begun, (s.cards, s.last)))))
    (λ p. record { net = p.0; number = p.1.0; is_begun = p.1.1.0; cards = p.1.1.1.0; last = p.1.1.1.1 }) (λ _. refl)
