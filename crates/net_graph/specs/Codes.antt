-- How networks and changes are stored as values of a model: a record as the tuple of its fields.
use Rattle.std.specs.Prelude.{◌≡◌, ℕ, List, Option, Some, None, refl}
use Rattle.std.specs.Coded.{Coded, code_by, coded×, coded_list, coded_option, coded_ℕ}
use Rattle.alg_model.specs.Expressions.{PureAlg, PureLabel, PureValue}
use Rattle.alg_model.specs.Codes.{coded_alg, coded_label, coded_value}
use Rattle.net_graph.specs.Nets.{PureArc, PureOrigin, PureNet}
use Rattle.net_graph.specs.Changes.{PureChange, link, drop}

abbrev pub coded_arc : Coded PureArc
coded_arc =
    code_by (ℕ × (ℕ × (ℕ × PureLabel))) (coded× coded_ℕ (coded× coded_ℕ (coded× coded_ℕ coded_label)))
    (λ a. (a.id, (a.tail, (a.head, a.label)))) (λ p. record { id = p.0; tail = p.1.0; head = p.1.1.0; label = p.1.1.1 }) (λ _. refl)

abbrev pub coded_origin : Coded PureOrigin
coded_origin =
    code_by (ℕ × (ℕ × PureValue)) (coded× coded_ℕ (coded× coded_ℕ coded_value))
    (λ o. (o.node, (o.dest, o.value))) (λ p. record { node = p.0; dest = p.1.0; value = p.1.1 }) (λ _. refl)

abbrev pub coded_arcs : Coded (List PureArc)
coded_arcs = coded_list coded_arc

abbrev pub coded_names : Coded (List (List ℕ))
coded_names = coded_list (coded_list coded_ℕ)

abbrev pub coded_net : Coded PureNet
coded_net =
    code_by (PureAlg × (List (List ℕ) × (List (List ℕ) × (List PureArc × List PureOrigin))))
    (coded× coded_alg (coded× coded_names (coded× coded_names (coded× coded_arcs (coded_list coded_origin)))))
    (λ n. (n.alg, (n.nodes, (n.dests, (n.arcs, n.origins)))))
    (λ p. record { alg = p.0; nodes = p.1.0; dests = p.1.1.0; arcs = p.1.1.1.0; origins = p.1.1.1.1 }) (λ _. refl)

-- a change as its nodes, and its label if it has one
abbrev change_parts : PureChange → ℕ × (ℕ × Option PureLabel)
change_parts (link tail head l) = (tail, (head, Some l))
change_parts (drop tail head) = (tail, (head, None))

abbrev change_between : ℕ → ℕ → Option PureLabel → PureChange
change_between tail head (Some l) = link tail head l
change_between tail head None = drop tail head

abbrev change_of : ℕ × (ℕ × Option PureLabel) → PureChange
change_of p = change_between p.0 p.1.0 p.1.1

pub change_again : (c : PureChange) → change_of (change_parts c) ≡ c
change_again (link tail head l) = refl
change_again (drop tail head) = refl

abbrev pub coded_change : Coded PureChange
coded_change =
    code_by (ℕ × (ℕ × Option PureLabel)) (coded× coded_ℕ (coded× coded_ℕ (coded_option coded_label)))
    change_parts change_of change_again
