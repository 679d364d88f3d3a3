-- When a node's row and what one arc newly offers tell its choice, whatever its other arcs offer.
use Rattle.std.specs.Prelude.{◌≡◌, ℕ, List, [], ◌∷◌, Bool, true, false, Option, Some, None, cond, option_and_then}
use Rattle.alg_model.specs.Expressions.{PureCarrier}
use Rattle.net_graph.specs.Nets.{PureArc, PureNet}
use Rattle.net_graph.specs.Routes.{PureRoute, is_better}
use Rattle.net_graph.specs.Tables.{carrier}
use Rattle.path_vector.specs.Node.{begins_with, choice, offer_by}

-- the node is the second on the path
abbrev pub is_next : ℕ → List ℕ → Bool
is_next j [] = false
is_next j (i ∷ after) = begins_with j after

-- there is a row, and it goes by that neighbour
abbrev pub goes_by : ℕ → Option PureRoute → Bool
goes_by j None = false
goes_by j (Some r) = is_next j r.path

-- there is a row, and the offer is worse, or there is none
abbrev pub is_worse : PureCarrier → Option PureRoute → Option PureRoute → Bool
is_worse c offer None = false
is_worse c None (Some b) = true
is_worse c (Some x) (Some b) = is_better c b x

-- The choice once a neighbour's offer was replaced: the new offer, where it is no worse than the row, and else the
-- row, where it doesn't go by that neighbour. A row that does is lost then, and nothing is settled.
abbrev pub settled : PureCarrier → ℕ → Option PureRoute → Option PureRoute → Option (Option PureRoute)
settled c j row offer = cond (is_worse c offer row) (cond (goes_by j row) None (Some row)) (Some offer)

-- what is settled by the row and by what was heard on the arc is the node's choice
abbrev pub Settles : PureNet → ℕ → ℕ → (ℕ → ℕ → Option PureRoute) → PureArc → Option PureRoute → Type 0
Settles net dest i heard a row = (o : Option PureRoute) → settled (carrier net) a.head row (option_and_then (offer_by net a) (heard a.id dest)) ≡ Some o → choice net dest i heard ≡ o
