-- Walks and their weights (Sobrinho 2005; Griffin and Sobrinho 2005).
use Rattle.std.specs.Prelude.{◌≡◌, ℕ, List, [], ◌∷◌, true, Option, None, option_and_then}
use Rattle.alg_model.specs.Expressions.{PureValue}
use Rattle.alg_model.specs.Application.{App}
use Rattle.net_graph.specs.Nets.{PureNet, has_arc, has_origin, label_between, origin_value}

-- one node with an origin of the destination; or a node, and a walk to whose first node it has an arc
abbrev pub Walk : PureNet → ℕ → List ℕ → Type 0
Walk net dest [] = ⊥
Walk net dest (i ∷ []) = has_origin net dest i ≡ true
Walk net dest (i ∷ j ∷ p) = (has_arc net i j ≡ true) × Walk net dest (j ∷ p)

-- what the arc from i to j makes of a value or none
abbrev pub along : PureNet → ℕ → ℕ → Option PureValue → Option PureValue
along net i j v = option_and_then (λ l. option_and_then (App net.alg.expression l) v) (label_between net i j)

-- the origin's value, changed by the labels of the arcs from the last to the first; none once a label
-- gives none
abbrev pub Weight : PureNet → ℕ → List ℕ → Option PureValue
Weight net dest [] = None
Weight net dest (i ∷ []) = origin_value net dest i
Weight net dest (i ∷ j ∷ p) = along net i j (Weight net dest (j ∷ p))
