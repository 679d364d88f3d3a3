-- What a node heard, as it stands in one list: destination by destination, an entry for each of the node's arcs.
use Rattle.std.specs.Prelude.{ℕ, suc, ◌+◌, ◌*◌, ◌==◌, List, [], ◌∷◌, Option, Some, None, cond, length, map, option_map, option_and_then}
use Rattle.alg_model.specs.Expressions.{PureValue}
use Rattle.net_graph.specs.Nets.{PureArc, PureNet, arcs_from}
use Rattle.distance_node.specs.Chosen.{entry_of}

-- where the arc of that number stands among these
abbrev pub place_of : ℕ → List PureArc → Option ℕ
place_of a [] = None
place_of a (b ∷ arcs) = cond (b.id == a) (Some 0) (option_map (λ k. suc k) (place_of a arcs))

-- how many arcs the node may route by
abbrev pub width : PureNet → ℕ → ℕ
width net i = length (arcs_from net i)

-- what was heard on an arc of a destination
abbrev pub heard_in : {X : Type 0} → PureNet → ℕ → List (Option X) → ℕ → ℕ → Option X
heard_in net i entries a dest = option_and_then (λ k. entry_of entries (dest * width net i + k)) (place_of a (arcs_from net i))

-- the same as values
abbrev pub values_in : {S : Type 0} → (S → PureValue) → List (Option S) → List (Option PureValue)
values_in value entries = map (option_map value) entries

abbrev pub heard_by : {S : Type 0} → (S → PureValue) → PureNet → ℕ → List (Option S) → ℕ → ℕ → Option PureValue
heard_by value net i entries = heard_in net i (values_in value entries)
