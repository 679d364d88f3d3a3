-- What is sent of rows of the program.
use Rattle.std.specs.Prelude.{Option, option_map}
use Rattle.alg_model.specs.Expressions.{PureValue}
use Rattle.distance_node.specs.declared.chosen.Chosen.{Chosen}

-- the value of a row, or none
abbrev pub reported_of : {S : Type 0} → (S → PureValue) → Option (Chosen S) → Option PureValue
reported_of value row = option_map (λ (r : Chosen _). value r.sig) row
