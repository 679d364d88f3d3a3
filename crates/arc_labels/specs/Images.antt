-- What a label makes of a value, in a place.
use Rattle.std.specs.Prelude.{Bool, Option, option_and_then}
use Rattle.alg_model.specs.Actions.{held}

-- what stands in a place, where the call that may have put it there says so
abbrev pub made_in : {X : Type 0} → Bool → Option X → Option X
made_in placed o = option_and_then (held placed) o
