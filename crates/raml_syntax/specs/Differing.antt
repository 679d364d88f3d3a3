-- Lists of names no two of which are the same.
use Rattle.std.specs.Prelude.{ℕ, List, Bool}
use Rattle.alg_model.specs.Formation.{are_distinct}

-- no two of them are the same
abbrev pub differ : List (List ℕ) → Bool
differ names = are_distinct (λ (name : List ℕ). name) names
