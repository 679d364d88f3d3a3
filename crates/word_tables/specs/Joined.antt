-- The routes of all destinations.
use Rattle.std.specs.Prelude.{ℕ, ◌+◌, List, [], ◌∷◌, length}
use Rattle.std.specs.List.{AllByRecursion}
use Rattle.alg_model.specs.Expressions.{PureValue}
use Rattle.net_graph.specs.Nets.{CanBeNumbered}
use Rattle.net_graph.specs.Tables.{PureRow}
use Rattle.best_first.specs.Numbered.{PureFixed}
use Rattle.best_first.specs.Fixed.{fixed_rows, AreFixedBy}

-- the rows of each destination from k on
abbrev pub all_fixed_rows : {S : Type 0} → (S → PureValue) → ℕ → List (PureFixed S) → List (List PureRow)
all_fixed_rows value k [] = []
all_fixed_rows value k (fixed ∷ found) = fixed_rows value k fixed ∷ all_fixed_rows value (k + 1) found

-- the values and the paths of all routes are there
abbrev pub AreAllFixed : {S : Type 0} → (S → Type 0) → List (PureFixed S) → Type 0
AreAllFixed is_sig found = AllByRecursion (λ fixed. AreFixedBy is_sig fixed.rows fixed.paths × CanBeNumbered (length fixed.rows)) found
