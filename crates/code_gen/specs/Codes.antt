-- Codes that are kept once each.
use Rattle.std.specs.Prelude.{ℕ, List, [], map, slice_index_or}
use Rattle.label_code.specs.declared.operations.Op.{Op}

-- the codes at these numbers
abbrev pub codes_at : List (List Op) → List ℕ → List (List Op)
codes_at codes numbers = map (λ n. slice_index_or codes n []) numbers
