-- The text of lines.
use Rattle.std.specs.Prelude.{ℕ, List, ◌++◌, codes}
use Rattle.std.specs.List.{flat_map}

-- a line feed ends each line
abbrev pub ended : List ℕ → List ℕ
ended line = line ++ codes "\n"

abbrev pub text_of : List (List ℕ) → List ℕ
text_of lines = flat_map ended lines
