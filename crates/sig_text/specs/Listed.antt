-- Numbers that are printed one after another.
use Rattle.std.specs.Prelude.{ℕ, List, [], ◌∷◌, ◌++◌, Bool, if◌then◌else◌, codes, decimal}
use Rattle.alg_model.specs.Texts.{more_numbers}

-- the numbers with commas between them, after this separator
abbrev pub listed : List ℕ → List ℕ → List ℕ
listed separator [] = []
listed separator (n ∷ ns) = separator ++ (decimal n ++ more_numbers ns)

-- what stands before a number that follows others, or none
abbrev pub separator : Bool → List ℕ
separator follows = if follows then codes "," else []
