-- The printed text of runs.
use Rattle.std.specs.Prelude.{ℕ, List, ◌++◌, Bool, codes, decimal, if◌then◌else◌}

-- phase K
abbrev pub phase_text : ℕ → List ℕ
phase_text number = codes "phase " ++ decimal number ++ codes "\n"

-- quiet N or spent N
abbrev pub end_text : Bool → ℕ → List ℕ
end_text quiet deliveries = (if quiet then codes "quiet " else codes "spent ") ++ decimal deliveries ++ codes "\n"
